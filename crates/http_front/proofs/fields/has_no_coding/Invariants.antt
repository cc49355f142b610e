use Rattle.std.proofs.Common.{◌≡◌, take, true, codes}
use Rattle.std.specs.List.{list_all}
use Rattle.std.specs.Str.{str_eq_ignore_ascii_case}
use Rattle.http_message.specs.Fields.{values}
use Rattle.http_front.proofs.fields.has_no_coding.Given as goal

abbrev pub invariant-loop-index : goal.invariant-loop-index
invariant-loop-index l =
    list_all (λ value. str_eq_ignore_ascii_case value (codes "identity"))
    (values (codes "content-encoding") (take l.index l.request.fields))
    ≡ true
