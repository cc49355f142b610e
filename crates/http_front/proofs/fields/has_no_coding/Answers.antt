use Rattle.std.proofs.Common.{◌≤◌, length, take, sym, ◌∙◌, codes, refl, arith}
use Rattle.std.proofs.lemmas.List.{take_all}
use Rattle.std.specs.Str.{str_eq_ignore_ascii_case}
use Rattle.http_message.specs.Fields.{values}
use Rattle.http_front.specs.Asks.{has_no_coding}
use Rattle.http_front.proofs.FieldLemmas.{values-nil, all_fails}
use Rattle.http_front.proofs.fields.has_no_coding.Goals as goal

pub loop-index-init : goal.loop-index-init
loop-index-init c = rw values-nil refl

pub returns-in-loop-index : goal.returns-in-loop-index
unfolding has_no_coding
returns-in-loop-index c =
    let fields = c.args.request.now.fields in
    let name = codes "content-encoding" in
    sym (all_fails (λ value. str_eq_ignore_ascii_case value (codes "identity")) name fields c.loop-index.index
    (values name (take c.loop-index.index fields)) c.in-Some.coding.now (c.in-Some.ensures {u = tt})
    (sym c.is_same_word.ensures ∙ c.if-not-is_same_word.true))

pub returns : goal.returns
unfolding has_no_coding
returns c =
    let fields = c.args.request.now.fields in
    let past : length fields ≤ c.loop-index.index = omega arith in
    let whole = take_all c.loop-index.index fields past in
    sym (rw whole at c.loop-index.invariant)
