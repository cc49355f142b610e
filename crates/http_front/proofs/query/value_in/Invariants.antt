use Rattle.std.proofs.Common.{◌≡◌, drop}
use Rattle.http_front.specs.Filters.{letter_of, text_in}
use Rattle.http_front.proofs.query.value_in.Given as goal

abbrev pub invariant-loop-value : goal.invariant-loop-value
invariant-loop-value l =
    text_in (letter_of l.field) (drop l.value-index l.values) ≡ text_in (letter_of l.field) l.values
