use Rattle.std.proofs.Common.{◌≡◌, drop}
use Rattle.query_normal.specs.TextOrder.{first_difference}
use Rattle.query_normal.proofs.text_order.first_difference.Given as goal

abbrev pub invariant-loop-index : goal.invariant-loop-index
invariant-loop-index l = first_difference l.a l.b ≡ first_difference (drop l.index l.a) (drop l.index l.b)
