use Rattle.std.proofs.Common.{◌≡◌, ◌++◌, take, codes}
use Rattle.std.specs.List.{flat_map}
use Rattle.query_core.specs.Print.{order_item_text}
use Rattle.query_core.proofs.print.write_order.Given as goal

abbrev pub invariant-loop-item : goal.invariant-loop-item
invariant-loop-item l = l.out.items ≡ l.initial.out.items ++ flat_map (λ y. codes "," ++ order_item_text y) (take l.item-index l.rest)
