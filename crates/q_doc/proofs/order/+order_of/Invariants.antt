use Rattle.std.proofs.Common.{◌≡◌, ◌+◌, ◌*◌, drop}
use Rattle.q_doc.specs.Tree.{depth, items_depth, members_depth, items_of, members_of}
use Rattle.q_doc.specs.Order.{items_cmp, members_cmp}
use Rattle.q_doc.proofs.order.+order_of.Given as goal

abbrev pub decreases-order_of : goal.decreases-order_of
decreases-order_of l = 2 * depth l.a.now

abbrev pub decreases-order_of_items : goal.decreases-order_of_items
decreases-order_of_items l = 2 * items_depth (items_of l.xs.now) + 1

abbrev pub decreases-order_of_members : goal.decreases-order_of_members
decreases-order_of_members l = 2 * members_depth (members_of l.xs.now) + 1

abbrev pub invariant-order_of_items-loop-i : goal.invariant-order_of_items-loop-i
invariant-order_of_items-loop-i l =
    items_cmp (items_of l.xs) (items_of l.ys) ≡ items_cmp (items_of (drop l.i l.xs)) (items_of (drop l.i l.ys))

abbrev pub invariant-order_of_members-loop-i : goal.invariant-order_of_members-loop-i
invariant-order_of_members-loop-i l =
    members_cmp (members_of l.xs) (members_of l.ys) ≡ members_cmp (members_of (drop l.i l.xs)) (members_of (drop l.i l.ys))
