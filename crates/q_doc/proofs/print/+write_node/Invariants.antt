use Rattle.std.proofs.Common.{◌≡◌, ◌+◌, ◌*◌, ◌++◌, drop}
use Rattle.q_doc.specs.Tree.{depth, items_depth, members_depth, items_of, members_of}
use Rattle.q_doc.specs.Printed.{items_tokens, members_tokens}
use Rattle.q_doc.proofs.print.+write_node.Given as goal

abbrev pub decreases-write_node : goal.decreases-write_node
decreases-write_node l = 2 * depth l.node.now

abbrev pub decreases-write_items : goal.decreases-write_items
decreases-write_items l = 2 * items_depth (items_of l.items.now.items) + 1

abbrev pub decreases-write_members : goal.decreases-write_members
decreases-write_members l = 2 * members_depth (members_of l.members.now.items) + 1

abbrev pub invariant-write_items-loop-item : goal.invariant-write_items-loop-item
invariant-write_items-loop-item l =
    (l.out.before ≡ l.initial.out.before)
    × (l.out.tokens ++ items_tokens (items_of (drop l.item-index l.item-items)) ≡ l.initial.out.tokens ++ items_tokens (items_of l.item-items))

abbrev pub invariant-write_members-loop-member : goal.invariant-write_members-loop-member
invariant-write_members-loop-member l =
    (l.out.before ≡ l.initial.out.before)
    × (l.out.tokens ++ members_tokens (members_of (drop l.member-index l.member-items)) ≡ l.initial.out.tokens ++ members_tokens (members_of l.member-items))
