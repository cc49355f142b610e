use Rattle.std.proofs.Common.{◌≡◌, ◌+◌, ◌*◌, drop}
use Rattle.q_doc.specs.Tree.{depth, items_depth, members_depth, items_of, members_of}
use Rattle.q_doc.specs.Printed.{items_data, members_data}
use Rattle.q_doc.proofs.DataLength.{elements_size, entries_size}
use Rattle.q_doc.proofs.print_length.+length_of.Given as goal

abbrev pub decreases-length_of : goal.decreases-length_of
decreases-length_of l = 2 * depth l.node.now

abbrev pub decreases-length_of_items : goal.decreases-length_of_items
decreases-length_of_items l = 2 * items_depth (items_of l.items.now) + 1

abbrev pub decreases-length_of_members : goal.decreases-length_of_members
decreases-length_of_members l = 2 * members_depth (members_of l.members.now) + 1

abbrev pub invariant-length_of_items-loop-item : goal.invariant-length_of_items-loop-item
invariant-length_of_items-loop-item l =
    l.length + elements_size (items_data (items_of (drop l.item-index l.items))) ≡ elements_size (items_data (items_of l.items))

abbrev pub invariant-length_of_members-loop-member : goal.invariant-length_of_members-loop-member
invariant-length_of_members-loop-member l =
    l.length + entries_size (members_data (members_of (drop l.member-index l.members))) ≡ entries_size (members_data (members_of l.members))
