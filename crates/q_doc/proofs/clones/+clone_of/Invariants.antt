use Rattle.std.proofs.Common.{◌≡◌, ◌+◌, ◌*◌, take}
use Rattle.q_doc.specs.Tree.{depth, items_depth, members_depth, items_of, members_of}
use Rattle.q_doc.proofs.clones.+clone_of.Given as goal

abbrev pub decreases-clone_of : goal.decreases-clone_of
decreases-clone_of l = 2 * depth l.node.now

abbrev pub decreases-clone_of_items : goal.decreases-clone_of_items
decreases-clone_of_items l = 2 * items_depth (items_of l.items.now.items) + 1

abbrev pub decreases-clone_of_members : goal.decreases-clone_of_members
decreases-clone_of_members l = 2 * members_depth (members_of l.members.now.items) + 1

abbrev pub invariant-clone_of_items-loop-item : goal.invariant-clone_of_items-loop-item
invariant-clone_of_items-loop-item l = l.clones.items ≡ take l.item-index l.item-items

abbrev pub invariant-clone_of_members-loop-member : goal.invariant-clone_of_members-loop-member
invariant-clone_of_members-loop-member l = l.clones.items ≡ take l.member-index l.member-items
