use Rattle.std.proofs.Common.{◌*◌, ◌<◌, ap, arith}
use Rattle.q_doc.specs.Tree.{depth, items_depth, members_depth, items_of, members_of}
use Rattle.q_doc.proofs.TreeLemmas.{item_depth, member_depth}
use Rattle.q_doc.proofs.clones.+clone_of.Goals as goal

-- an element is less deep than its array
pub clone_of_items-clone_of-requires : goal.clone_of_items-clone_of-requires
clone_of_items-clone_of-requires t c = (
  omega (
    arith,
    ap depth c.item-item.is,
    item_depth c.deref-item-items.result.now c.loop-item.item-index c.item-item.result (omega arith),
    ap (λ ys. items_depth (items_of ys)) c.deref-item-items.ensures.value,
  ),
  tt,
)

-- a member's value is less deep than its object
pub clone_of_members-clone_of-requires : goal.clone_of_members-clone_of-requires
clone_of_members-clone_of-requires t c =
    let less : 2 * depth c.member-item.result.1 < t =
    omega (
      arith,
      ap (λ m. depth m.1) c.member-item.is,
      member_depth c.deref-member-items.result.now c.loop-member.member-index c.member-item.result (omega arith),
      ap (λ ys. members_depth (members_of ys)) c.deref-member-items.ensures.value,
    ) in
    (less, tt)
