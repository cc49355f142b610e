use Rattle.std.proofs.Common.{◌≡◌, ℕ, ◌+◌, ◌*◌, ◌<◌, ◌≤◌, ap, arith}
use Rattle.q_doc.specs.Tree.{depth, items_of, members_of}
use Rattle.q_doc.specs.Printed.{items_data, members_data}
use Rattle.q_doc.proofs.DataLength.{first_items_size, first_members_size}
use Rattle.q_doc.proofs.NodeLength.{item_turn, items_end, member_turn, members_end}
use Rattle.q_doc.proofs.TreeLemmas.{item_depth, member_depth}
use Rattle.q_doc.proofs.print_length.+length_of.Goals as goal

-- an element is less deep than its array, and no longer
pub length_of_items-length_of-requires : goal.length_of_items-length_of-requires
length_of_items-length_of-requires t c =
    let ts = c.args.items.now in
    let i : ℕ = c.loop-item.item-index in
    let less : 2 * depth c.item-item.result < t = omega (arith, ap depth c.item-item.is, item_depth ts i c.item-item.result (omega arith)) in
    (less, omega (arith, first_items_size (items_data (items_of ts)), item_turn ts i c.item-item.result (omega arith) c.item-item.is))

pub length_of_items-overflow_add-length : goal.length_of_items-overflow_add-length
length_of_items-overflow_add-length t c =
    let ts = c.args.items.now in
    let i : ℕ = c.loop-item.item-index in
    omega (arith, first_items_size (items_data (items_of ts)), item_turn ts i c.item-item.result (omega arith) c.item-item.is, c.length_of.ensures)

pub length_of_items-overflow_add-length-in-loop-item : goal.length_of_items-overflow_add-length-in-loop-item
length_of_items-overflow_add-length-in-loop-item t c =
    let ts = c.args.items.now in
    let i : ℕ = c.loop-item.item-index in
    omega (arith, first_items_size (items_data (items_of ts)), item_turn ts i c.item-item.result (omega arith) c.item-item.is, c.length_of.ensures)

pub length_of_items-loop-item-preserved : goal.length_of_items-loop-item-preserved
length_of_items-loop-item-preserved t c =
    let ts = c.args.items.now in
    let i : ℕ = c.loop-item.item-index in
    omega (arith, item_turn ts i c.item-item.result (omega arith) c.item-item.is, c.length_of.ensures)

pub length_of_items-returns : goal.length_of_items-returns
length_of_items-returns t c =
    let ts = c.args.items.now in
    omega (arith, first_items_size (items_data (items_of ts)), items_end ts c.loop-item.item-index (omega arith), c.max.ensures)

-- a member's key is no longer than the object
pub length_of_members-quoted_length-requires : goal.length_of_members-quoted_length-requires
length_of_members-quoted_length-requires t c =
    let ms = c.args.members.now in
    let i : ℕ = c.loop-member.member-index in
    omega (arith, first_members_size (members_data (members_of ms)), member_turn ms i c.member-item.result c.as_slice.result.now (omega arith) c.member-item.is c.as_slice.ensures.value)

pub length_of_members-overflow_add-length : goal.length_of_members-overflow_add-length
length_of_members-overflow_add-length t c =
    let ms = c.args.members.now in
    let i : ℕ = c.loop-member.member-index in
    omega (arith, first_members_size (members_data (members_of ms)), member_turn ms i c.member-item.result c.as_slice.result.now (omega arith) c.member-item.is c.as_slice.ensures.value, c.quoted_length.ensures)

pub length_of_members-overflow_add-length-in-loop-member : goal.length_of_members-overflow_add-length-in-loop-member
length_of_members-overflow_add-length-in-loop-member t c =
    let ms = c.args.members.now in
    let i : ℕ = c.loop-member.member-index in
    omega (arith, first_members_size (members_data (members_of ms)), member_turn ms i c.member-item.result c.as_slice.result.now (omega arith) c.member-item.is c.as_slice.ensures.value, c.quoted_length.ensures)

-- a member's value is less deep than its object, and no longer
pub length_of_members-length_of-requires : goal.length_of_members-length_of-requires
length_of_members-length_of-requires t c =
    let ms = c.args.members.now in
    let i : ℕ = c.loop-member.member-index in
    let less : 2 * depth c.member-item.result.1 < t = omega (arith, ap (λ m. depth m.1) c.member-item.is, member_depth ms i c.member-item.result (omega arith)) in
    (less, omega (arith, first_members_size (members_data (members_of ms)), member_turn ms i c.member-item.result c.as_slice.result.now (omega arith) c.member-item.is c.as_slice.ensures.value))

pub length_of_members-overflow_add-length-in-loop-member-2 : goal.length_of_members-overflow_add-length-in-loop-member-2
length_of_members-overflow_add-length-in-loop-member-2 t c =
    let ms = c.args.members.now in
    let i : ℕ = c.loop-member.member-index in
    omega (arith, first_members_size (members_data (members_of ms)), member_turn ms i c.member-item.result c.as_slice.result.now (omega arith) c.member-item.is c.as_slice.ensures.value, c.length_of.ensures)

pub length_of_members-overflow_add-length-in-loop-member-3 : goal.length_of_members-overflow_add-length-in-loop-member-3
length_of_members-overflow_add-length-in-loop-member-3 t c =
    let ms = c.args.members.now in
    let i : ℕ = c.loop-member.member-index in
    omega (arith, first_members_size (members_data (members_of ms)), member_turn ms i c.member-item.result c.as_slice.result.now (omega arith) c.member-item.is c.as_slice.ensures.value, c.quoted_length.ensures, c.length_of.ensures)

pub length_of_members-loop-member-preserved : goal.length_of_members-loop-member-preserved
length_of_members-loop-member-preserved t c =
    let ms = c.args.members.now in
    let i : ℕ = c.loop-member.member-index in
    omega (arith, member_turn ms i c.member-item.result c.as_slice.result.now (omega arith) c.member-item.is c.as_slice.ensures.value, c.quoted_length.ensures, c.length_of.ensures)

pub length_of_members-returns : goal.length_of_members-returns
length_of_members-returns t c =
    let ms = c.args.members.now in
    omega (arith, first_members_size (members_data (members_of ms)), members_end ms c.loop-member.member-index (omega arith), c.max.ensures)
