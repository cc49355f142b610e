-- what was reserved keeps its memory, until another change replaces it
use Rattle.std.proofs.Common.{arith}
use Rattle.commit_book.proofs.SpaceLemmas.{sound-kept, sound-reserved}
use Rattle.commit_book.proofs.book.Book.reserve.Goals as goal

pub invariant_of-self-in_err-slot : goal.invariant_of-self-in_err-slot
invariant_of-self-in_err-slot c =
    sound-kept _ _ _ _ c.self.inside.rows c.reserve.new.self c.self.inside.past c.self.inside.collections c.slot_in.new.collections c.self.inside.reserved c.reserve.ensures.items c.slot_in.ensures.keeps c.self.invariant
    c.reserve.ensures.len (omega (arith, c.reserve.ensures.capacity))

pub invariant_of-self-2 : goal.invariant_of-self-2
invariant_of-self-2 c =
    sound-reserved _ _ _ _ c.self.inside.rows c.reserve.new.self c.self.inside.past c.self.inside.collections c.slot_in.new.collections c.self.inside.reserved c.reserve.ensures.items c.slot_in.ensures.keeps c.self.invariant
    c.args.change.now c.in_ok-row.row c.in_ok-slot.slot (omega (arith, c.in_ok-reserve.ensures.ok)) c.in_ok-row.ensures (omega (arith, c.cost_of.ensures.cost, c.if-bytes-self.false)) c.in_ok-slot.ensures.ok
