use Rattle.std.proofs.Common.{◌≡◌, ◌-◌, ◌<◌, ◌/◌, Bool, ℕ, map, length, sym, ap, ◌∙◌, arith}
use Rattle.std.specs.List.{list_all, range_with_len}
use Rattle.q_base.specs.Positions.{position}
use Rattle.query_normal.specs.Bits.{is_bit_set}
use Rattle.query_normal.proofs.BitLemmas.{length-flat_bits}
use Rattle.flat_snapshot.proofs.MarkLemmas.{all_from, settled, left_over}
use Rattle.flat_snapshot.proofs.sight.has_mark_set.Goals as goal

-- a position is within the bits
pub is_set-requires : goal.is_set-requires
is_set-requires c =
    let count = length-flat_bits c.args.bits.now in
    let low = c.position_of.ensures.within in
    omega (arith, count, low, c.requires.size)

-- a bit that is not set settles it
pub returns-then-not-is_set : goal.returns-then-not-is_set
returns-then-not-is_set c =
    settled _ _ _ (sym (ap (is_bit_set c.args.bits.now) c.position_of.ensures.same) ∙ sym c.is_set.ensures ∙ c.if-not-is_set.true)
    (c.loop-i.invariant ∙ all_from (is_bit_set c.args.bits.now) (position c.args.log2_bits c.args.mark.first c.args.mark.second) c.loop-i.i c.args.hashes c.loop-i-test.true)

-- a bit that is set leaves it to the positions after it
pub loop-i-preserved : goal.loop-i-preserved
loop-i-preserved c =
    left_over _ _ _ (sym (ap (is_bit_set c.args.bits.now) c.position_of.ensures.same) ∙ sym c.is_set.ensures ∙ c.if-not-is_set.false)
    (c.loop-i.invariant ∙ all_from (is_bit_set c.args.bits.now) (position c.args.log2_bits c.args.mark.first c.args.mark.second) c.loop-i.i c.args.hashes c.loop-i-test.true)
