use Rattle.std.proofs.Common.{ap, arith, ◌/◌, ◌%◌, ◌-◌, slice_index, slice_set, bit_and}
use Rattle.query_normal.proofs.BitLemmas.{flat_bits-written, shifted_one, clears_bit}
use Rattle.query_normal.proofs.bits.clear.Goals as goal

-- one bit of one byte was written
pub returns-clause-bits : goal.returns-clause-bits
returns-clause-bits c = flat_bits-written _ c.args.index _ _ c.requires (clears_bit _ _ (omega arith))

-- the shifted one is a power of 2
pub returns-clause-byte : goal.returns-clause-byte
returns-clause-byte c =
    ap (λ m. slice_set c.args.bytes.now (c.args.index / 8) (bit_and (slice_index c.args.bytes.now (c.args.index / 8)) (255 - m))) (shifted_one (c.args.index % 8) (omega arith))
