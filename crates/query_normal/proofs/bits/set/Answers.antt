use Rattle.std.proofs.Common.{ap, arith, ◌/◌, ◌%◌, slice_index, slice_set, bit_or}
use Rattle.query_normal.proofs.BitLemmas.{flat_bits-written, shifted_one, sets_bit}
use Rattle.query_normal.proofs.bits.set.Goals as goal

-- one bit of one byte was written
pub returns-clause-bits : goal.returns-clause-bits
returns-clause-bits c = flat_bits-written _ c.args.index _ _ c.requires (sets_bit _ _ (omega arith))

-- the shifted one is a power of 2
pub returns-clause-byte : goal.returns-clause-byte
returns-clause-byte c =
    ap (λ m. slice_set c.args.bytes.now (c.args.index / 8) (bit_or (slice_index c.args.bytes.now (c.args.index / 8)) m)) (shifted_one (c.args.index % 8) (omega arith))
