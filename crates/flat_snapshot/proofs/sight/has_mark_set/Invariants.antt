use Rattle.std.proofs.Common.{◌≡◌, ◌-◌, map}
use Rattle.std.specs.List.{list_all, range_with_len}
use Rattle.q_base.specs.Positions.{position}
use Rattle.query_normal.specs.Bits.{is_bit_set}
use Rattle.flat_snapshot.specs.Sight.{marked_positions}
use Rattle.flat_snapshot.proofs.sight.has_mark_set.Given as goal

-- the positions from i on decide
abbrev pub invariant-loop-i : goal.invariant-loop-i
invariant-loop-i l =
    list_all (is_bit_set l.bits) (marked_positions l.mark l.log2_bits l.hashes)
    ≡ list_all (is_bit_set l.bits) (map (position l.log2_bits l.mark.first l.mark.second) (range_with_len l.i (l.hashes - l.i)))
