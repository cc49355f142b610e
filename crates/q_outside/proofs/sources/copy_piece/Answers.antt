-- the copied bytes are at the start of the buffer
use Rattle.std.proofs.Common.{arith, length-take}
use Rattle.q_outside.proofs.Pieces.{piece_copied}
use Rattle.q_outside.proofs.sources.copy_piece.Goals as goal

pub returns-clause-copied : goal.returns-clause-copied
returns-clause-copied c =
    piece_copied _ _ _ c.args.at c.min-count.result c.copy_from_slice.ensures.after
    (omega (arith, c.copy_from_slice.ensures.len, length-take c.min-count.result c.args.into.now))
