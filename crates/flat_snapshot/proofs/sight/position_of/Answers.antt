use Rattle.std.proofs.Common.{◌≡◌, ◌+◌, ◌-◌, ◌*◌, ◌%◌, ◌^◌, bit_and, ap, ◌∙◌}
use Rattle.q_base.specs.Positions.{position}
use Rattle.flat_snapshot.proofs.MarkLemmas.{wrapped_position}
use Rattle.flat_snapshot.proofs.sight.position_of.Goals as goal

-- sums and products wrap at 2 ^ 64
pub returns-clause-same : goal.returns-clause-same
returns-clause-same c =
    ap (λ n. bit_and ((c.args.mark.first + (n * c.args.mark.second) % 2 ^ 64) % 2 ^ 64) (1 * 2 ^ c.args.log2_bits % 2 ^ 64 - 1)) c.from.ensures
    ∙ wrapped_position c.args.log2_bits c.args.mark.first c.args.mark.second c.args.i c.requires
