use Rattle.std.proofs.Common.{ap, ap₂, ◌∙◌, map, take, drop}
use Rattle.std.specs.Int.{w64, from_be_bytes}
use Rattle.std.specs.List.{range_with_len}
use Rattle.q_base.specs.Positions.{position, positions_of}
use Rattle.q_base.proofs.positions.positions_of.Goals as goal

-- the two halves of the digest are the two hashes
pub returns-clause-same : goal.returns-clause-same
unfolding positions_of
returns-clause-same c =
    c.steps_from.ensures.same
    ∙ ap₂ (λ h1 h2. map (position c.args.log2_bits h1 h2) (range_with_len 0 c.args.hashes))
    (c.word_at.ensures ∙ ap (λ digest. from_be_bytes w64 (take 8 digest)) c.digest-digest.ensures)
    (c.word_at-2.ensures ∙ ap (λ digest. from_be_bytes w64 (take 8 (drop 8 digest))) c.digest-digest.ensures)
