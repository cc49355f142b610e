-- nothing is held, and nothing is kept
use Rattle.match_index.proofs.PlaceLemmas.{placed-none}
use Rattle.match_index.proofs.index.Index.new.Goals as goal

pub invariant_of-result : goal.invariant_of-result
invariant_of-result c = record { placed = placed-none _ _ c.new.ensures.empty c.new-2.ensures.empty }
