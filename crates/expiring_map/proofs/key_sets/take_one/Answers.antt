use Rattle.expiring_map.proofs.KeyLemmas.{popped_is}
use Rattle.expiring_map.proofs.key_sets.take_one.Goals as goal

-- the last key was removed
pub returns-clause-some : goal.returns-clause-some
returns-clause-some c = popped_is c.pop.result _ _ c.pop.ensures.keys
