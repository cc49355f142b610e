use Rattle.expiring_map.proofs.KeyLemmas.{taken_is}
use Rattle.expiring_map.proofs.key_sets.take_key.Goals as goal

-- the set returned the key
pub returns-clause-key : goal.returns-clause-key
returns-clause-key c = taken_is c.args.key.now _ _ c.in-Some.ensures.key
