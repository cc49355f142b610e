use Rattle.expiring_map.proofs.HeldLemmas.{covered_all}
use Rattle.expiring_map.proofs.held.cover.Goals as goal

-- the index was pushed, due when its key expires
pub returns-in-Some-clause-covered : goal.returns-in-Some-clause-covered
returns-in-Some-clause-covered g c = covered_all _ _ _ _ c.args.index c.push_due.ensures.pushed c.in-Some.ensures.until c.requires.covered
