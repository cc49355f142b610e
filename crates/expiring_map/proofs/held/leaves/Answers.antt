use Rattle.expiring_map.proofs.HeldLemmas.{covered_all, overdue_pushed}
use Rattle.expiring_map.proofs.held.leaves.Goals as goal

-- the index was pushed again, due when its key expires
pub returns-then-due-until-clause-covered : goal.returns-then-due-until-clause-covered
returns-then-due-until-clause-covered g c = λ _. covered_all _ _ _ _ c.args.index c.push_due.ensures.pushed c.in-Some.ensures.until c.requires.covered

pub returns-then-due-until-clause-later : goal.returns-then-due-until-clause-later
returns-then-due-until-clause-later g c = λ moment _ past. overdue_pushed moment c.args.due _ _ _ _ c.if-due-until.true past c.push_due.ensures.pushed
