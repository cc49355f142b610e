-- what was taken out is what is queued
use Rattle.shared_log.proofs.steps.found_in.Goals as goal

pub returns-in-Some-clause-stands : goal.returns-in-Some-clause-stands
returns-in-Some-clause-stands g c = (c.in-Some.ensures.taken.opened, λ notes stands. (c.in-Some.ensures.taken.stands notes stands).0)

pub returns-in-Some-clause-found : goal.returns-in-Some-clause-found
returns-in-Some-clause-found g c = λ notes stands. (c.in-Some.ensures.taken.stands notes stands).1
