-- a legal history has its horizon at most at its front
use Rattle.hub_desk.proofs.DropLemmas.{whole_drop}
use Rattle.hub_desk.proofs.laws.all_is_dropped_up_to_the_front.Goals as goal

pub returns : goal.returns
returns c = whole_drop c.horizon_is_within.ensures c.beginnings_are_legal.ensures
