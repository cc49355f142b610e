-- a moment that is kept, or none
use Rattle.std.proofs.Common.{arith}
use Rattle.durable_book.proofs.KeptLemmas.{at-exit, later_is, adds-none, leaves-none, kept-none, stored-none, adds-some, leaves-some, kept-some, stored-some}
use Rattle.durable_book.proofs.kept_hub.keep.Goals as goal

pub returns-in-None-clause-adds : goal.returns-in-None-clause-adds
returns-in-None-clause-adds g c = adds-none _ _ _ c.in-None.ensures

pub returns-in-None-clause-leaves : goal.returns-in-None-clause-leaves
returns-in-None-clause-leaves g c = leaves-none _ _ _ c.in-None.ensures

pub returns-in-None-clause-kept : goal.returns-in-None-clause-kept
returns-in-None-clause-kept g c = kept-none _ _ c.in-None.ensures

pub returns-in-None-clause-stored : goal.returns-in-None-clause-stored
returns-in-None-clause-stored g c = stored-none _ _ c.in-None.ensures

pub store_moment-requires-clause-clock : goal.store_moment-requires-clause-clock
store_moment-requires-clause-clock g c = (let later = later_is _ _ _ c.in-Some.ensures in omega (arith, later))

pub returns-in_err-store_moment-in-Some-clause-leaves : goal.returns-in_err-store_moment-in-Some-clause-leaves
returns-in_err-store_moment-in-Some-clause-leaves g c = leaves-some _ _ _ _ _ c.in-Some.ensures c.store_moment.ensures.leaves

pub returns-in_err-store_moment-in-Some-clause-refused : goal.returns-in_err-store_moment-in-Some-clause-refused
returns-in_err-store_moment-in-Some-clause-refused g c = at-exit _ _ _ c.from_residual.ensures.1 c.in_err-store_moment-in-Some.ensures.refused

pub returns-in_ok-store_moment-in-Some-clause-adds : goal.returns-in_ok-store_moment-in-Some-clause-adds
returns-in_ok-store_moment-in-Some-clause-adds g c = adds-some _ _ _ _ _ c.in-Some.ensures c.in_ok-store_moment-in-Some.ensures.adds

pub returns-in_ok-store_moment-in-Some-clause-leaves : goal.returns-in_ok-store_moment-in-Some-clause-leaves
returns-in_ok-store_moment-in-Some-clause-leaves g c = leaves-some _ _ _ _ _ c.in-Some.ensures c.store_moment.ensures.leaves

pub returns-in_ok-store_moment-in-Some-clause-kept : goal.returns-in_ok-store_moment-in-Some-clause-kept
returns-in_ok-store_moment-in-Some-clause-kept g c = kept-some _ _ _ c.in-Some.ensures

pub returns-in_ok-store_moment-in-Some-clause-stored : goal.returns-in_ok-store_moment-in-Some-clause-stored
returns-in_ok-store_moment-in-Some-clause-stored g c = stored-some _ _ _ c.in-Some.ensures
