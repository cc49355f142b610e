-- by what was foreseen
use Rattle.std.proofs.Common.{refl}
use Rattle.durable_book.proofs.KeptLemmas.{at-exit}
use Rattle.durable_book.proofs.kept_hub.store_change.Goals as goal

pub returns-in_err-store_commit-in-Done-clause-leaves : goal.returns-in_err-store_commit-in-Done-clause-leaves
returns-in_err-store_commit-in-Done-clause-leaves g c = rw c.in-Done.is c.store_commit.ensures.leaves

pub returns-in_err-store_commit-in-Done-clause-refused : goal.returns-in_err-store_commit-in-Done-clause-refused
returns-in_err-store_commit-in-Done-clause-refused g c = at-exit _ _ _ c.from_residual.ensures.1 c.in_err-store_commit-in-Done.ensures.refused

pub returns-in_ok-store_commit-in-Done-clause-adds : goal.returns-in_ok-store_commit-in-Done-clause-adds
returns-in_ok-store_commit-in-Done-clause-adds g c = rw c.in-Done.is c.in_ok-store_commit-in-Done.ensures.adds

pub returns-in_ok-store_commit-in-Done-clause-leaves : goal.returns-in_ok-store_commit-in-Done-clause-leaves
returns-in_ok-store_commit-in-Done-clause-leaves g c = rw c.in-Done.is c.store_commit.ensures.leaves

pub returns-in_ok-store_commit-in-Done-clause-stored : goal.returns-in_ok-store_commit-in-Done-clause-stored
returns-in_ok-store_commit-in-Done-clause-stored g c = rw c.in-Done.is refl

pub returns-in-Precondition-clause-adds : goal.returns-in-Precondition-clause-adds
returns-in-Precondition-clause-adds g c = rw c.in-Precondition.is refl

pub returns-in-Precondition-clause-leaves : goal.returns-in-Precondition-clause-leaves
returns-in-Precondition-clause-leaves g c = rw c.in-Precondition.is refl

pub returns-in-Precondition-clause-stored : goal.returns-in-Precondition-clause-stored
returns-in-Precondition-clause-stored g c = rw c.in-Precondition.is refl

pub returns-in-Full-clause-adds : goal.returns-in-Full-clause-adds
returns-in-Full-clause-adds g c = rw c.in-Full.is refl

pub returns-in-Full-clause-leaves : goal.returns-in-Full-clause-leaves
returns-in-Full-clause-leaves g c = rw c.in-Full.is refl

pub returns-in-Full-clause-stored : goal.returns-in-Full-clause-stored
returns-in-Full-clause-stored g c = rw c.in-Full.is refl
