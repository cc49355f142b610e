-- a batch of one record
use Rattle.std.proofs.Common.{refl, inl}
use Rattle.std.proofs.lemmas.Result.{err_from_is_err_and}
use Rattle.durable_book.proofs.KeptLemmas.{adds-commit, leaves-added, refuses-fault}
use Rattle.durable_book.proofs.kept_hub.store_commit.Goals as goal

pub returns-in_err-record-clause-leaves : goal.returns-in_err-record-clause-leaves
returns-in_err-record-clause-leaves g c = inl refl

pub returns-in_err-record-clause-refused : goal.returns-in_err-record-clause-refused
returns-in_err-record-clause-refused g c = (let p = err_from_is_err_and c.from_residual.result c.from_residual.ensures.1 in rw (p.1, p.2) (refl, refl))

pub returns-in_err-add_commit-clause-leaves : goal.returns-in_err-add_commit-clause-leaves
returns-in_err-add_commit-clause-leaves g c = inl refl

pub returns-in_err-add_commit-clause-refused : goal.returns-in_err-add_commit-clause-refused
returns-in_err-add_commit-clause-refused g c = (let p = err_from_is_err_and c.from_residual-in_err-add_commit.result c.from_residual-in_err-add_commit.ensures.1 in rw (p.1, p.2) (refl, refl))

pub returns-clause-adds : goal.returns-clause-adds
returns-clause-adds g c =
    adds-commit _ c.args.log.now c.append.new.log _ _ _ _ c.args.change.now c.seconds-seconds.ensures.same c.in_ok-record.ensures c.in_ok-add_commit.ensures.added c.in_ok-add_commit.ensures.read c.append.ensures.appended

pub returns-clause-leaves : goal.returns-clause-leaves
returns-clause-leaves g c =
    leaves-added _ _ _ _ _ _ c.args.change.now c.seconds-seconds.ensures.same c.in_ok-record.ensures c.in_ok-add_commit.ensures.added c.in_ok-add_commit.ensures.read c.append.ensures.leaves

pub returns-clause-refused : goal.returns-clause-refused
returns-clause-refused g c = refuses-fault _ _ _ _ _ c.append.ensures.refused
