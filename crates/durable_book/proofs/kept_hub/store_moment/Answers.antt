-- a batch of one record
use Rattle.std.proofs.Common.{refl, inl}
use Rattle.std.proofs.lemmas.Result.{err_from_is_err_and}
use Rattle.record_log.specs.declared.log_record.LogRecord.TheVariants.{Moment}
use Rattle.durable_book.proofs.KeptLemmas.{adds-record, leaves-record, refuses-fault}
use Rattle.durable_book.proofs.kept_hub.store_moment.Goals as goal

pub returns-in_err-record-clause-leaves : goal.returns-in_err-record-clause-leaves
returns-in_err-record-clause-leaves g c = inl refl

pub returns-in_err-record-clause-refused : goal.returns-in_err-record-clause-refused
returns-in_err-record-clause-refused g c = (let p = err_from_is_err_and c.from_residual.result c.from_residual.ensures.1 in rw (p.1, p.2) (refl, refl))

pub returns-in_err-add_moment-clause-leaves : goal.returns-in_err-add_moment-clause-leaves
returns-in_err-add_moment-clause-leaves g c = inl refl

pub returns-in_err-add_moment-clause-refused : goal.returns-in_err-add_moment-clause-refused
returns-in_err-add_moment-clause-refused g c = (let p = err_from_is_err_and c.from_residual-in_err-add_moment.result c.from_residual-in_err-add_moment.ensures.1 in rw (p.1, p.2) (refl, refl))

pub returns-clause-adds : goal.returns-clause-adds
returns-clause-adds g c =
    adds-record _ c.args.log.now c.append.new.log _ _ (Moment c.args.later) c.in_ok-record.ensures c.in_ok-add_moment.ensures.added c.in_ok-add_moment.ensures.read c.append.ensures.appended

pub returns-clause-leaves : goal.returns-clause-leaves
returns-clause-leaves g c =
    leaves-record _ _ _ _ (Moment c.args.later) c.in_ok-record.ensures c.in_ok-add_moment.ensures.added c.in_ok-add_moment.ensures.read c.append.ensures.leaves

pub returns-clause-refused : goal.returns-clause-refused
returns-clause-refused g c = refuses-fault _ _ _ _ _ c.append.ensures.refused
