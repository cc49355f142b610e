-- the records, and the end of the opening
use Rattle.std.proofs.lemmas.Result.{err_from_is_err_and}
use Rattle.durable_book.proofs.OpeningLemmas.{hub_made}
use Rattle.durable_book.proofs.opening.made_hub.Goals as goal

pub returns-in_err-make_all-clause-setting : goal.returns-in_err-make_all-clause-setting
returns-in_err-make_all-clause-setting c = (let p = err_from_is_err_and c.from_residual-in_err-make_all.result c.from_residual-in_err-make_all.ensures.1 in rw p.1 tt)

pub returns-in_err-make_all-clause-state : goal.returns-in_err-make_all-clause-state
returns-in_err-make_all-clause-state c = (let p = err_from_is_err_and c.from_residual-in_err-make_all.result c.from_residual-in_err-make_all.ensures.1 in rw p.1 tt)

pub returns-in_err-finish-clause-setting : goal.returns-in_err-finish-clause-setting
returns-in_err-finish-clause-setting c = (let p = err_from_is_err_and c.from_residual-in_err-finish.result c.from_residual-in_err-finish.ensures.1 in rw p.1 tt)

pub returns-in_err-finish-clause-state : goal.returns-in_err-finish-clause-state
returns-in_err-finish-clause-state c = (let p = err_from_is_err_and c.from_residual-in_err-finish.result c.from_residual-in_err-finish.ensures.1 in rw p.1 tt)

pub returns-clause-state : goal.returns-clause-state
returns-clause-state c =
    hub_made c.args.config c.in_ok-hub.hub c.make_all.new.hub c.finish.new.hub c.args.records.now c.args.moment
    c.in_ok-make_all.ensures.made c.in_ok-finish.ensures.made c.in_ok-hub.ensures.setting c.make_all.ensures.setting
