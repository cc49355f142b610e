-- the record of the change has an entry, and no other that had none
use Rattle.std.proofs.Common.{Option, refl, sym, ap, subst}
use Rattle.std.specs.Option.{option_copied}
use Rattle.std.proofs.lemmas.Result.{on_ok_weaker}
use Rattle.commit_book.specs.declared.change.Change.{Change}
use Rattle.hub_core.specs.Lifetimes.{MakesEntry}
use Rattle.hub_core.proofs.WrittenLemmas.{entry-made}
use Rattle.hub_core.proofs.matching.make_entry.Goals as goal

pub returns-in-Some-clause-entered : goal.returns-in-Some-clause-entered
returns-in-Some-clause-entered c =
    on_ok_weaker c.reserve_record.result
    (λ known. subst (λ (o : Option Change). MakesEntry o c.args.estimator.now.records c.reserve_record.new.self.records) (sym (ap option_copied c.in-Some.is)) (entry-made c.in-Some.change.now c.args.estimator.now c.reserve_record.new.self known c.reserve_record.ensures.others))
    c.reserve_record.ensures.known

-- without a change nothing is done
pub returns-in-None-clause-entered : goal.returns-in-None-clause-entered
returns-in-None-clause-entered c = subst (λ (o : Option Change). MakesEntry o c.args.estimator.now.records c.args.estimator.now.records) (sym (ap option_copied c.in-None.is)) (λ collection id. refl)
