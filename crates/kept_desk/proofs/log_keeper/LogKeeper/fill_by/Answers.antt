-- whatever disk the log was begun with, its commits were written
use Rattle.kept_desk.proofs.ReadLemmas.{commits_written, opened_on}
use Rattle.kept_desk.proofs.ResultLemmas.{on_ok, on_ok_map}
use Rattle.kept_desk.proofs.log_keeper.LogKeeper.fill_by.Goals as goal

pub share-requires-clause-ready : goal.share-requires-clause-ready
share-requires-clause-ready g c = (c.in_ok-at.ensures.read.opened c.requires.0 c.requires.1).1

pub returns-clause-written : goal.returns-clause-written
returns-clause-written g c = on_ok c.share.result _ (λ found begun. commits_written found c.args.opening _ (g.D.Desk.mine c.args.desk.now) (g.D.Desk.mine c.fill.new.desk) _ _ begun c.in_ok-at.ensures.read)

pub returns-clause-opened : goal.returns-clause-opened
returns-clause-opened g c = on_ok_map c.share.result _ _ (λ shared found begun place is. opened_on found c.args.opening _ _ _ c.in_ok-at.at.commits c.in_ok-at.at.moment place begun c.in_ok-at.ensures.read (shared place is)) c.share.ensures.opened
