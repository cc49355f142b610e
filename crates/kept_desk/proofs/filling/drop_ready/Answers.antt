-- old changes were dropped
use Rattle.kept_desk.proofs.FillLemmas.{fills_dropped, writes_dropped}
use Rattle.kept_desk.proofs.filling.drop_ready.Goals as goal

pub returns-clause-fills : goal.returns-clause-fills
returns-clause-fills g c = fills_dropped (g.D.Desk.setting c.args.desk.now) (g.D.Desk.seen c.args.desk.now) _ (g.D.Desk.mine c.args.desk.now) _ c.args.clock _ _ c.drop_old.ensures.made

pub returns-clause-written : goal.returns-clause-written
returns-clause-written g c = writes_dropped (g.D.Desk.setting c.args.desk.now) (g.D.Desk.seen c.args.desk.now) _ (g.D.Desk.mine c.args.desk.now) _ c.args.clock _ _ c.drop_old.ensures.made
