-- all commits were matched, or memory ran out
use Rattle.kept_desk.proofs.FillLemmas.{fills_learned, fills_matched, writes_learned, writes_matched}
use Rattle.kept_desk.proofs.filling.match_ready.Goals as goal

pub returns-in-Ok-clause-fills : goal.returns-in-Ok-clause-fills
returns-in-Ok-clause-fills g c = fills_matched (g.D.Desk.setting c.args.desk.now) (g.D.Desk.seen c.args.desk.now) _ (g.D.Desk.mine c.args.desk.now) _ c.args.moment _ c.in-Ok.ensures.made

pub returns-in-Ok-clause-written : goal.returns-in-Ok-clause-written
returns-in-Ok-clause-written g c = writes_matched (g.D.Desk.setting c.args.desk.now) (g.D.Desk.seen c.args.desk.now) _ (g.D.Desk.mine c.args.desk.now) _ c.args.moment _ c.in-Ok.ensures.made

pub returns-in-Err-clause-fills : goal.returns-in-Err-clause-fills
returns-in-Err-clause-fills g c = fills_learned (g.D.Desk.setting c.args.desk.now) (g.D.Desk.seen c.args.desk.now) _ (g.D.Desk.mine c.args.desk.now) _ c.in-Err.ensures.memory

pub returns-in-Err-clause-written : goal.returns-in-Err-clause-written
returns-in-Err-clause-written g c = writes_learned (g.D.Desk.setting c.args.desk.now) (g.D.Desk.seen c.args.desk.now) _ (g.D.Desk.mine c.args.desk.now) _ c.in-Err.ensures.memory
