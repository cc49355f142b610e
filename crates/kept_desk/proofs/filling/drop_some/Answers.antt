-- all was matched, and then old changes were dropped
use Rattle.std.proofs.Common.{[]}
use Rattle.kept_desk.proofs.FillLemmas.{fills_both, writes_both}
use Rattle.kept_desk.proofs.filling.drop_some.Goals as goal

pub returns-clause-fills : goal.returns-clause-fills
returns-clause-fills g c = fills_both (g.D.Desk.setting c.args.desk.now) (g.D.Desk.setting c.catch_up.new.desk) (g.D.Desk.seen c.args.desk.now) (g.D.Desk.seen c.catch_up.new.desk) _ (g.D.Desk.mine c.args.desk.now) (g.D.Desk.mine c.catch_up.new.desk) _ c.catch_up.ensures.setting
    c.catch_up.ensures.fills
    c.drop_old.ensures.fills

pub returns-clause-written : goal.returns-clause-written
returns-clause-written g c = writes_both (g.D.Desk.mine c.args.desk.now) (g.D.Desk.mine c.catch_up.new.desk) (g.D.Desk.mine c.drop_old.new.desk) [] []
    c.catch_up.ensures.written
    c.drop_old.ensures.written
