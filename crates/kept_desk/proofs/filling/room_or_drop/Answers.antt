-- the desk learned while it took the figures, and then old changes were dropped
use Rattle.std.proofs.Common.{[]}
use Rattle.kept_desk.proofs.FillLemmas.{fills_learned, fills_both, writes_learned, writes_both}
use Rattle.kept_desk.proofs.filling.room_or_drop.Goals as goal

pub returns-then-is_settled-clause-fills : goal.returns-then-is_settled-clause-fills
returns-then-is_settled-clause-fills g c = fills_learned (g.D.Desk.setting c.args.desk.now) (g.D.Desk.seen c.args.desk.now) _ (g.D.Desk.mine c.args.desk.now) _ c.figures-figures.ensures.none

pub returns-then-is_settled-clause-written : goal.returns-then-is_settled-clause-written
returns-then-is_settled-clause-written g c = writes_learned (g.D.Desk.setting c.args.desk.now) (g.D.Desk.seen c.args.desk.now) _ (g.D.Desk.mine c.args.desk.now) _ c.figures-figures.ensures.none

pub returns-clause-fills : goal.returns-clause-fills
returns-clause-fills g c = fills_both (g.D.Desk.setting c.args.desk.now) (g.D.Desk.setting c.figures-figures.new.self) (g.D.Desk.seen c.args.desk.now) (g.D.Desk.seen c.figures-figures.new.self) _ (g.D.Desk.mine c.args.desk.now) (g.D.Desk.mine c.figures-figures.new.self) _ c.figures-figures.ensures.setting
    (fills_learned (g.D.Desk.setting c.args.desk.now) (g.D.Desk.seen c.args.desk.now) _ (g.D.Desk.mine c.args.desk.now) _ c.figures-figures.ensures.none)
    c.drop_some.ensures.fills

pub returns-clause-written : goal.returns-clause-written
returns-clause-written g c = writes_both (g.D.Desk.mine c.args.desk.now) (g.D.Desk.mine c.figures-figures.new.self) (g.D.Desk.mine c.drop_some.new.desk) [] []
    (writes_learned (g.D.Desk.setting c.args.desk.now) (g.D.Desk.seen c.args.desk.now) _ (g.D.Desk.mine c.args.desk.now) _ c.figures-figures.ensures.none)
    c.drop_some.ensures.written
