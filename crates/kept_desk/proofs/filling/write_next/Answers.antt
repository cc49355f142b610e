-- the desk learned while it made ready, and then the change was written
use Rattle.std.proofs.Common.{[], ◌∷◌}
use Rattle.kept_desk.proofs.FillLemmas.{fills_learned, fills_both, writes_learned, writes_both}
use Rattle.kept_desk.proofs.ResultLemmas.{on_ok_map}
use Rattle.kept_desk.proofs.filling.write_next.Goals as goal

pub returns-then-is_err-clause-fills : goal.returns-then-is_err-clause-fills
returns-then-is_err-clause-fills g c = fills_learned (g.D.Desk.setting c.args.desk.now) (g.D.Desk.seen c.args.desk.now) _ (g.D.Desk.mine c.args.desk.now) _ c.ready.ensures.none

pub returns-clause-fills : goal.returns-clause-fills
returns-clause-fills g c = fills_both (g.D.Desk.setting c.args.desk.now) (g.D.Desk.setting c.ready.new.self) (g.D.Desk.seen c.args.desk.now) (g.D.Desk.seen c.ready.new.self) _ (g.D.Desk.mine c.args.desk.now) (g.D.Desk.mine c.ready.new.self) _ c.ready.ensures.setting
    (fills_learned (g.D.Desk.setting c.args.desk.now) (g.D.Desk.seen c.args.desk.now) _ (g.D.Desk.mine c.args.desk.now) _ c.ready.ensures.none)
    c.write_ready.ensures.fills

pub returns-clause-written : goal.returns-clause-written
returns-clause-written g c = on_ok_map c.write_ready.result _ _
    (λ wrote. writes_both (g.D.Desk.mine c.args.desk.now) (g.D.Desk.mine c.ready.new.self) (g.D.Desk.mine c.write_ready.new.desk) [] ((c.args.clock, c.args.change) ∷ [])
    (writes_learned (g.D.Desk.setting c.args.desk.now) (g.D.Desk.seen c.args.desk.now) _ (g.D.Desk.mine c.args.desk.now) _ c.ready.ensures.none)
    wrote)
    c.write_ready.ensures.written
