-- there was room, and then the change was written
use Rattle.std.proofs.Common.{[], ◌∷◌}
use Rattle.kept_desk.proofs.FillLemmas.{fills_both, writes_both}
use Rattle.kept_desk.proofs.filling.Filling.write.Goals as goal

pub returns-in_err-self-clause-fills : goal.returns-in_err-self-clause-fills
returns-in_err-self-clause-fills g c = fills_both (g.D.Desk.setting c.args.desk.now) (g.D.Desk.setting c.find_room.new.desk) (g.D.Desk.seen c.args.desk.now) (g.D.Desk.seen c.find_room.new.desk) _ (g.D.Desk.mine c.args.desk.now) (g.D.Desk.mine c.find_room.new.desk) _ c.find_room.ensures.setting
    c.find_room.ensures.fills
    c.write_next.ensures.fills

pub returns-clause-fills : goal.returns-clause-fills
returns-clause-fills g c = fills_both (g.D.Desk.setting c.args.desk.now) (g.D.Desk.setting c.find_room.new.desk) (g.D.Desk.seen c.args.desk.now) (g.D.Desk.seen c.find_room.new.desk) _ (g.D.Desk.mine c.args.desk.now) (g.D.Desk.mine c.find_room.new.desk) _ c.find_room.ensures.setting
    c.find_room.ensures.fills
    c.write_next.ensures.fills

pub returns-clause-written : goal.returns-clause-written
returns-clause-written g c = writes_both (g.D.Desk.mine c.args.desk.now) (g.D.Desk.mine c.find_room.new.desk) (g.D.Desk.mine c.write_next.new.desk) [] ((c.args.clock, c.args.change) ∷ [])
    c.find_room.ensures.written
    c.in_ok-self.ensures.written
