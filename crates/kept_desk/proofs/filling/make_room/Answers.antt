-- some were dropped once more
use Rattle.std.proofs.Common.{[], refl, ◌∙◌}
use Rattle.kept_desk.proofs.FillLemmas.{fills_none, fills_both, writes_none, writes_both}
use Rattle.kept_desk.proofs.filling.make_room.Goals as goal

pub loop-n-init : goal.loop-n-init
loop-n-init g c = (fills_none (g.D.Desk.setting c.args.desk.now) (g.D.Desk.seen c.args.desk.now) (g.D.Desk.mine c.args.desk.now), writes_none (g.D.Desk.mine c.args.desk.now), refl, refl)

pub loop-n-preserved : goal.loop-n-preserved
loop-n-preserved g c = (
  fills_both (g.D.Desk.setting c.args.desk.now) (g.D.Desk.setting c.loop-n.desk) (g.D.Desk.seen c.args.desk.now) (g.D.Desk.seen c.loop-n.desk) _ (g.D.Desk.mine c.args.desk.now) (g.D.Desk.mine c.loop-n.desk) _ c.loop-n.invariant.3
      c.loop-n.invariant.0
      c.room_or_drop.ensures.fills,
  writes_both (g.D.Desk.mine c.args.desk.now) (g.D.Desk.mine c.loop-n.desk) (g.D.Desk.mine c.room_or_drop.new.desk) [] []
      c.loop-n.invariant.1
      c.room_or_drop.ensures.written,
  c.room_or_drop.ensures.anchor ∙ c.loop-n.invariant.2,
  c.room_or_drop.ensures.setting ∙ c.loop-n.invariant.3,
)

pub returns-in-Ok-Some-clause-fills : goal.returns-in-Ok-Some-clause-fills
returns-in-Ok-Some-clause-fills g c = fills_both (g.D.Desk.setting c.args.desk.now) (g.D.Desk.setting c.loop-n.desk) (g.D.Desk.seen c.args.desk.now) (g.D.Desk.seen c.loop-n.desk) _ (g.D.Desk.mine c.args.desk.now) (g.D.Desk.mine c.loop-n.desk) _ c.loop-n.invariant.3
    c.loop-n.invariant.0
    c.room_or_drop.ensures.fills

pub returns-in-Ok-Some-clause-written : goal.returns-in-Ok-Some-clause-written
returns-in-Ok-Some-clause-written g c = writes_both (g.D.Desk.mine c.args.desk.now) (g.D.Desk.mine c.loop-n.desk) (g.D.Desk.mine c.room_or_drop.new.desk) [] []
    c.loop-n.invariant.1
    c.room_or_drop.ensures.written

pub returns-in-Err-clause-fills : goal.returns-in-Err-clause-fills
returns-in-Err-clause-fills g c = fills_both (g.D.Desk.setting c.args.desk.now) (g.D.Desk.setting c.loop-n.desk) (g.D.Desk.seen c.args.desk.now) (g.D.Desk.seen c.loop-n.desk) _ (g.D.Desk.mine c.args.desk.now) (g.D.Desk.mine c.loop-n.desk) _ c.loop-n.invariant.3
    c.loop-n.invariant.0
    c.room_or_drop.ensures.fills

pub returns-in-Err-clause-written : goal.returns-in-Err-clause-written
returns-in-Err-clause-written g c = writes_both (g.D.Desk.mine c.args.desk.now) (g.D.Desk.mine c.loop-n.desk) (g.D.Desk.mine c.room_or_drop.new.desk) [] []
    c.loop-n.invariant.1
    c.room_or_drop.ensures.written
