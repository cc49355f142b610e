-- a record more was read, or the log came to its end
use Rattle.std.proofs.Common.{Ok, Option, refl, ap, ◌∙◌, subst}
use Rattle.kept_desk.proofs.FillLemmas.{fills_none, fills_both}
use Rattle.kept_desk.proofs.ReadLemmas.{reads_none, reads_more, reads_end}
use Rattle.kept_desk.proofs.ResultLemmas.{on_ok, read_told}
use Rattle.record_log.specs.declared.log_record.LogRecord.{LogRecord}
use Rattle.record_log.proofs.OpenLemmas.{Steps}
use Rattle.kept_desk.proofs.filling.fill.Goals as goal

pub loop-n-init : goal.loop-n-init
loop-n-init g c = (fills_none (g.D.Desk.setting c.args.desk.now) (g.D.Desk.seen c.args.desk.now) (g.D.Desk.mine c.args.desk.now), reads_none c.args.opening.now (g.D.Desk.mine c.args.desk.now), refl, refl)

pub loop-n-preserved : goal.loop-n-preserved
loop-n-preserved g c = (
  fills_both (g.D.Desk.setting c.args.desk.now) (g.D.Desk.setting c.loop-n.desk) (g.D.Desk.seen c.args.desk.now) (g.D.Desk.seen c.loop-n.desk) _ (g.D.Desk.mine c.args.desk.now) (g.D.Desk.mine c.loop-n.desk) _ c.loop-n.invariant.3
      c.loop-n.invariant.0
      c.add.ensures.fills,
  (let S : Option LogRecord → Type 0 = λ x. Steps c.loop-n.opening c.next.new.self (Ok x) in
      reads_more c.args.opening.now c.loop-n.opening c.next.new.self (g.D.Desk.mine c.args.desk.now) (g.D.Desk.mine c.loop-n.desk) (g.D.Desk.mine c.add.new.desk) c.loop-n.filling.at.commits _ c.loop-n.filling.at.moment _ c.in-Ok-Some.said
      (subst S c.in-Ok-Some.field-0-is c.in-Ok-Some.ensures.found) c.next.ensures.hidden c.in_ok-add-in-Ok-Some.ensures.written c.in_ok-add-in-Ok-Some.ensures.commits c.in_ok-add-in-Ok-Some.ensures.moment c.loop-n.invariant.1),
  c.add.ensures.anchor ∙ c.loop-n.invariant.2,
  c.add.ensures.setting ∙ c.loop-n.invariant.3,
)

pub returns-in_err-add-in-Ok-Some-clause-fills : goal.returns-in_err-add-in-Ok-Some-clause-fills
returns-in_err-add-in-Ok-Some-clause-fills g c = fills_both (g.D.Desk.setting c.args.desk.now) (g.D.Desk.setting c.loop-n.desk) (g.D.Desk.seen c.args.desk.now) (g.D.Desk.seen c.loop-n.desk) _ (g.D.Desk.mine c.args.desk.now) (g.D.Desk.mine c.loop-n.desk) _ c.loop-n.invariant.3
    c.loop-n.invariant.0
    c.add.ensures.fills

pub returns-in-Ok-None-clause-fills : goal.returns-in-Ok-None-clause-fills
returns-in-Ok-None-clause-fills g c = fills_both (g.D.Desk.setting c.args.desk.now) (g.D.Desk.setting c.loop-n.desk) (g.D.Desk.seen c.args.desk.now) (g.D.Desk.seen c.loop-n.desk) _ (g.D.Desk.mine c.args.desk.now) (g.D.Desk.mine c.loop-n.desk) _ c.loop-n.invariant.3
    c.loop-n.invariant.0
    c.end.ensures.fills

pub returns-in-Ok-None-clause-read : goal.returns-in-Ok-None-clause-read
returns-in-Ok-None-clause-read g c =
    let S : Option LogRecord → Type 0 = λ x. Steps c.loop-n.opening c.next.new.self (Ok x) in
    read_told c.end.result c.loop-n.filling.at c.args.opening.now c.next.new.self (g.D.Desk.mine c.args.desk.now) (g.D.Desk.mine c.end.new.desk) c.end.ensures.at
    (reads_end c.args.opening.now c.loop-n.opening c.next.new.self (g.D.Desk.mine c.args.desk.now) (g.D.Desk.mine c.loop-n.desk) (g.D.Desk.mine c.end.new.desk) c.loop-n.filling.at.commits c.loop-n.filling.at.moment
    (subst S c.in-Ok-None.field-0-is c.in-Ok-None.ensures.found) c.next.ensures.hidden c.end.ensures.written c.loop-n.invariant.1)

pub returns-in-Ok-None-clause-room : goal.returns-in-Ok-None-clause-room
returns-in-Ok-None-clause-room g c = on_ok c.end.result _ (c.next.ensures.room (c.in-Ok-None.is ∙ ap Ok c.in-Ok-None.field-0-is))
