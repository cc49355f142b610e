-- a record more was read, or the log came to its end
use Rattle.std.proofs.Common.{Ok, Option, subst}
use Rattle.kept_desk.proofs.ReadLemmas.{looks_none, looks_more, looks_end}
use Rattle.record_log.specs.declared.log_record.LogRecord.{LogRecord}
use Rattle.record_log.proofs.OpenLemmas.{Steps}
use Rattle.kept_desk.proofs.looking.look_through.Goals as goal

pub loop-n-init : goal.loop-n-init
loop-n-init g c = looks_none (g.K.Disk.at c.args.disk).history _ c.in-Ok.ensures.begun

pub loop-n-preserved : goal.loop-n-preserved
loop-n-preserved g c =
    let S : Option LogRecord → Type 0 = λ x. Steps c.loop-n.opening c.next.new.self (Ok x) in
    looks_more (g.K.Disk.at c.args.disk).history c.loop-n.opening c.next.new.self c.loop-n.moment _ c.in-Ok-Some.said (subst S c.in-Ok-Some.field-0-is c.in-Ok-Some.ensures.found) c.next.ensures.hidden c.moment_with-moment.ensures c.loop-n.invariant

pub returns-in-Ok-None : goal.returns-in-Ok-None
returns-in-Ok-None g c =
    let S : Option LogRecord → Type 0 = λ x. Steps c.loop-n.opening c.next.new.self (Ok x) in
    looks_end (g.K.Disk.at c.args.disk).history c.loop-n.opening c.next.new.self c.loop-n.moment (subst S c.in-Ok-None.field-0-is c.in-Ok-None.ensures.found) c.next.ensures.hidden c.loop-n.invariant
