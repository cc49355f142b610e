-- each step of reading, and its end
use Rattle.std.proofs.Common.{List, Option, Some, Ok, Err, subst, sym, ap, ◌∙◌, arith}
use Rattle.disks.specs.Histories.{History}
use Rattle.record_log.specs.declared.log_record.LogRecord.{LogRecord}
use Rattle.record_log.specs.declared.refusal.LogRefusal.{LogRefusal}
use Rattle.record_log.specs.Images.{IsReady}
use Rattle.record_log.specs.Logs.{LogView}
use Rattle.record_log.specs.Opened.{HasOpened, LeavesOpening}
use Rattle.record_log.proofs.OpenLemmas.{IsOpening, Steps, leaves_begun, leaves_start, open_more, start_more, open_end, ready_end, leaves_more, refused_next}
use Rattle.record_log.proofs.opened.open_log.Goals as goal

pub returns-in-Err-clause-leaves : goal.returns-in-Err-clause-leaves
returns-in-Err-clause-leaves g c = leaves_start _ _ c.in-Err.ensures.leaves

pub into_log-requires-clause-ready : goal.into_log-requires-clause-ready
into_log-requires-clause-ready g c =
    let S : Option LogRecord → Type 0 = λ x. Steps c.loop-n.opening c.next.new.self (Ok x) in
    ready_end (g.K.Disk.at c.args.disk).history c.loop-n.opening c.next.new.self c.loop-n.records.items c.loop-n.invariant.read
    (subst S c.in-Ok-None.field-0-is c.in-Ok-None.ensures.found) c.next.ensures.hidden

pub returns-in-Ok-None-clause-opened : goal.returns-in-Ok-None-clause-opened
returns-in-Ok-None-clause-opened g c =
    let S : Option LogRecord → Type 0 = λ x. Steps c.loop-n.opening c.next.new.self (Ok x) in
    let P : LogView → Type 0 = λ v. HasOpened (g.K.Disk.at c.args.disk).history v c.loop-n.records.items in
    subst P (sym c.into_log.ensures)
    (open_end (g.K.Disk.at c.args.disk).history c.loop-n.opening c.next.new.self c.loop-n.records.items c.loop-n.invariant.read
    (subst S c.in-Ok-None.field-0-is c.in-Ok-None.ensures.found) c.next.ensures.hidden)

pub returns-in-Ok-None-clause-ready : goal.returns-in-Ok-None-clause-ready
returns-in-Ok-None-clause-ready g c =
    let S : Option LogRecord → Type 0 = λ x. Steps c.loop-n.opening c.next.new.self (Ok x) in
    let P : LogView → Type 0 = λ v. IsReady v.history v.gate in
    subst P (sym c.into_log.ensures)
    (ready_end (g.K.Disk.at c.args.disk).history c.loop-n.opening c.next.new.self c.loop-n.records.items c.loop-n.invariant.read
    (subst S c.in-Ok-None.field-0-is c.in-Ok-None.ensures.found) c.next.ensures.hidden)

pub returns-in-Ok-None-clause-leaves : goal.returns-in-Ok-None-clause-leaves
returns-in-Ok-None-clause-leaves g c =
    let P : LogView → Type 0 = λ v. LeavesOpening (g.K.Disk.at c.args.disk).history v.history in
    subst P (sym c.into_log.ensures)
    (leaves_more (g.K.Disk.at c.args.disk).history c.loop-n.opening c.next.new.self c.loop-n.records.items c.loop-n.invariant.read
    c.next.ensures.leaves c.next.ensures.hidden c.loop-n.invariant.left)

pub returns-in-Err-next-clause-refused : goal.returns-in-Err-next-clause-refused
returns-in-Err-next-clause-refused g c =
    refused_next (g.K.Disk.at c.args.disk) (g.K.Disk.at c.into_disk-in-Err-next.result) c.loop-n.opening c.next.new.self c.loop-n.records.items c.in-Err-next.refusal c.loop-n.invariant.read
    c.in-Err-next.ensures.found (λ e. c.next.ensures.failed (c.in-Err-next.is ∙ ap (λ (x : LogRefusal). Err x) e)) c.loop-n.invariant.faults c.into_disk-in-Err-next.ensures.faults

pub returns-in-Err-next-clause-leaves : goal.returns-in-Err-next-clause-leaves
returns-in-Err-next-clause-leaves g c =
    let P : Option History → Type 0 = λ m. LeavesOpening (g.K.Disk.at c.args.disk).history m in
    subst P (sym c.into_disk-in-Err-next.ensures.history)
    (leaves_more (g.K.Disk.at c.args.disk).history c.loop-n.opening c.next.new.self c.loop-n.records.items c.loop-n.invariant.read
    c.next.ensures.leaves c.next.ensures.hidden c.loop-n.invariant.left)

pub returns-in-Err-push-clause-leaves : goal.returns-in-Err-push-clause-leaves
returns-in-Err-push-clause-leaves g c =
    let P : Option History → Type 0 = λ m. LeavesOpening (g.K.Disk.at c.args.disk).history m in
    subst P (sym c.into_disk.ensures.history)
    (leaves_more (g.K.Disk.at c.args.disk).history c.loop-n.opening c.next.new.self c.loop-n.records.items c.loop-n.invariant.read
    c.next.ensures.leaves c.next.ensures.hidden c.loop-n.invariant.left)

pub loop-n-preserved : goal.loop-n-preserved
loop-n-preserved g c =
    let S : Option LogRecord → Type 0 = λ x. Steps c.loop-n.opening c.next.new.self (Ok x) in
    let step : Steps c.loop-n.opening c.next.new.self (Ok (Some c.in-Ok-Some.found)) = subst S c.in-Ok-Some.field-0-is c.in-Ok-Some.ensures.found in
    let P : List LogRecord → Type 0 = λ rs. IsOpening (g.K.Disk.at c.args.disk).history c.next.new.self.history c.next.new.self.gate rs in
    record {
      read = subst P (sym c.in-Ok-push.ensures.items)
          (open_more (g.K.Disk.at c.args.disk).history c.loop-n.opening c.next.new.self c.loop-n.records.items c.in-Ok-Some.found c.loop-n.invariant.read step c.next.ensures.hidden);
      left = start_more (g.K.Disk.at c.args.disk).history c.loop-n.opening c.next.new.self c.loop-n.records.items c.in-Ok-Some.found c.loop-n.invariant.read step c.next.ensures.hidden c.loop-n.invariant.left;
      faults = omega (arith, c.next.ensures.faults);
    }

pub returns-clause-leaves : goal.returns-clause-leaves
returns-clause-leaves g c =
    let P : Option History → Type 0 = λ m. LeavesOpening (g.K.Disk.at c.args.disk).history m in
    subst P (sym c.into_disk-2.ensures.history) (leaves_begun (g.K.Disk.at c.args.disk).history c.loop-n.opening.history c.loop-n.invariant.left)
