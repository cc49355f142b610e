-- what the head, the body and what they say make of the gate
use Rattle.std.proofs.Common.{◌≡◌, Bool, List, ℕ, Some, None, Ok, subst, arith}
use Rattle.record_log.specs.Heads.{HasBody}
use Rattle.record_log.specs.Records.{record_of}
use Rattle.record_log.proofs.GateLemmas.{gate_fault, bad_record, good_record}
use Rattle.record_log.proofs.gate.read_record.Goals as goal

pub returns-in-Err-clause-found : goal.returns-in-Err-clause-found
returns-in-Err-clause-found g c =
    gate_fault (g.D.Disk.at c.args.disk.now).history c.args.place c.saturating_add-from.result c.args.size c.read_body.new.body.items c.in-Err.refusal c.in-Err.ensures.body

pub returns-in-Ok-clause-found : goal.returns-in-Ok-clause-found
returns-in-Ok-clause-found g c =
    let P : Bool → Type 0 = λ t. HasBody (g.D.Disk.at c.args.disk.now).history c.saturating_add-from.result c.args.size c.read_body.new.body.items (Ok t) in
    let Q : List ℕ → Type 0 = λ b. record_of (record { kind = c.args.kind; clock = c.args.clock; body = b }) ≡ Some c.in-Ok.says in
    good_record (g.D.Disk.at c.args.disk.now).history c.args.place c.args.kind c.args.clock c.args.size c.saturating_add-from.result c.saturating_add.result c.read_body.new.body.items c.in-Ok.says
    (omega arith) (omega arith) (omega arith) c.saturating_add-from.ensures c.saturating_add.ensures c.requires
    (subst P c.in-Ok-true.field-0-test c.in-Ok-true.ensures.body) (subst Q c.deref.ensures.value c.in-Ok.ensures)

pub returns-in-Err-Bad-clause-found : goal.returns-in-Err-Bad-clause-found
returns-in-Err-Bad-clause-found g c =
    let P : Bool → Type 0 = λ t. HasBody (g.D.Disk.at c.args.disk.now).history c.saturating_add-from.result c.args.size c.read_body.new.body.items (Ok t) in
    let Q : List ℕ → Type 0 = λ b. record_of (record { kind = c.args.kind; clock = c.args.clock; body = b }) ≡ None in
    bad_record (g.D.Disk.at c.args.disk.now).history c.args.place c.args.kind c.args.clock c.args.size c.saturating_add-from.result c.read_body.new.body.items
    (omega arith) (omega arith) c.saturating_add-from.ensures c.requires
    (subst P c.in-Ok-true.field-0-test c.in-Ok-true.ensures.body) (subst Q c.deref.ensures.value (rw c.in-Err-Bad.field-0-is at c.in-Err-Bad.ensures))
