-- what stands at the gate, and what a crash may leave of it, seen as a log that is read
use Rattle.std.proofs.Common.{◌∙◌, ℕ, Ok, Err, subst, ap, refl, arith}
use Rattle.record_log.specs.declared.gate.Gate.{Gate}
use Rattle.record_log.specs.declared.refusal.LogRefusal.{LogRefusal}
use Rattle.record_log.specs.Gates.{HasGate}
use Rattle.record_log.specs.Logs.{LogView}
use Rattle.record_log.specs.Openings.{IsReading, LeavesClosing, Finds}
use Rattle.record_log.proofs.NextLemmas.{leaves_same, leaves_closed, ended, read_bad}
use Rattle.record_log.proofs.opening.Opening.next.Goals as goal
use Rattle.record_log.proofs.opening.Opening.next.Goals.{in-Ok, in-Err-close_gate}

pub returns-in-Ok-Open-clause-leaves : goal.returns-in-Ok-Open-clause-leaves
returns-in-Ok-Open-clause-leaves g c = λ fs rest reading.
    let P : LogView → Type 0 = λ v. IsReading v.history v.gate fs rest → LeavesClosing v.history (g.K.Disk.at c.read_gate.new.disk).history fs rest in
    subst P c.self.view_is (λ k. leaves_same (g.K.Disk.at c.self.inside.disk).history (g.K.Disk.at c.read_gate.new.disk).history c.self.inside.place fs rest c.in-Ok-Open.ensures.kept k) reading

pub returns-after-close_gate-clause-found : goal.returns-after-close_gate-clause-found
returns-after-close_gate-clause-found g c = λ fs rest reading.
    let new : LogView = record { history = (g.K.Disk.at c.close_gate.new.disk).history; faults = (g.K.Disk.at c.close_gate.new.disk).faults; gate = c.self.inside.place } in
    let F : Gate → Type 0 = λ x. HasGate (g.K.Disk.at c.self.inside.disk).history c.self.inside.place (Ok x) in
    let P : LogView → Type 0 = λ v. IsReading v.history v.gate fs rest → Finds v new fs rest c.match-close_gate.result in
    subst P c.self.view_is (λ k. elim c.match-close_gate.branch [
      | in-Ok w ↦ rw w.result-is (ended ℕ (record { history = (g.K.Disk.at c.self.inside.disk).history; faults = (g.K.Disk.at c.self.inside.disk).faults; gate = c.self.inside.place }) new
          (g.K.Disk.at c.read_gate.new.disk).history c.in-Ok-Shut.gate fs rest w.in-Ok.field-0 c.in-Ok-Shut.ensures.kept k (subst F c.in-Ok-Shut.field-0-is c.in-Ok-Shut.ensures.found) w.in-Ok.ensures.closed refl)
      | in-Err-close_gate w ↦ rw w.result-is (omega (arith, c.read_gate.ensures.faults, w.in-Err-close_gate.ensures.failed))
    ]) reading

pub returns-after-close_gate-clause-leaves : goal.returns-after-close_gate-clause-leaves
returns-after-close_gate-clause-leaves g c = λ fs rest reading.
    let F : Gate → Type 0 = λ x. HasGate (g.K.Disk.at c.self.inside.disk).history c.self.inside.place (Ok x) in
    let P : LogView → Type 0 = λ v. IsReading v.history v.gate fs rest → LeavesClosing v.history (g.K.Disk.at c.close_gate.new.disk).history fs rest in
    subst P c.self.view_is (λ k. leaves_closed (g.K.Disk.at c.self.inside.disk).history (g.K.Disk.at c.read_gate.new.disk).history (g.K.Disk.at c.close_gate.new.disk).history c.self.inside.place c.in-Ok-Shut.gate fs rest
    c.close_gate.result c.in-Ok-Shut.ensures.kept k (subst F c.in-Ok-Shut.field-0-is c.in-Ok-Shut.ensures.found) c.close_gate.ensures.closed) reading

pub returns-in-Err-clause-found : goal.returns-in-Err-clause-found
returns-in-Err-clause-found g c = λ fs rest reading.
    let new : LogView = record { history = (g.K.Disk.at c.read_gate.new.disk).history; faults = (g.K.Disk.at c.read_gate.new.disk).faults; gate = c.self.inside.place } in
    let P : LogView → Type 0 = λ v. IsReading v.history v.gate fs rest → Finds v new fs rest (Err c.in-Err.refusal) in
    subst P c.self.view_is (λ k. read_bad (record { history = (g.K.Disk.at c.self.inside.disk).history; faults = (g.K.Disk.at c.self.inside.disk).faults; gate = c.self.inside.place }) new fs rest c.in-Err.refusal
    c.in-Err.ensures.kept k c.in-Err.ensures.found (λ e. c.read_gate.ensures.failed (c.in-Err.is ∙ ap (λ (x : LogRefusal). Err x) e))) reading

pub returns-in-Err-clause-leaves : goal.returns-in-Err-clause-leaves
returns-in-Err-clause-leaves g c = λ fs rest reading.
    let P : LogView → Type 0 = λ v. IsReading v.history v.gate fs rest → LeavesClosing v.history (g.K.Disk.at c.read_gate.new.disk).history fs rest in
    subst P c.self.view_is (λ k. leaves_same (g.K.Disk.at c.self.inside.disk).history (g.K.Disk.at c.read_gate.new.disk).history c.self.inside.place fs rest c.in-Err.ensures.kept k) reading
