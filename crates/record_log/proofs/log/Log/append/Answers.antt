-- what adding the batch behind the gate does, seen as a log
use Rattle.std.proofs.Common.{◌≡◌, ◌++◌, length, subst, sym, ◌∙◌, arith}
use Rattle.disks.specs.Moments.{Leaves}
use Rattle.record_log.specs.Images.{IsLog, IsBeforeOrAfter}
use Rattle.record_log.specs.Logs.{LogView}
use Rattle.record_log.proofs.Steps.{leaves_none, added_log, leaves_log}
use Rattle.record_log.proofs.log.Log.append.Goals as goal

pub returns-then-bytes-eq1-clause-leaves : goal.returns-then-bytes-eq1-clause-leaves
returns-then-bytes-eq1-clause-leaves g c = λ fs more l e. leaves_none c.args.self.now.history c.args.self.now.gate fs more l

pub returns-in-Err-clause-leaves : goal.returns-in-Err-clause-leaves
returns-in-Err-clause-leaves g c = λ fs more l e.
    let some : length c.as_slice-bytes.result.now ≡ 1 → ⊥ = λ q. absurd (omega (arith, q)) in
    let P : LogView → Type 0 = λ v. IsLog v.history v.gate fs → Leaves v.history (g.K.Disk.at c.append_at.new.disk).history (IsBeforeOrAfter fs more) in
    subst P c.self.view_is (λ k. leaves_log (g.K.Disk.at c.self.inside.disk).history (g.K.Disk.at c.append_at.new.disk).history c.self.inside.gate c.as_slice-bytes.result.now
    c.append_at.ensures.leaves some fs more k (c.as_slice-bytes.ensures.same ∙ e)) l

pub returns-clause-ready : goal.returns-clause-ready
returns-clause-ready g c =
    let some : length c.as_slice-bytes.result.now ≡ 1 → ⊥ = λ q. absurd (omega (arith, q)) in
    let P : LogView → Type 0 = λ v. IsLog v.history v.gate c.requires.0 in (
      c.requires.0 ++ c.as_slice-bytes.ensures.batch.0,
      added_log (g.K.Disk.at c.self.inside.disk).history (g.K.Disk.at c.append_at.new.disk).history c.self.inside.gate c.as_slice-bytes.result.now
          c.in-Ok.ensures.added some c.requires.0 c.as_slice-bytes.ensures.batch.0 (subst P (sym c.self.view_is) c.requires.1)
          (c.as_slice-bytes.ensures.same ∙ c.as_slice-bytes.ensures.batch.1),
    )

pub returns-clause-appended : goal.returns-clause-appended
returns-clause-appended g c = λ fs more l e.
    let some : length c.as_slice-bytes.result.now ≡ 1 → ⊥ = λ q. absurd (omega (arith, q)) in
    let P : LogView → Type 0 = λ v. IsLog v.history v.gate fs in
    added_log (g.K.Disk.at c.self.inside.disk).history (g.K.Disk.at c.append_at.new.disk).history c.self.inside.gate c.as_slice-bytes.result.now
    c.in-Ok.ensures.added some fs more (subst P (sym c.self.view_is) l) (c.as_slice-bytes.ensures.same ∙ e)

pub returns-clause-leaves : goal.returns-clause-leaves
returns-clause-leaves g c = λ fs more l e.
    let some : length c.as_slice-bytes.result.now ≡ 1 → ⊥ = λ q. absurd (omega (arith, q)) in
    let P : LogView → Type 0 = λ v. IsLog v.history v.gate fs → Leaves v.history (g.K.Disk.at c.append_at.new.disk).history (IsBeforeOrAfter fs more) in
    subst P c.self.view_is (λ k. leaves_log (g.K.Disk.at c.self.inside.disk).history (g.K.Disk.at c.append_at.new.disk).history c.self.inside.gate c.as_slice-bytes.result.now
    c.append_at.ensures.leaves some fs more k (c.as_slice-bytes.ensures.same ∙ e)) l
