-- the body is that of the change, and its frame is read as it
use Rattle.std.proofs.Common.{List, ℕ, length, ap, ◌∙◌, subst, OnOk, arith}
use Rattle.record_log.specs.Batches.{AddsFrame}
use Rattle.record_log.specs.Records.{frame_of}
use Rattle.record_log.proofs.RecordLemmas.{body_short, commit_frame, on_ok}
use Rattle.record_log.proofs.batch.Batch.add_commit.Goals as goal

pub add-requires : goal.add-requires
add-requires c =
    omega (arith, ap (λ (x : List ℕ). length x) (c.deref.ensures.value ∙ c.in_ok-body.ensures.text), body_short c.args.change.now c.in_ok-body.ensures.can)

pub returns-clause-added : goal.returns-clause-added
unfolding frame_of
returns-clause-added c =
    let P : List ℕ → Type 0 = λ b. OnOk c.add.result (AddsFrame c.args.self.now c.add.new.self (record { kind = 1; clock = c.args.clock; body = b })) in
    subst P (c.deref.ensures.value ∙ c.in_ok-body.ensures.text) c.add.ensures.added

pub returns-clause-read : goal.returns-clause-read
returns-clause-read c = on_ok c.add.result _ (commit_frame c.args.clock c.args.change.now c.requires c.in_ok-body.ensures.can)
