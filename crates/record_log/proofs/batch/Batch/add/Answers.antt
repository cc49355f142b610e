-- a batch with one frame more is one
use Rattle.std.proofs.Common.{◌∙◌}
use Rattle.record_log.proofs.RecordLemmas.{batch_more}
use Rattle.record_log.proofs.batch.Batch.add.Goals as goal
use Rattle.record_log.proofs.batch.Batch.add.Goals.{in-Ok, in-Err}

pub invariant_of-self : goal.invariant_of-self
invariant_of-self c = elim c.match-put_record.branch [
  | in-Ok w ↦ batch_more c.self.inside.bytes.items c.put_record.new.bytes.items (record { kind = c.args.kind; clock = c.args.clock; body = c.args.body.now }) c.self.invariant w.in-Ok.ensures.added
  | in-Err w ↦ (c.self.invariant.0, w.in-Err.ensures.not ∙ c.self.invariant.1)
]
