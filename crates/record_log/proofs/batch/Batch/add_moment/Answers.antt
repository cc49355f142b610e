-- the frame is read as the moment
use Rattle.record_log.specs.Records.{frame_of}
use Rattle.record_log.proofs.RecordLemmas.{moment_frame, on_ok}
use Rattle.record_log.proofs.batch.Batch.add_moment.Goals as goal

pub returns-clause-added : goal.returns-clause-added
unfolding frame_of
returns-clause-added c = c.add.ensures.added

pub returns-clause-read : goal.returns-clause-read
returns-clause-read c = on_ok c.add.result _ (moment_frame c.args.clock c.requires)
