-- the batch is the queued frames behind those of the log
use Rattle.turnstile.specs.Seats.{seen, setting_of}
use Rattle.shared_log.specs.LogValues.{mark_of, opened_of}
use Rattle.shared_log.proofs.StandLemmas.{has_done}
use Rattle.shared_log.proofs.shared.SharedLog.store.Goals as goal

pub put_back-requires-clause-done : goal.put_back-requires-clause-done
put_back-requires-clause-done g c = has_done (setting_of opened_of c.args.self.now.turnstile) (seen c.args.seat.now) c.args.work.log c.append-stored.new.self c.args.work.batch (mark_of c.args.work.from) (mark_of c.args.work.to) c.append-stored.result
    c.requires.work c.append-stored.ensures.ready c.append-stored.ensures.appended c.append-stored.ensures.leaves
