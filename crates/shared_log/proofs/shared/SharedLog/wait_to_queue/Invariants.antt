-- the seat has seen no less than before
use Rattle.shared_log.specs.Shared.{IsSeated, KnowsStill}
use Rattle.shared_log.proofs.shared.SharedLog.wait_to_queue.Given as goal

abbrev pub invariant-loop : goal.invariant-loop
invariant-loop g l = IsSeated l.self.turnstile l.seat × KnowsStill l.self.turnstile l.initial.seat l.seat
