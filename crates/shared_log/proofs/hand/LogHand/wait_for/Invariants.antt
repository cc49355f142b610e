-- the hand is at the same log, wants what it wanted, and its seat has seen no less
use Rattle.std.proofs.Common.{◌≡◌}
use Rattle.std.specs.Arc.{arc_value}
use Rattle.shared_log.specs.Shared.{KnowsStill}
use Rattle.shared_log.proofs.hand.LogHand.wait_for.Given as goal

abbrev pub invariant-loop : goal.invariant-loop
invariant-loop g l = ((arc_value l.self.shared).turnstile ≡ (arc_value l.initial.self.shared).turnstile) × KnowsStill (arc_value l.self.shared).turnstile l.initial.self.seat l.self.seat
    × (l.self.wanted ≡ l.initial.self.wanted) × (l.self.has_lost ≡ l.initial.self.has_lost)
