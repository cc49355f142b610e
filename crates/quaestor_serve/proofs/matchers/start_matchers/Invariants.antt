-- those that were started work in the hall, which is as before to all others
use Rattle.std.proofs.Common.{◌≡◌, ℕ, ◌+◌, ◌≤◌, length}
use Rattle.std.specs.VecDeque.{deque_len, deque_capacity}
use Rattle.quaestor_serve.specs.Halls.{IsReady}
use Rattle.quaestor_serve.specs.Matchers.{WorkIn, IsAsBefore}
use Rattle.turnstile.specs.Seats.{HasOut}
use Rattle.quaestor_serve.proofs.matchers.start_matchers.Given as goal

abbrev pub invariant-loop-n : goal.invariant-loop-n
invariant-loop-n g l = IsReady l.hall × IsAsBefore l.initial.hall l.hall × WorkIn g.C.Clock.tick l.crew.trim (g.C.Clone.is_clone l.clock) l.hall l.matchers.items × (deque_len l.matchers ≡ l._n) × (l.crew.matchers ≤ deque_capacity l.matchers) × ((others : ℕ) → HasOut others l.initial.hall.seat → HasOut (others + length l.matchers.items) l.hall.seat)
