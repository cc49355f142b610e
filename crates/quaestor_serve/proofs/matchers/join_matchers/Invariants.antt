-- those that were joined so far
use Rattle.std.proofs.Common.{◌≡◌, ℕ, ◌+◌, length}
use Rattle.quaestor_serve.specs.Halls.{IsReady}
use Rattle.quaestor_serve.specs.Matchers.{WorkIn, Gathers}
use Rattle.turnstile.specs.Seats.{HasOut}
use Rattle.quaestor_serve.proofs.matchers.join_matchers.Given as goal

abbrev pub invariant-loop-n : goal.invariant-loop-n
invariant-loop-n g l = IsReady l.hall × Gathers g.C.Clock.tick l.trim (g.C.Clone.is_clone l.given) l.initial.hall l.hall × WorkIn g.C.Clock.tick l.trim (g.C.Clone.is_clone l.given) l.hall l.matchers.items × (length l.matchers.items + l._n ≡ length l.initial.matchers.items) × ((others : ℕ) → HasOut (others + length l.initial.matchers.items) l.initial.hall.seat → HasOut (others + length l.matchers.items) l.hall.seat)
