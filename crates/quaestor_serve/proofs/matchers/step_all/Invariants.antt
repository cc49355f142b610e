-- those that have had their turn are behind the others
use Rattle.std.proofs.Common.{◌≡◌, length}
use Rattle.turnstile.specs.Places.{AllOf}
use Rattle.quaestor_serve.specs.Matchers.{WorksAt}
use Rattle.quaestor_serve.proofs.matchers.step_all.Given as goal

abbrev pub invariant-loop-n : goal.invariant-loop-n
invariant-loop-n g l = AllOf (λ m. WorksAt g.C.Clock.tick l.trim (g.C.Clone.is_clone l.given) l.turnstile m) l.matchers.items × (length l.matchers.items ≡ length l.initial.matchers.items)
