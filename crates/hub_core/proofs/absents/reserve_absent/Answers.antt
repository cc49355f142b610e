-- memory is taken where the lifetime is bounded
use Rattle.std.proofs.Common.{◌≡◌, true, false, sym, ◌∙◌}
use Rattle.std.proofs.lemmas.Result.{on_ok_weaker}
use Rattle.hub_core.proofs.absents.reserve_absent.Goals as goal

pub returns-then-bounded-clause-ok : goal.returns-then-bounded-clause-ok
returns-then-bounded-clause-ok c = on_ok_weaker c.reserve.result (λ reserved. λ bounded. reserved) c.reserve.ensures.ok

pub returns-then-bounded-clause-unbounded : goal.returns-then-bounded-clause-unbounded
returns-then-bounded-clause-unbounded c = λ unbounded. absurd (let e : true ≡ false = sym c.if-bounded.true ∙ unbounded in cc)

pub returns-clause-ok : goal.returns-clause-ok
returns-clause-ok c = λ bounded. absurd (let e : true ≡ false = sym bounded ∙ c.if-bounded.false in cc)
