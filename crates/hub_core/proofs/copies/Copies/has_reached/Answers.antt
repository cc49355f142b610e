-- nothing expires until a moment that the clock has reached
use Rattle.std.proofs.Common.{◌≡◌, ◌≤◌, leb, true, arith, subst}
use Rattle.std.proofs.lemmas.Bool.{leb-true}
use Rattle.hub_core.specs.CopiesView.{CopiesView, Passes}
use Rattle.hub_core.proofs.SoundLemmas.{passes-reached}
use Rattle.hub_core.proofs.copies.Copies.has_reached.Goals as goal

low : (c : goal.After-seconds-2) → leb c.seconds.result c.seconds-2.result ≡ true → c.args.moment ≤ c.self.inside.issued.clock
low c reached =
    let order = leb-true c.seconds.result c.seconds-2.result reached in
    omega (arith, order, c.seconds.ensures.same, c.seconds-2.ensures.same, c.clock.ensures)

pub returns-clause-passes : goal.returns-clause-passes
returns-clause-passes c = λ reached.
    subst (λ (h : CopiesView). Passes c.args.moment h h) c.self.view_is
    (passes-reached _ c.args.moment (low c reached) c.self.invariant.late c.self.invariant.later)
