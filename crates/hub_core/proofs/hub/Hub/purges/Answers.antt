-- the clock moves, and the purges are those of the state
use Rattle.std.proofs.Common.{ℕ, List, length, take, drop, ◌-◌, ap, sym, ◌∙◌, subst}
use Rattle.hub_model.specs.Reply.{purged}
use Rattle.hub_core.specs.declared.lifetimes.Lifetimes.{Lifetimes}
use Rattle.hub_core.specs.HubState.{HubView, IsAt}
use Rattle.hub_core.proofs.HubLemmas.{at-with, hub-passed, parts-at, sound-passed}
use Rattle.hub_core.proofs.hub.Hub.purges.Goals as goal

pub invariant_of-self : goal.invariant_of-self
invariant_of-self c =
    sound-passed c.self.inside.book c.self.inside.front c.self.inside.copies c.pass.new.copies c.self.inside.queries.entries c.pass.new.queries.entries c.self.inside.life c.pass.new.life c.args.moment c.self.invariant c.pass.ensures.passes c.pass.ensures.idle c.pass.ensures.kept c.pass.ensures.dropped

pub returns-clause-lean : goal.returns-clause-lean
returns-clause-lean c = (invariant_of-self c).lean

-- the hub when its clock has moved
pub returns-clause-after : goal.returns-clause-after
returns-clause-after c = λ s at.
    at-with c.self.inside.book c.self.inside.front c.pass.new.copies c.pass.new.queries.entries c.pass.new.life _
    (hub-passed c.self.inside.book c.self.inside.front c.self.inside.copies c.self.inside.life s (parts-at c.self.inside.book c.self.inside.front c.self.inside.copies c.self.inside.queries.entries c.self.inside.life c.args.self.now s c.self.view_is at) c.pass.new.copies c.pass.new.life c.args.moment c.self.invariant.lean.idle c.pass.ensures.passes c.pass.ensures.dropped)

pub returns-clause-told : goal.returns-clause-told
returns-clause-told c = λ s at.
    let is = returns-clause-after c s at in
    let front = is.time.front in
    let clock = c.clock.ensures ∙ is.time.clock in
    let last = c.last.ensures ∙ ap length is.purges in
    let texts = c.in_ok-keys.ensures.texts ∙ ap (λ (ts : List (List ℕ)). take 1000 (drop (c.args.from - 1) ts)) (ap (λ (l : Lifetimes). l.purges.texts) (sym c.pass.ensures.dropped.rest) ∙ is.purges) in
    (λ i. purged (record { from = c.args.from; last = last i; front = front i; clock = clock i; texts = texts i }))
