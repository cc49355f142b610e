-- the clock moves, and then the book drops its old rows
use Rattle.std.proofs.Common.{◌≡◌, ℕ, ap, ◌∙◌, arith}
use Rattle.hub_model.specs.Reply.{dropped}
use Rattle.hub_core.specs.HubState.{HubView}
use Rattle.hub_core.proofs.HubLemmas.{at-with, hub-dropped, hub-passed, parts-at, sound-dropped, sound-passed}
use Rattle.hub_core.proofs.hub.Hub.drop_to.Goals as goal

pub drop_to-requires-clause-forward : goal.drop_to-requires-clause-forward
drop_to-requires-clause-forward c = (let horizon : c.self.inside.book.horizon ≡ c.args.self.now.horizon = ap (λ (h : HubView). h.horizon) c.self.view_is in omega (arith, horizon, c.requires.above))

pub drop_to-requires-clause-within : goal.drop_to-requires-clause-within
drop_to-requires-clause-within c = (let front : c.self.inside.front ≡ c.args.self.now.front = ap (λ (h : HubView). h.front) c.self.view_is in omega (arith, front, c.requires.within, c.self.invariant.within))

-- what is dropped was matched, so the parts of the hub belong together still
pub invariant_of-self : goal.invariant_of-self
invariant_of-self c =
    let front : c.self.inside.front ≡ c.args.self.now.front = ap (λ (h : HubView). h.front) c.self.view_is in
    sound-dropped c.self.inside.book c.drop_to.new.self c.self.inside.front c.args.to c.pass.new.copies c.pass.new.queries.entries c.pass.new.life
    (sound-passed c.self.inside.book c.self.inside.front c.self.inside.copies c.pass.new.copies c.self.inside.queries.entries c.pass.new.queries.entries c.self.inside.life c.pass.new.life c.args.moment c.self.invariant c.pass.ensures.passes c.pass.ensures.idle c.pass.ensures.kept c.pass.ensures.dropped)
    c.drop_to.ensures.after (omega (arith, front, c.requires.within)) c.drop_to.ensures.names

pub returns-clause-after : goal.returns-clause-after
returns-clause-after c = λ s at.
    at-with c.drop_to.new.self c.self.inside.front c.pass.new.copies c.pass.new.queries.entries c.pass.new.life _
    (hub-dropped c.self.inside.book c.self.inside.front c.pass.new.copies c.pass.new.life _
    (hub-passed c.self.inside.book c.self.inside.front c.self.inside.copies c.self.inside.life s (parts-at c.self.inside.book c.self.inside.front c.self.inside.copies c.self.inside.queries.entries c.self.inside.life c.args.self.now s c.self.view_is at) c.pass.new.copies c.pass.new.life c.args.moment c.self.invariant.lean.idle c.pass.ensures.passes c.pass.ensures.dropped)
    c.drop_to.new.self c.args.to c.drop_to.ensures.after)

pub returns-clause-told : goal.returns-clause-told
returns-clause-told c = λ s at. ap (λ (n : ℕ). dropped (record { horizon = c.args.to; clock = n })) (c.clock.ensures ∙ (returns-clause-after c s at).time.clock)

-- nothing is kept but what the history needs
pub returns-clause-lean : goal.returns-clause-lean
returns-clause-lean c = (invariant_of-self c).lean
