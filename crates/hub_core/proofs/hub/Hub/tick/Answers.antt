-- the clock moves, and nothing else
use Rattle.std.proofs.Common.{sym, subst}
use Rattle.hub_core.specs.HubState.{HubView, IsAt}
use Rattle.hub_core.proofs.HubLemmas.{at-with, hub-passed, parts-at, sound-passed}
use Rattle.hub_core.proofs.hub.Hub.tick.Goals as goal

pub invariant_of-self : goal.invariant_of-self
invariant_of-self c =
    sound-passed c.self.inside.book c.self.inside.front c.self.inside.copies c.pass.new.copies c.self.inside.queries.entries c.pass.new.queries.entries c.self.inside.life c.pass.new.life c.args.moment c.self.invariant c.pass.ensures.passes c.pass.ensures.idle c.pass.ensures.kept c.pass.ensures.dropped

pub returns-clause-after : goal.returns-clause-after
returns-clause-after c = λ s at.
    at-with c.self.inside.book c.self.inside.front c.pass.new.copies c.pass.new.queries.entries c.pass.new.life _
    (hub-passed c.self.inside.book c.self.inside.front c.self.inside.copies c.self.inside.life s (parts-at c.self.inside.book c.self.inside.front c.self.inside.copies c.self.inside.queries.entries c.self.inside.life c.args.self.now s c.self.view_is at) c.pass.new.copies c.pass.new.life c.args.moment c.self.invariant.lean.idle c.pass.ensures.passes c.pass.ensures.dropped)

-- nothing is kept but what the history needs
pub returns-clause-lean : goal.returns-clause-lean
returns-clause-lean c = (invariant_of-self c).lean
