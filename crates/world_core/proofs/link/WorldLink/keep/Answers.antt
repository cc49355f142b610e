-- what the caches hold stays issued
use Rattle.std.proofs.Common.{ap}
use Rattle.world_core.specs.Link.{WorldLinkView}
use Rattle.world_core.proofs.link.WorldLink.keep.Goals as goal

pub invariant_of-self : goal.invariant_of-self
invariant_of-self c = record { first = c.self.invariant.first; second = c.self.invariant.second }

pub returns : goal.returns
returns c = ap (λ (v : WorldLinkView). record v { last = c.args.last }) c.self.view_is
