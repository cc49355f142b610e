-- the store gains what was asked for, and the pages that clients hold stay fetched
use Rattle.std.proofs.Common.{refl, subst}
use Rattle.std.specs.Prelude.{OnOk}
use Rattle.std.proofs.lemmas.Result.{on_ok_weaker}
use Rattle.world_core.specs.World.{WorldView, IsWorldPulled}
use Rattle.world_core.proofs.RunLemmas.{grown_holds}
use Rattle.world_core.proofs.world.World.pull.Goals as goal

pub invariant_of-self : goal.invariant_of-self
invariant_of-self c = record {
  first = grown_holds c.self.inside.link.store c.pull.new.self.store c.self.inside.first.page c.pull.ensures.grown c.self.invariant.first;
  second = grown_holds c.self.inside.link.store c.pull.new.self.store c.self.inside.second.page c.pull.ensures.grown c.self.invariant.second;
  third = grown_holds c.self.inside.link.store c.pull.new.self.store c.self.inside.third.page c.pull.ensures.grown c.self.invariant.third;
}

pub returns : goal.returns
returns c =
    let w : WorldView = record { link = c.self.inside.link; first = c.self.inside.first; second = c.self.inside.second; third = c.self.inside.third } in
    subst (λ (x : WorldView). OnOk c.pull.result (IsWorldPulled x (record w { link = c.pull.new.self }))) c.self.view_is
    (on_ok_weaker c.pull.result (λ e. (c.pull.new.self, e, refl)) c.pull.ensures.ok)
