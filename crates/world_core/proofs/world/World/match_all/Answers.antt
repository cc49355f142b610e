-- the store gains the match, and the pages that clients hold stay fetched
use Rattle.std.proofs.Common.{ap, ◌∙◌, subst}
use Rattle.std.specs.Prelude.{OnOk}
use Rattle.std.proofs.lemmas.Result.{on_ok_weaker}
use Rattle.world_core.specs.Link.{WorldLinkView}
use Rattle.world_core.specs.Store.{after_match}
use Rattle.world_core.specs.World.{WorldView, with_store}
use Rattle.world_core.proofs.RunLemmas.{grown_holds}
use Rattle.world_core.proofs.world.World.match_all.Goals as goal

pub invariant_of-self : goal.invariant_of-self
invariant_of-self c = record {
  first = grown_holds c.self.inside.link.store c.match_all.new.self.store c.self.inside.first.page c.match_all.ensures.grown c.self.invariant.first;
  second = grown_holds c.self.inside.link.store c.match_all.new.self.store c.self.inside.second.page c.match_all.ensures.grown c.self.invariant.second;
  third = grown_holds c.self.inside.link.store c.match_all.new.self.store c.self.inside.third.page c.match_all.ensures.grown c.self.invariant.third;
}

pub returns : goal.returns
returns c =
    let w : WorldView = record { link = c.self.inside.link; first = c.self.inside.first; second = c.self.inside.second; third = c.self.inside.third } in
    on_ok_weaker c.match_all.result (λ e. ap (λ (v : WorldLinkView). record w { link = v }) e ∙ ap (λ (x : WorldView). with_store x (after_match x.link.store)) c.self.view_is) c.match_all.ensures.ok
