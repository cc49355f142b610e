-- the client acted through its cache, and the pages that the others hold stay
use Rattle.std.proofs.Common.{subst, arith}
use Rattle.std.specs.Prelude.{IfOk, OnOk}
use Rattle.std.proofs.lemmas.Result.{IfOk-weaker, on_ok_weaker}
use Rattle.world_core.specs.Link.{WorldLinkView, turned}
use Rattle.world_core.specs.World.{WorldView, IsClientDelete, IsClientPut, IsClientRead, IsClientRefresh, IsClientStep}
use Rattle.world_core.proofs.WorldLemmas.{client_put, held_turned, step_first, step_second, step_third}
use Rattle.world_core.proofs.world.World.refresh.Goals as goal

pub invariant_of-self : goal.invariant_of-self
invariant_of-self c = record {
  first = c.refresh.ensures.holds (held_turned c.args.client c.self.inside.link c.turn_to.new.self c.self.inside.first.page c.turn_to.ensures c.self.invariant.first);
  second = c.refresh.ensures.stays c.self.inside.second.page (held_turned c.args.client c.self.inside.link c.turn_to.new.self c.self.inside.second.page c.turn_to.ensures c.self.invariant.second);
  third = c.refresh.ensures.stays c.self.inside.third.page (held_turned c.args.client c.self.inside.link c.turn_to.new.self c.self.inside.third.page c.turn_to.ensures c.self.invariant.third);
}

pub returns-in-0 : goal.returns-in-0
returns-in-0 c =
    let w : WorldView = record { link = c.self.inside.link; first = c.self.inside.first; second = c.self.inside.second; third = c.self.inside.third } in
    subst (λ (x : WorldView). OnOk c.refresh.result (IsClientStep c.args.client IsClientRefresh x (record w { first = c.refresh.new.session; link = c.refresh.new.link }))) c.self.view_is
    (on_ok_weaker c.refresh.result (λ h. step_first IsClientRefresh w c.refresh.new.session c.refresh.new.link c.args.client c.in-0.is
    (subst (λ (v : WorldLinkView). IsClientRefresh c.self.inside.first c.refresh.new.session v c.refresh.new.link) c.turn_to.ensures h)) c.refresh.ensures.refresh)

pub invariant_of-self-in-1 : goal.invariant_of-self-in-1
invariant_of-self-in-1 c = record {
  first = c.refresh-in-1.ensures.stays c.self.inside.first.page (held_turned c.args.client c.self.inside.link c.turn_to.new.self c.self.inside.first.page c.turn_to.ensures c.self.invariant.first);
  second = c.refresh-in-1.ensures.holds (held_turned c.args.client c.self.inside.link c.turn_to.new.self c.self.inside.second.page c.turn_to.ensures c.self.invariant.second);
  third = c.refresh-in-1.ensures.stays c.self.inside.third.page (held_turned c.args.client c.self.inside.link c.turn_to.new.self c.self.inside.third.page c.turn_to.ensures c.self.invariant.third);
}

pub returns-in-1 : goal.returns-in-1
returns-in-1 c =
    let w : WorldView = record { link = c.self.inside.link; first = c.self.inside.first; second = c.self.inside.second; third = c.self.inside.third } in
    subst (λ (x : WorldView). OnOk c.refresh-in-1.result (IsClientStep c.args.client IsClientRefresh x (record w { second = c.refresh-in-1.new.session; link = c.refresh-in-1.new.link }))) c.self.view_is
    (on_ok_weaker c.refresh-in-1.result (λ h. step_second IsClientRefresh w c.refresh-in-1.new.session c.refresh-in-1.new.link c.args.client c.in-1.is
    (subst (λ (v : WorldLinkView). IsClientRefresh c.self.inside.second c.refresh-in-1.new.session v c.refresh-in-1.new.link) c.turn_to.ensures h)) c.refresh-in-1.ensures.refresh)

pub invariant_of-self-in_default : goal.invariant_of-self-in_default
invariant_of-self-in_default c = record {
  first = c.refresh-in_default.ensures.stays c.self.inside.first.page (held_turned c.args.client c.self.inside.link c.turn_to.new.self c.self.inside.first.page c.turn_to.ensures c.self.invariant.first);
  second = c.refresh-in_default.ensures.stays c.self.inside.second.page (held_turned c.args.client c.self.inside.link c.turn_to.new.self c.self.inside.second.page c.turn_to.ensures c.self.invariant.second);
  third = c.refresh-in_default.ensures.holds (held_turned c.args.client c.self.inside.link c.turn_to.new.self c.self.inside.third.page c.turn_to.ensures c.self.invariant.third);
}

pub returns-in_default : goal.returns-in_default
returns-in_default c =
    let w : WorldView = record { link = c.self.inside.link; first = c.self.inside.first; second = c.self.inside.second; third = c.self.inside.third } in
    subst (λ (x : WorldView). OnOk c.refresh-in_default.result (IsClientStep c.args.client IsClientRefresh x (record w { third = c.refresh-in_default.new.session; link = c.refresh-in_default.new.link }))) c.self.view_is
    (on_ok_weaker c.refresh-in_default.result (λ h. step_third IsClientRefresh w c.refresh-in_default.new.session c.refresh-in_default.new.link c.args.client (λ e. omega (arith, e)) (λ e. omega (arith, e))
    (subst (λ (v : WorldLinkView). IsClientRefresh c.self.inside.third c.refresh-in_default.new.session v c.refresh-in_default.new.link) c.turn_to.ensures h)) c.refresh-in_default.ensures.refresh)
