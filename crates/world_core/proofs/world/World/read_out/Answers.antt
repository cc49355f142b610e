-- the client acted through its cache, and the pages that the others hold stay
use Rattle.std.proofs.Common.{subst, arith}
use Rattle.std.specs.Prelude.{IfOk, OnOk}
use Rattle.std.proofs.lemmas.Result.{IfOk-weaker, on_ok_weaker}
use Rattle.world_core.specs.Link.{WorldLinkView, turned}
use Rattle.world_core.specs.World.{WorldView, IsClientDelete, IsClientPut, IsClientRead, IsClientRefresh, IsClientStep}
use Rattle.world_core.proofs.WorldLemmas.{client_put, held_turned, step_first, step_second, step_third}
use Rattle.world_core.proofs.world.World.read_out.Goals as goal

pub invariant_of-self : goal.invariant_of-self
invariant_of-self c = record {
  first = c.read.ensures.holds (held_turned c.args.client c.self.inside.link c.turn_to.new.self c.self.inside.first.page c.turn_to.ensures c.self.invariant.first);
  second = c.read.ensures.stays c.self.inside.second.page (held_turned c.args.client c.self.inside.link c.turn_to.new.self c.self.inside.second.page c.turn_to.ensures c.self.invariant.second);
  third = c.read.ensures.stays c.self.inside.third.page (held_turned c.args.client c.self.inside.link c.turn_to.new.self c.self.inside.third.page c.turn_to.ensures c.self.invariant.third);
}

pub returns-in-0 : goal.returns-in-0
returns-in-0 c =
    let w : WorldView = record { link = c.self.inside.link; first = c.self.inside.first; second = c.self.inside.second; third = c.self.inside.third } in
    subst (λ (x : WorldView). IfOk c.read.result (λ out. IsClientStep c.args.client (IsClientRead c.args.key.now out) x (record w { first = c.read.new.session; link = c.read.new.link }))) c.self.view_is
    (IfOk-weaker c.read.result _ _ (λ out h. step_first (IsClientRead c.args.key.now out) w c.read.new.session c.read.new.link c.args.client c.in-0.is
    (subst (λ (v : WorldLinkView). IsClientRead c.args.key.now out c.self.inside.first c.read.new.session v c.read.new.link) c.turn_to.ensures h)) (c.read.ensures.read (held_turned c.args.client c.self.inside.link c.turn_to.new.self c.self.inside.first.page c.turn_to.ensures c.self.invariant.first)))

pub invariant_of-self-in-1 : goal.invariant_of-self-in-1
invariant_of-self-in-1 c = record {
  first = c.read-in-1.ensures.stays c.self.inside.first.page (held_turned c.args.client c.self.inside.link c.turn_to.new.self c.self.inside.first.page c.turn_to.ensures c.self.invariant.first);
  second = c.read-in-1.ensures.holds (held_turned c.args.client c.self.inside.link c.turn_to.new.self c.self.inside.second.page c.turn_to.ensures c.self.invariant.second);
  third = c.read-in-1.ensures.stays c.self.inside.third.page (held_turned c.args.client c.self.inside.link c.turn_to.new.self c.self.inside.third.page c.turn_to.ensures c.self.invariant.third);
}

pub returns-in-1 : goal.returns-in-1
returns-in-1 c =
    let w : WorldView = record { link = c.self.inside.link; first = c.self.inside.first; second = c.self.inside.second; third = c.self.inside.third } in
    subst (λ (x : WorldView). IfOk c.read-in-1.result (λ out. IsClientStep c.args.client (IsClientRead c.args.key.now out) x (record w { second = c.read-in-1.new.session; link = c.read-in-1.new.link }))) c.self.view_is
    (IfOk-weaker c.read-in-1.result _ _ (λ out h. step_second (IsClientRead c.args.key.now out) w c.read-in-1.new.session c.read-in-1.new.link c.args.client c.in-1.is
    (subst (λ (v : WorldLinkView). IsClientRead c.args.key.now out c.self.inside.second c.read-in-1.new.session v c.read-in-1.new.link) c.turn_to.ensures h)) (c.read-in-1.ensures.read (held_turned c.args.client c.self.inside.link c.turn_to.new.self c.self.inside.second.page c.turn_to.ensures c.self.invariant.second)))

pub invariant_of-self-in_default : goal.invariant_of-self-in_default
invariant_of-self-in_default c = record {
  first = c.read-in_default.ensures.stays c.self.inside.first.page (held_turned c.args.client c.self.inside.link c.turn_to.new.self c.self.inside.first.page c.turn_to.ensures c.self.invariant.first);
  second = c.read-in_default.ensures.stays c.self.inside.second.page (held_turned c.args.client c.self.inside.link c.turn_to.new.self c.self.inside.second.page c.turn_to.ensures c.self.invariant.second);
  third = c.read-in_default.ensures.holds (held_turned c.args.client c.self.inside.link c.turn_to.new.self c.self.inside.third.page c.turn_to.ensures c.self.invariant.third);
}

pub returns-in_default : goal.returns-in_default
returns-in_default c =
    let w : WorldView = record { link = c.self.inside.link; first = c.self.inside.first; second = c.self.inside.second; third = c.self.inside.third } in
    subst (λ (x : WorldView). IfOk c.read-in_default.result (λ out. IsClientStep c.args.client (IsClientRead c.args.key.now out) x (record w { third = c.read-in_default.new.session; link = c.read-in_default.new.link }))) c.self.view_is
    (IfOk-weaker c.read-in_default.result _ _ (λ out h. step_third (IsClientRead c.args.key.now out) w c.read-in_default.new.session c.read-in_default.new.link c.args.client (λ e. omega (arith, e)) (λ e. omega (arith, e))
    (subst (λ (v : WorldLinkView). IsClientRead c.args.key.now out c.self.inside.third c.read-in_default.new.session v c.read-in_default.new.link) c.turn_to.ensures h)) (c.read-in_default.ensures.read (held_turned c.args.client c.self.inside.link c.turn_to.new.self c.self.inside.third.page c.turn_to.ensures c.self.invariant.third)))
