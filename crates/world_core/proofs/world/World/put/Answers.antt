-- the client acted through its cache, and the pages that the others hold stay
use Rattle.std.proofs.Common.{subst, arith}
use Rattle.std.specs.Prelude.{IfOk, OnOk}
use Rattle.std.proofs.lemmas.Result.{IfOk-weaker, on_ok_weaker}
use Rattle.world_core.specs.Link.{WorldLinkView, turned}
use Rattle.world_core.specs.World.{WorldView, IsClientDelete, IsClientPut, IsClientRead, IsClientRefresh, IsClientStep}
use Rattle.world_core.proofs.WorldLemmas.{client_put, held_turned, step_first, step_second, step_third}
use Rattle.world_core.proofs.world.World.put.Goals as goal

pub invariant_of-self : goal.invariant_of-self
invariant_of-self c = record {
  first = c.put.ensures.holds (held_turned c.args.client c.self.inside.link c.turn_to.new.self c.self.inside.first.page c.turn_to.ensures c.self.invariant.first);
  second = c.put.ensures.stays c.self.inside.second.page (held_turned c.args.client c.self.inside.link c.turn_to.new.self c.self.inside.second.page c.turn_to.ensures c.self.invariant.second);
  third = c.put.ensures.stays c.self.inside.third.page (held_turned c.args.client c.self.inside.link c.turn_to.new.self c.self.inside.third.page c.turn_to.ensures c.self.invariant.third);
}

pub returns-in-0 : goal.returns-in-0
returns-in-0 c =
    let w : WorldView = record { link = c.self.inside.link; first = c.self.inside.first; second = c.self.inside.second; third = c.self.inside.third } in
    subst (λ (x : WorldView). OnOk c.put.result (IsClientStep c.args.client (IsClientPut c.args.index c.args.price c.args.stock) x (record w { first = c.put.new.session; link = c.put.new.link }))) c.self.view_is
    (on_ok_weaker c.put.result (λ h. step_first (IsClientPut c.args.index c.args.price c.args.stock) w c.put.new.session c.put.new.link c.args.client c.in-0.is
    (subst (λ (v : WorldLinkView). IsClientPut c.args.index c.args.price c.args.stock c.self.inside.first c.put.new.session v c.put.new.link) c.turn_to.ensures
    (client_put c.args.index c.args.price c.args.stock c.in_ok-collection.collection c.in_ok-id.id c.in_ok-doc.doc c.self.inside.first c.put.new.session c.turn_to.new.self c.put.new.link
    c.in_ok-doc.ensures c.in_ok-collection.ensures c.in_ok-id.ensures h))) c.put.ensures.put)

pub invariant_of-self-in-1 : goal.invariant_of-self-in-1
invariant_of-self-in-1 c = record {
  first = c.put-in-1.ensures.stays c.self.inside.first.page (held_turned c.args.client c.self.inside.link c.turn_to.new.self c.self.inside.first.page c.turn_to.ensures c.self.invariant.first);
  second = c.put-in-1.ensures.holds (held_turned c.args.client c.self.inside.link c.turn_to.new.self c.self.inside.second.page c.turn_to.ensures c.self.invariant.second);
  third = c.put-in-1.ensures.stays c.self.inside.third.page (held_turned c.args.client c.self.inside.link c.turn_to.new.self c.self.inside.third.page c.turn_to.ensures c.self.invariant.third);
}

pub returns-in-1 : goal.returns-in-1
returns-in-1 c =
    let w : WorldView = record { link = c.self.inside.link; first = c.self.inside.first; second = c.self.inside.second; third = c.self.inside.third } in
    subst (λ (x : WorldView). OnOk c.put-in-1.result (IsClientStep c.args.client (IsClientPut c.args.index c.args.price c.args.stock) x (record w { second = c.put-in-1.new.session; link = c.put-in-1.new.link }))) c.self.view_is
    (on_ok_weaker c.put-in-1.result (λ h. step_second (IsClientPut c.args.index c.args.price c.args.stock) w c.put-in-1.new.session c.put-in-1.new.link c.args.client c.in-1.is
    (subst (λ (v : WorldLinkView). IsClientPut c.args.index c.args.price c.args.stock c.self.inside.second c.put-in-1.new.session v c.put-in-1.new.link) c.turn_to.ensures
    (client_put c.args.index c.args.price c.args.stock c.in_ok-collection.collection c.in_ok-id.id c.in_ok-doc.doc c.self.inside.second c.put-in-1.new.session c.turn_to.new.self c.put-in-1.new.link
    c.in_ok-doc.ensures c.in_ok-collection.ensures c.in_ok-id.ensures h))) c.put-in-1.ensures.put)

pub invariant_of-self-in_default : goal.invariant_of-self-in_default
invariant_of-self-in_default c = record {
  first = c.put-in_default.ensures.stays c.self.inside.first.page (held_turned c.args.client c.self.inside.link c.turn_to.new.self c.self.inside.first.page c.turn_to.ensures c.self.invariant.first);
  second = c.put-in_default.ensures.stays c.self.inside.second.page (held_turned c.args.client c.self.inside.link c.turn_to.new.self c.self.inside.second.page c.turn_to.ensures c.self.invariant.second);
  third = c.put-in_default.ensures.holds (held_turned c.args.client c.self.inside.link c.turn_to.new.self c.self.inside.third.page c.turn_to.ensures c.self.invariant.third);
}

pub returns : goal.returns
returns c =
    let w : WorldView = record { link = c.self.inside.link; first = c.self.inside.first; second = c.self.inside.second; third = c.self.inside.third } in
    subst (λ (x : WorldView). OnOk c.put-in_default.result (IsClientStep c.args.client (IsClientPut c.args.index c.args.price c.args.stock) x (record w { third = c.put-in_default.new.session; link = c.put-in_default.new.link }))) c.self.view_is
    (on_ok_weaker c.put-in_default.result (λ h. step_third (IsClientPut c.args.index c.args.price c.args.stock) w c.put-in_default.new.session c.put-in_default.new.link c.args.client (λ e. omega (arith, e)) (λ e. omega (arith, e))
    (subst (λ (v : WorldLinkView). IsClientPut c.args.index c.args.price c.args.stock c.self.inside.third c.put-in_default.new.session v c.put-in_default.new.link) c.turn_to.ensures
    (client_put c.args.index c.args.price c.args.stock c.in_ok-collection.collection c.in_ok-id.id c.in_ok-doc.doc c.self.inside.third c.put-in_default.new.session c.turn_to.new.self c.put-in_default.new.link
    c.in_ok-doc.ensures c.in_ok-collection.ensures c.in_ok-id.ensures h))) c.put-in_default.ensures.put)
