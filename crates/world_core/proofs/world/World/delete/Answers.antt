-- the client acted through its cache, and the pages that the others hold stay
use Rattle.std.proofs.Common.{subst, arith}
use Rattle.std.specs.Prelude.{IfOk, OnOk}
use Rattle.std.proofs.lemmas.Result.{IfOk-weaker, on_ok_weaker}
use Rattle.world_core.specs.Link.{WorldLinkView, turned}
use Rattle.std.proofs.Common.{ℕ, List}
use Rattle.world_core.specs.Products.{collection, product_id}
use Rattle.world_core.specs.World.{IsRecordDelete}
use Rattle.world_core.specs.World.{WorldView, IsClientDelete, IsClientPut, IsClientRead, IsClientRefresh, IsClientStep}
use Rattle.world_core.proofs.WorldLemmas.{client_put, held_turned, step_first, step_second, step_third}
use Rattle.world_core.proofs.world.World.delete.Goals as goal

pub invariant_of-self : goal.invariant_of-self
invariant_of-self c = record {
  first = c.delete.ensures.holds (held_turned c.args.client c.self.inside.link c.turn_to.new.self c.self.inside.first.page c.turn_to.ensures c.self.invariant.first);
  second = c.delete.ensures.stays c.self.inside.second.page (held_turned c.args.client c.self.inside.link c.turn_to.new.self c.self.inside.second.page c.turn_to.ensures c.self.invariant.second);
  third = c.delete.ensures.stays c.self.inside.third.page (held_turned c.args.client c.self.inside.link c.turn_to.new.self c.self.inside.third.page c.turn_to.ensures c.self.invariant.third);
}

pub returns-in-0 : goal.returns-in-0
returns-in-0 c =
    let w : WorldView = record { link = c.self.inside.link; first = c.self.inside.first; second = c.self.inside.second; third = c.self.inside.third } in
    subst (λ (x : WorldView). OnOk c.delete.result (IsClientStep c.args.client (IsClientDelete c.args.index) x (record w { first = c.delete.new.session; link = c.delete.new.link }))) c.self.view_is
    (on_ok_weaker c.delete.result (λ h. step_first (IsClientDelete c.args.index) w c.delete.new.session c.delete.new.link c.args.client c.in-0.is
    (subst (λ (v : WorldLinkView). IsRecordDelete collection (product_id c.args.index) c.self.inside.first c.delete.new.session v c.delete.new.link) c.turn_to.ensures
    (subst (λ (xs : List ℕ). IsRecordDelete xs (product_id c.args.index) c.self.inside.first c.delete.new.session c.turn_to.new.self c.delete.new.link) c.in_ok-collection.ensures
    (subst (λ (xs : List ℕ). IsRecordDelete c.in_ok-collection.collection xs c.self.inside.first c.delete.new.session c.turn_to.new.self c.delete.new.link) c.in_ok-id.ensures h)))) c.delete.ensures.delete)

pub invariant_of-self-in-1 : goal.invariant_of-self-in-1
invariant_of-self-in-1 c = record {
  first = c.delete-in-1.ensures.stays c.self.inside.first.page (held_turned c.args.client c.self.inside.link c.turn_to.new.self c.self.inside.first.page c.turn_to.ensures c.self.invariant.first);
  second = c.delete-in-1.ensures.holds (held_turned c.args.client c.self.inside.link c.turn_to.new.self c.self.inside.second.page c.turn_to.ensures c.self.invariant.second);
  third = c.delete-in-1.ensures.stays c.self.inside.third.page (held_turned c.args.client c.self.inside.link c.turn_to.new.self c.self.inside.third.page c.turn_to.ensures c.self.invariant.third);
}

pub returns-in-1 : goal.returns-in-1
returns-in-1 c =
    let w : WorldView = record { link = c.self.inside.link; first = c.self.inside.first; second = c.self.inside.second; third = c.self.inside.third } in
    subst (λ (x : WorldView). OnOk c.delete-in-1.result (IsClientStep c.args.client (IsClientDelete c.args.index) x (record w { second = c.delete-in-1.new.session; link = c.delete-in-1.new.link }))) c.self.view_is
    (on_ok_weaker c.delete-in-1.result (λ h. step_second (IsClientDelete c.args.index) w c.delete-in-1.new.session c.delete-in-1.new.link c.args.client c.in-1.is
    (subst (λ (v : WorldLinkView). IsRecordDelete collection (product_id c.args.index) c.self.inside.second c.delete-in-1.new.session v c.delete-in-1.new.link) c.turn_to.ensures
    (subst (λ (xs : List ℕ). IsRecordDelete xs (product_id c.args.index) c.self.inside.second c.delete-in-1.new.session c.turn_to.new.self c.delete-in-1.new.link) c.in_ok-collection.ensures
    (subst (λ (xs : List ℕ). IsRecordDelete c.in_ok-collection.collection xs c.self.inside.second c.delete-in-1.new.session c.turn_to.new.self c.delete-in-1.new.link) c.in_ok-id.ensures h)))) c.delete-in-1.ensures.delete)

pub invariant_of-self-in_default : goal.invariant_of-self-in_default
invariant_of-self-in_default c = record {
  first = c.delete-in_default.ensures.stays c.self.inside.first.page (held_turned c.args.client c.self.inside.link c.turn_to.new.self c.self.inside.first.page c.turn_to.ensures c.self.invariant.first);
  second = c.delete-in_default.ensures.stays c.self.inside.second.page (held_turned c.args.client c.self.inside.link c.turn_to.new.self c.self.inside.second.page c.turn_to.ensures c.self.invariant.second);
  third = c.delete-in_default.ensures.holds (held_turned c.args.client c.self.inside.link c.turn_to.new.self c.self.inside.third.page c.turn_to.ensures c.self.invariant.third);
}

pub returns : goal.returns
returns c =
    let w : WorldView = record { link = c.self.inside.link; first = c.self.inside.first; second = c.self.inside.second; third = c.self.inside.third } in
    subst (λ (x : WorldView). OnOk c.delete-in_default.result (IsClientStep c.args.client (IsClientDelete c.args.index) x (record w { third = c.delete-in_default.new.session; link = c.delete-in_default.new.link }))) c.self.view_is
    (on_ok_weaker c.delete-in_default.result (λ h. step_third (IsClientDelete c.args.index) w c.delete-in_default.new.session c.delete-in_default.new.link c.args.client (λ e. omega (arith, e)) (λ e. omega (arith, e))
    (subst (λ (v : WorldLinkView). IsRecordDelete collection (product_id c.args.index) c.self.inside.third c.delete-in_default.new.session v c.delete-in_default.new.link) c.turn_to.ensures
    (subst (λ (xs : List ℕ). IsRecordDelete xs (product_id c.args.index) c.self.inside.third c.delete-in_default.new.session c.turn_to.new.self c.delete-in_default.new.link) c.in_ok-collection.ensures
    (subst (λ (xs : List ℕ). IsRecordDelete c.in_ok-collection.collection xs c.self.inside.third c.delete-in_default.new.session c.turn_to.new.self c.delete-in_default.new.link) c.in_ok-id.ensures h)))) c.delete-in_default.ensures.delete)
