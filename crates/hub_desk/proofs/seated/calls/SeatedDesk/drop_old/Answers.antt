-- there were changes to drop, or the horizon was there
use Rattle.std.proofs.Common.{◌≡◌, rules, refl, ap, subst, ◌∙◌, []}
use Rattle.hub_core.specs.HubState.{HubView, IsAt}
use Rattle.hub_model.specs.declared.entry.Entry.TheVariants.{Horizon, Tick}
use Rattle.hub_model.specs.Reply.{dropped, counted}
use Rattle.hub_model.specs.State.{State}
use Rattle.turnstile.specs.Seats.{setting_of}
use Rattle.turnstile.specs.Turns.{turn_seen}
use Rattle.hub_desk.specs.Desk.{target_of}
use Rattle.hub_desk.specs.HubValue.{hub_setting}
use Rattle.hub_desk.proofs.DropLemmas.{drops, stays, still_there}
use Rattle.hub_desk.proofs.SeatedLemmas.{counted_again}
use Rattle.hub_desk.proofs.seated.calls.SeatedDesk.drop_old.Goals as goal

pub returns-then-horizon-to-clause-made : goal.returns-then-horizon-to-clause-made
returns-then-horizon-to-clause-made g c =
    let stands = c.value-value.ensures.stands in
    record {
      entry = Horizon c.args.moment c.target_of-to.result;
      replied = dropped c.drop_to-dropped.result;
      made = record { before = turn_seen c.value-value.new.self; helps = []; grew = search rules; helped = refl; seen = search rules; legal = search rules; mine = search rules; told_is = search rules };
      entry_is = drops _ _ _ stands.0 (stands.1 ∙ ap (setting_of hub_setting) c.take-turn.ensures.turn.0) _ _ _ _ (c.horizon-horizon.ensures.same ∙ ap (λ (h : HubView). h.horizon) c.hub.ensures) (subst (λ (h : HubView). (t : State) → IsAt h t → c.target_of-to.result ≡ target_of h.setting t c.args.trim) c.hub-2.ensures c.target_of-to.ensures.target) c.if-horizon-to.true;
      told_is = refl;
    }

pub returns-else-horizon-to-clause-made : goal.returns-else-horizon-to-clause-made
returns-else-horizon-to-clause-made g c =
    let stands = c.value-value.ensures.stands in
    record {
      entry = Tick c.args.moment;
      replied = counted c.tick-stats.result;
      made = record { before = turn_seen c.value-value.new.self; helps = []; grew = search rules; helped = refl; seen = search rules; legal = search rules; mine = search rules; told_is = search rules };
      entry_is = stays _ _ _ stands.0 (stands.1 ∙ ap (setting_of hub_setting) c.take-turn.ensures.turn.0) _ _ _ _ (c.horizon-horizon.ensures.same ∙ ap (λ (h : HubView). h.horizon) c.hub.ensures) (subst (λ (h : HubView). (t : State) → IsAt h t → c.target_of-to.result ≡ target_of h.setting t c.args.trim) c.hub-2.ensures c.target_of-to.ensures.target) c.if-horizon-to.false;
      told_is = still_there _ _ _ stands.0 (stands.1 ∙ ap (setting_of hub_setting) c.take-turn.ensures.turn.0) c.args.moment _ _ c.args.trim (c.horizon-horizon.ensures.same ∙ ap (λ (h : HubView). h.horizon) c.hub.ensures) (subst (λ (h : HubView). (t : State) → IsAt h t → c.target_of-to.result ≡ target_of h.setting t c.args.trim) c.hub-2.ensures c.target_of-to.ensures.target) c.tick-stats.result;
    }

-- the seat has seen as many commits as was told when the turn was given back
pub invariant_of-self-clause-counted : goal.invariant_of-self-clause-counted
invariant_of-self-clause-counted g c = counted_again _ _ _ _ _ c.give_with.ensures.commits (ap (setting_of hub_setting) (c.value-value.ensures.turn.0 ∙ c.take-turn.ensures.turn.0)) (search rules)

pub invariant_of-self-else-horizon-to-clause-counted : goal.invariant_of-self-else-horizon-to-clause-counted
invariant_of-self-else-horizon-to-clause-counted g c = counted_again _ _ _ _ _ c.give_with-else-horizon-to.ensures.commits (ap (setting_of hub_setting) (c.value-value.ensures.turn.0 ∙ c.take-turn.ensures.turn.0)) (search rules)
