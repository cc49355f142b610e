-- the front was behind the last commit, or it was there
use Rattle.std.proofs.Common.{rules, refl, ap, ◌∙◌, []}
use Rattle.hub_core.specs.HubState.{HubView}
use Rattle.hub_model.specs.declared.entry.Entry.TheVariants.{Match, Tick}
use Rattle.hub_model.specs.Reply.{matched, counted}
use Rattle.turnstile.specs.Seats.{setting_of}
use Rattle.turnstile.specs.Turns.{turn_seen}
use Rattle.hub_desk.specs.HubValue.{hub_setting}
use Rattle.hub_desk.proofs.SeatedLemmas.{counted_again, matches, ticks}
use Rattle.hub_desk.proofs.seated.calls.SeatedDesk.match_all.Goals as goal

pub returns-in-Ok-clause-made : goal.returns-in-Ok-clause-made
returns-in-Ok-clause-made g c =
    let stands = c.value-value.ensures.stands in
    record {
      entry = Match c.args.moment c.commits-to.result;
      replied = matched c.in-Ok.matched;
      made = record { before = turn_seen c.value-value.new.self; helps = []; grew = search rules; helped = refl; seen = search rules; legal = search rules; mine = search rules; told_is = search rules };
      entry_is = matches _ _ _ stands.0 (stands.1 ∙ ap (setting_of hub_setting) c.take-turn.ensures.turn.0) _ _ _ (c.front.ensures.same ∙ ap (λ (h : HubView). h.front) c.hub-2.ensures) (c.commits-to.ensures ∙ ap (λ (h : HubView). h.commits) c.hub.ensures) c.if-front-to.true;
      told_is = refl;
    }

pub returns-else-front-to-clause-made : goal.returns-else-front-to-clause-made
returns-else-front-to-clause-made g c =
    let stands = c.value-value.ensures.stands in
    record {
      entry = Tick c.args.moment;
      replied = counted c.tick-stats.result;
      made = record { before = turn_seen c.value-value.new.self; helps = []; grew = search rules; helped = refl; seen = search rules; legal = search rules; mine = search rules; told_is = search rules };
      entry_is = ticks _ _ _ stands.0 (stands.1 ∙ ap (setting_of hub_setting) c.take-turn.ensures.turn.0) _ _ _ (c.front.ensures.same ∙ ap (λ (h : HubView). h.front) c.hub-2.ensures) (c.commits-to.ensures ∙ ap (λ (h : HubView). h.commits) c.hub.ensures) c.if-front-to.false;
      told_is = refl;
    }

-- the seat has seen as many commits as was told when the turn was given back
pub invariant_of-self-clause-counted : goal.invariant_of-self-clause-counted
invariant_of-self-clause-counted g c = counted_again _ _ _ _ _ c.give_with.ensures.commits (ap (setting_of hub_setting) (c.value-value.ensures.turn.0 ∙ c.take-turn.ensures.turn.0)) (search rules)

pub invariant_of-self-in-Err-clause-counted : goal.invariant_of-self-in-Err-clause-counted
invariant_of-self-in-Err-clause-counted g c = counted_again _ _ _ _ _ c.give_unchanged.ensures.commits (ap (setting_of hub_setting) (c.value-value.ensures.turn.0 ∙ c.take-turn.ensures.turn.0)) (search rules)

pub invariant_of-self-else-front-to-clause-counted : goal.invariant_of-self-else-front-to-clause-counted
invariant_of-self-else-front-to-clause-counted g c = counted_again _ _ _ _ _ c.give_with-else-front-to.ensures.commits (ap (setting_of hub_setting) (c.value-value.ensures.turn.0 ∙ c.take-turn.ensures.turn.0)) (search rules)
