-- the write comes behind what the hub made ahead of it
use Rattle.std.proofs.Common.{◌≡◌, List, [], ◌∷◌, ◌++◌, append_assoc, rules, refl, sym, ap, ◌∙◌}
use Rattle.hub_model.specs.declared.entry.Entry.{Entry}
use Rattle.hub_model.specs.declared.entry.Entry.TheVariants.{Write}
use Rattle.hub_model.specs.Helps.{helps_of}
use Rattle.hub_model.specs.Setting.{Setting}
use Rattle.hub_model.specs.Step.{state_of}
use Rattle.turnstile.specs.Seats.{setting_of}
use Rattle.turnstile.specs.Turns.{turn_seen}
use Rattle.hub_desk.specs.HubValue.{hub_setting}
use Rattle.hub_desk.specs.Seated.{turnstile_of}
use Rattle.hub_desk.proofs.SeatedLemmas.{counted_again, accepted_again}
use Rattle.hub_desk.proofs.seated.calls.SeatedDesk.write.Goals as goal

-- entries at the end of a list, of which the last is named apart
grouped : (all before helps : List Entry) (e : Entry) → all ≡ before ++ (helps ++ e ∷ []) → all ≡ (before ++ helps) ++ e ∷ []
grouped all before helps e is = is ∙ sym (append_assoc before helps (e ∷ []))

pub returns-in-Ok-clause-made : goal.returns-in-Ok-clause-made
returns-in-Ok-clause-made g c =
    let x : Setting = setting_of hub_setting (turnstile_of c.args.self.now) in
    record {
      before = turn_seen c.value-value.new.self;
      helps = helps_of x (state_of x (turn_seen c.value-value.new.self)) (Write c.args.moment c.args.change c.args.condition);
      grew = search rules;
      helped = refl;
      seen = grouped _ (turn_seen c.value-value.new.self) (helps_of x (state_of x (turn_seen c.value-value.new.self)) (Write c.args.moment c.args.change c.args.condition)) (Write c.args.moment c.args.change c.args.condition) (search rules);
      legal = search rules;
      mine = search rules;
      told_is = search rules;
    }

-- what found no memory would be accepted
pub returns-in-Err-clause-accepted : goal.returns-in-Err-clause-accepted
returns-in-Err-clause-accepted g c =
    let stands = c.value-value.ensures.stands in
    accepted_again _ _ (turn_seen c.value-value.new.self) _ _ _ (stands.1 ∙ ap (setting_of hub_setting) c.take-turn.ensures.turn.0) (search rules) (c.in-Err.ensures.accepted _ stands.0)

-- the seat has seen as many commits as was told when the turn was given back
pub invariant_of-self-clause-counted : goal.invariant_of-self-clause-counted
invariant_of-self-clause-counted g c = counted_again _ _ _ _ _ c.give_with.ensures.commits (ap (setting_of hub_setting) (c.value-value.ensures.turn.0 ∙ c.take-turn.ensures.turn.0)) (search rules)

pub invariant_of-self-in-Err-clause-counted : goal.invariant_of-self-in-Err-clause-counted
invariant_of-self-in-Err-clause-counted g c = counted_again _ _ _ _ _ c.give_unchanged.ensures.commits (ap (setting_of hub_setting) (c.value-value.ensures.turn.0 ∙ c.take-turn.ensures.turn.0)) (search rules)
