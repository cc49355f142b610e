-- the state of a longer history is that after its further entries
use Rattle.std.proofs.Common.{◌≡◌, ◌++◌, sym, ap, ◌∙◌, subst}
use Rattle.hub_model.specs.Legal.{IsLegal}
use Rattle.hub_model.specs.Setting.{Setting}
use Rattle.hub_model.specs.State.{State}
use Rattle.hub_model.specs.Step.{after_all, state_of}
use Rattle.hub_core.specs.HubState.{IsAt}
use Rattle.hub_core.proofs.laws.hubs_represent_histories.Goals as goal

pub returns-clause-begins : goal.returns-clause-begins
returns-clause-begins c = λ h at. record {
  state = subst (λ (s : State). IsAt h s) (sym (c.no_entry_is_legal.ensures.state h.setting)) at;
  legal = c.no_entry_is_legal.ensures.legal h.setting;
}

pub returns-clause-goes_on : goal.returns-clause-goes_on
returns-clause-goes_on c = λ h new history more represents may setting step.
    let longer = history ++ more in
    let there : after_all h.setting (state_of h.setting history) more ≡ state_of new.setting longer =
    sym (c.more_entries.ensures.state h.setting history more) ∙ ap (λ (g : Setting). state_of g longer) (sym setting) in
    record {
      state = subst (λ (s : State). IsAt new s) there (step (state_of h.setting history) represents.state);
      legal = subst (λ (g : Setting). IsLegal g longer) (sym setting) ((c.more_entries.ensures.legal h.setting history more).1 (represents.legal, may));
    }
