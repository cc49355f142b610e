-- What those leave who match and drop old changes.
use Rattle.std.proofs.Common.{◌≡◌, ℕ, List, [], ◌++◌, refl, sym, ap, ◌∙◌, subst}
use Rattle.hub_desk.specs.HubValue.{hub_setting}
use Rattle.hub_desk.specs.declared.trim.Trim.{Trim}
use Rattle.hub_model.specs.declared.entry.Entry.{Entry}
use Rattle.quaestor_serve.specs.declared.matcher.Matcher.TheVariants.{Here}
use Rattle.quaestor_serve.specs.declared.matcher.Rested.{Rested}
use Rattle.quaestor_serve.specs.Kept.{HubTurnstile, HubSeat, IsFreshAt, setting_at}
use Rattle.quaestor_serve.specs.Matchers.{HasMatched, HasRested, WorksAt}
use Rattle.quaestor_serve.specs.Matches.{Matches, IsMatchingAt}
use Rattle.turnstile.specs.Places.{AllOf}
use Rattle.turnstile.specs.Seats.{IsSeatOf, IsIdle, seen, mine, met}
use Rattle.turnstile.proofs.PlaceLemmas.{all_append, all_map}
use Rattle.quaestor_serve.proofs.KeptLemmas.{parts, part_stays}
use Rattle.quaestor_serve.proofs.MatchLemmas.{ticks_both, matching_longer, matching_before, matching_behind}

module _ {C : Type 0} (tick : C → ℕ → C → Type 0) (trim : Trim) where
  -- one who has not matched yet
  pub rested_fresh : (turnstile : HubTurnstile) (seat : HubSeat) (clock : C) → IsFreshAt turnstile seat → HasMatched tick trim turnstile clock seat clock
  rested_fresh turnstile seat clock fresh = record {
    own = fresh.own;
    idle = fresh.idle;
    met = fresh.met;
    part = fresh.part;
    moments = [];
    ticks = refl;
    matching = subst (λ (ps : List (ℕ × Entry)). AllOf (IsMatchingAt (setting_at turnstile) trim (seen seat) []) ps) (sym fresh.mine) tt;
  }

  -- one who has matched goes on; `turn_before` and `before` are the turnstile and the seat of the desk at first, `turn_after` and `after` at last
  pub rested_after : (turnstile turn_before turn_after : HubTurnstile) (seat before after last : HubSeat) (first clock late : C) → turn_before ≡ turnstile → before ≡ seat → turn_after ≡ turn_before → met after ≡ met before → parts after ≡ parts before → last ≡ after → IsSeatOf hub_setting turn_after last → IsIdle last → HasMatched tick trim turnstile first seat clock → Matches tick (setting_at turn_before) trim (seen before) (seen after) (mine before) (mine after) clock late → HasMatched tick trim turnstile first last late
  rested_after turnstile turn_before turn_after seat before after last first clock late at here same met_same parts_same last_is own idle rested made =
      let g = setting_at turnstile in
      let there = subst (λ (t : HubTurnstile). Matches tick (setting_at t) trim (seen before) (seen after) (mine before) (mine after) clock late) at made in
      let begun = subst (λ (s : HubSeat). Matches tick g trim (seen s) (seen after) (mine s) (mine after) clock late) here there in
      let m = subst (λ (s : HubSeat). Matches tick g trim (seen seat) (seen s) (mine seat) (mine s) clock late) (sym last_is) begun in
      let moments = rested.moments ++ m.moments in
      record {
        own = subst (λ (t : HubTurnstile). IsSeatOf hub_setting t last) (same ∙ at) own;
        idle = idle;
        met = ap met last_is ∙ met_same ∙ ap met here ∙ rested.met;
        part = part_stays seat last (ap parts last_is ∙ parts_same ∙ ap parts here) rested.part;
        moments = moments;
        ticks = ticks_both tick first clock late rested.moments m.moments rested.ticks m.ticks;
        matching = subst (λ (ps : List (ℕ × Entry)). AllOf (IsMatchingAt g trim (seen last) moments) ps) (sym m.mine)
            (all_append (IsMatchingAt g trim (seen last) moments) (mine seat) m.own
            (all_map (IsMatchingAt g trim (seen seat) rested.moments) (IsMatchingAt g trim (seen last) moments) (λ p is. matching_behind g trim (seen last) rested.moments m.moments p (matching_longer g trim (seen seat) (seen last) rested.moments p m.grew is)) (mine seat) rested.matching)
            (all_map (IsMatchingAt g trim (seen last) m.moments) (IsMatchingAt g trim (seen last) moments) (λ p is. matching_before g trim (seen last) rested.moments m.moments p is) m.own m.matching));
      }

  -- one who rests with the caller
  pub works_here : (turnstile : HubTurnstile) (clock : C) (rested : Rested C) → HasRested tick trim turnstile clock rested → WorksAt tick trim (λ c. c ≡ clock) turnstile (Here rested)
  works_here turnstile clock rested is = (clock, refl, is)

  -- and goes on
  pub works_on : (may : C → Type 0) (turnstile : HubTurnstile) (old new : Rested C) → WorksAt tick trim may turnstile (Here old) → ((begun : C) → HasRested tick trim turnstile begun old → HasRested tick trim turnstile begun new) → WorksAt tick trim may turnstile (Here new)
  works_on may turnstile old new is goes = (is.0, is.1, goes is.0 is.2)
