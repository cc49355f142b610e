-- What stays true of connections in a longer history.
use Rattle.std.proofs.Common.{◌≡◌, ℕ, ◌<◌, ◌≤◌, List, [], ◌∷◌, length, Option, Some, None, IfSome, subst, arith}
use Rattle.hub_model.specs.declared.entry.Entry.{Entry}
use Rattle.hub_model.specs.Desk.{IsPrefix}
use Rattle.hub_model.specs.Setting.{Setting}
use Rattle.dialogue.specs.Dialogue.{Sides}
use Rattle.q_outside.specs.Ends.{End, LastEnd}
use Rattle.q_outside.specs.declared.served.Served.{Served}
use Rattle.quaestor_serve.specs.Served.{IsServed}
use Rattle.quaestor_serve.specs.Visits.{Visit, IsWell}
use Rattle.turnstile.specs.Places.{AllOf}
use Rattle.turnstile.proofs.PlaceLemmas.{all_map}
use Rattle.turnstile.proofs.Prefixes.{prefix_trans}

-- a number in an option that has a bound has each lower one
pub some_least : (o : Option ℕ) (n k : ℕ) → k ≤ n → IfSome o (λ m. n ≤ m) → IfSome o (λ m. k ≤ m)
some_least None n k less room = room
some_least (Some m) n k less room = omega (arith, less, room)

-- and is positive where the bound is
pub some_positive : (o : Option ℕ) (n : ℕ) → 0 < n → IfSome o (λ m. n ≤ m) → IfSome o (λ m. 0 < m)
some_positive None n less room = room
some_positive (Some m) n less room = omega (arith, less, room)

-- a connection that was well served is so in every longer history
pub served_stays : {C : Type 0} (tick : C → ℕ → C → Type 0) (kept : ℕ → Type 0) (g : Setting) (history longer : List Entry) (clock : C) (began ended : List Entry) (before after : Sides) (own : List (ℕ × Entry)) (served : Served) → IsPrefix history longer → IsServed tick kept g history clock began ended before after own served → IsServed tick kept g longer clock began ended before after own served
served_stays tick kept g history longer clock began ended before after own served grew s = record {
  moments = s.moments;
  entered = s.entered;
  late = s.late;
  ticks = s.ticks;
  well = record {
    begins = s.well.begins;
    ends = s.well.ends;
    beginning = prefix_trans s.well.ends history longer s.well.beginning grew;
    dialogue = s.well.dialogue;
  };
  begins = s.begins;
  ends = s.ends;
  commits = s.commits;
  within = s.within;
  stands = s.stands;
}

-- what it knew at its end is in the history
pub served_ended : {C : Type 0} (tick : C → ℕ → C → Type 0) (kept : ℕ → Type 0) (g : Setting) (history : List Entry) (clock : C) (began ended : List Entry) (before after : Sides) (own : List (ℕ × Entry)) (served : Served) → IsServed tick kept g history clock began ended before after own served → IsPrefix ended history
served_ended tick kept g history clock began ended before after own served s = subst (λ (e : List Entry). IsPrefix e history) s.ends s.well.beginning

module _ {S K C H : Type 0} (source_at : S → End) (sink_at : K → End) (ended_at : K → LastEnd) (tick : C → ℕ → C → Type 0) (kept : H → ℕ → Type 0) (may : C → Type 0) (tie : H → Type 0) where
  -- so are all of a list
  pub all_stay : (g : Setting) (history longer : List Entry) (visits : List (Visit S K)) → IsPrefix history longer → AllOf (IsWell source_at sink_at ended_at tick kept may tie g history) visits → AllOf (IsWell source_at sink_at ended_at tick kept may tie g longer) visits
  all_stay g history longer visits grew = all_map (IsWell source_at sink_at ended_at tick kept may tie g history) (IsWell source_at sink_at ended_at tick kept may tie g longer) (λ visit w. (w.0, w.1, w.2, w.3, served_stays tick (kept w.2) g history longer w.0 visit.began visit.ended _ _ visit.own visit.served grew w.4, w.5)) visits

  -- and so with what is so of their hands, where a connection came
  pub all_tied : (tied : H → Type 0) (g : Setting) (history : List Entry) (visits : List (Visit S K)) (count : ℕ) → length visits ≡ count → (0 < count → (hand : H) → tie hand → tied hand) → AllOf (IsWell source_at sink_at ended_at tick kept may tie g history) visits → AllOf (IsWell source_at sink_at ended_at tick kept may tied g history) visits
  all_tied tied g history [] count size ties all = tt
  all_tied tied g history (v ∷ vs) count size ties all =
      all_map (IsWell source_at sink_at ended_at tick kept may tie g history) (IsWell source_at sink_at ended_at tick kept may tied g history) (λ visit w. (w.0, w.1, w.2, ties (omega (arith, size)) w.2 w.3, w.4, w.5)) (v ∷ vs) all
