-- What a server has done when it ends.
use Rattle.std.proofs.Common.{◌≡◌, ℕ, ◌<◌, ◌≤◌, Bool, true, List, [], ◌∷◌, ◌++◌, map, length, Some, slice_get, refl, sym, ap, ◌∙◌, subst, arith, append-nil, append_assoc}
use Rattle.std.specs.Arc.{arc_value}
use Rattle.std.specs.List.{enumerate_from, flat_map}
use Rattle.std.specs.List.Sorted.{IsPermutation}
use Rattle.std.proofs.lemmas.List.{length-map}
use Rattle.std.proofs.lemmas.List.FromFn.{length-enumerate_from}
use Rattle.std.proofs.lemmas.List.Sorted.{IsPermutation-refl, length_permutation}
use Rattle.commit_book.specs.declared.change.Change.{Change}
use Rattle.hub_desk.specs.declared.trim.Trim.{Trim}
use Rattle.hub_model.specs.declared.entry.Entry.{Entry}
use Rattle.hub_model.specs.Desk.{IsPrefix}
use Rattle.hub_model.specs.Legal.{IsLegal}
use Rattle.hub_model.specs.Setting.{Setting}
use Rattle.q_outside.specs.Doors.{DoorsView, Passes}
use Rattle.q_outside.specs.Ends.{End, LastEnd}
use Rattle.q_outside.proofs.DoorLemmas.{passed_nothing}
use Rattle.quaestor_serve.specs.declared.begun.Begun.{Begun}
use Rattle.quaestor_serve.specs.declared.hall.Hall.{Hall}
use Rattle.quaestor_serve.specs.declared.matcher.Matcher.{Matcher}
use Rattle.quaestor_serve.specs.declared.running.Running.{Running}
use Rattle.quaestor_serve.specs.declared.serve_end.ServeEnd.{ServeEnd}
use Rattle.quaestor_serve.specs.declared.serve_end.ServeWhy.{ServeWhy}
use Rattle.quaestor_serve.specs.declared.serve_end.ServeWhy.TheVariants.{Limit, Closed, DoorFault, Memory, Unfilled}
use Rattle.quaestor_serve.specs.Filled.{AreFilled}
use Rattle.quaestor_serve.specs.Going.{Going, began_with, open_in}
use Rattle.quaestor_serve.proofs.FilledLemmas.{at_prefix, never_fails}
use Rattle.quaestor_serve.specs.Halls.{begun_in, setting_in, seen_in, met_in, IsWholeIn}
use Rattle.quaestor_serve.specs.Kept.{HubTurnstile, setting_at}
use Rattle.quaestor_serve.specs.declared.matcher.Matcher.TheVariants.{Thread, Here}
use Rattle.quaestor_serve.specs.Matches.{IsMatched}
use Rattle.quaestor_serve.specs.Matchers.{HasRested, WorksAt, WorkIn, Gathers}
use Rattle.quaestor_serve.specs.Running.{begun_of}
use Rattle.quaestor_serve.specs.Serves.{closings_by, Ends, EndsBy, IsUnbegun, IsUnfilled, Serves}
use Rattle.quaestor_serve.specs.Visits.{given_of, own_of, IsWell}
use Rattle.turnstile.specs.Places.{AllOf, AreAt, Distinct}
use Rattle.turnstile.proofs.PlaceLemmas.{all_append, all_left}
use Rattle.turnstile.proofs.Prefixes.{prefix_self, prefix_trans}
use Rattle.quaestor_serve.proofs.MatchLemmas.{matched_longer}
use Rattle.quaestor_serve.proofs.VisitLemmas.{all_stay, all_tied}

module _ {S K : Type 0} where
  -- a cause stays one while faults are counted
  pub ends_later : (why : ServeWhy) (first now later : DoorsView S K) (came most : ℕ) → now.faults ≤ later.faults → EndsBy why first now came most → EndsBy why first later came most
  ends_later Limit first now later came most more ends = ends
  ends_later Closed first now later came most more ends = ends
  ends_later DoorFault first now later came most more ends = (ends.0, omega (arith, more, ends.1))
  ends_later Memory first now later came most more ends = ends
  ends_later Unfilled first now later came most more ends = ends

  -- a server that did not begin ends out of memory
  pub ends_unbegun : (first : DoorsView S K) (most : ℕ) (end : ServeEnd) → 0 < most → IsUnbegun end → EndsBy end.why first first end.connections most
  ends_unbegun first most end some unbegun =
      let least : EndsBy Memory first first 0 most = some in
      subst (λ (n : ℕ). EndsBy end.why first first n most) (sym unbegun.0) (subst (λ (why : ServeWhy). EndsBy why first first 0 most) (sym unbegun.1) least)

  -- so does one whose store could not be filled
  pub ends_unfilled : (first : DoorsView S K) (most : ℕ) (end : ServeEnd) → 0 < most → IsUnfilled end → EndsBy end.why first first end.connections most
  ends_unfilled first most end some unfilled =
      let least : EndsBy Unfilled first first 0 most = some in
      subst (λ (n : ℕ). EndsBy end.why first first n most) (sym unfilled.0) (subst (λ (why : ServeWhy). EndsBy why first first 0 most) (sym unfilled.1) least)

-- and the doors were not closed
pub none_closed : (end : ServeEnd) → IsUnbegun end → closings_by end.why ≡ 0
none_closed end unbegun = ap closings_by unbegun.1

-- a list of no length has no element
pub none_of : {X : Type 0} (size : ℕ) (xs : List X) → size ≡ length xs → size ≡ 0 → xs ≡ []
none_of size [] is none = refl
none_of size (x ∷ xs) is none = absurd (omega (arith, is, none))

module _ {C : Type 0} (tick : C → ℕ → C → Type 0) (trim : Trim) where
  -- a matcher whose clock is one that it may have
  pub works_with : (may : C → Type 0) (clock : C) (given turnstile : HubTurnstile) (m : Matcher C) → given ≡ turnstile → may clock → WorksAt tick trim (λ c. c ≡ clock) given m → WorksAt tick trim may turnstile m
  works_with may clock given turnstile (Thread handle stop) same allowed works = (works.0 ∙ same, subst may (sym works.1) allowed, works.2)
  works_with may clock given turnstile (Here rested) same allowed works = (works.0, subst may (sym works.1) allowed, subst (λ (t : HubTurnstile). HasRested tick trim t works.0 rested) same works.2)

module _ {C : Type 0} (tick : C → ℕ → C → Type 0) (trim : Trim) (may : C → Type 0) where
  -- one matcher more works at the turnstile
  pub work_more : (turnstile : HubTurnstile) (old new : List (Matcher C)) (last : Matcher C) → new ≡ old ++ last ∷ [] → AllOf (λ (m : Matcher C). WorksAt tick trim may turnstile m) old → WorksAt tick trim may turnstile last → AllOf (λ (m : Matcher C). WorksAt tick trim may turnstile m) new
  work_more turnstile old new last items work works =
      subst (λ (ms : List (Matcher C)). AllOf (λ (m : Matcher C). WorksAt tick trim may turnstile m) ms) (sym items) (all_append (λ (m : Matcher C). WorksAt tick trim may turnstile m) old (last ∷ []) work (works, tt))

  -- the first had its turn, and is behind the others
  pub work_turned : (turnstile : HubTurnstile) (old left new : List (Matcher C)) (first last : Matcher C) → old ≡ first ∷ left → new ≡ left ++ last ∷ [] → AllOf (λ (m : Matcher C). WorksAt tick trim may turnstile m) old → WorksAt tick trim may turnstile last → AllOf (λ (m : Matcher C). WorksAt tick trim may turnstile m) new
  work_turned turnstile old left new first last taken items work works =
      let all : AllOf (λ (m : Matcher C). WorksAt tick trim may turnstile m) (first ∷ left) = subst (λ (ms : List (Matcher C)). AllOf (λ (m : Matcher C). WorksAt tick trim may turnstile m) ms) taken work in
      work_more turnstile left new last items all.1 works

module _ {S K C H L : Type 0} (tick : C → ℕ → C → Type 0) (trim : Trim) (may : C → Type 0) where
  -- the matchers that are left still work in the hall, once the first has ended
  pub work_rest : (h l : Hall S K C H L) (old new : List (Matcher C)) (first : Matcher C) → old ≡ first ∷ new → arc_value l.turnstile ≡ arc_value h.turnstile → WorkIn tick trim may h old → WorkIn tick trim may l new
  work_rest h l old new first left same work =
      let all : AllOf (λ (m : Matcher C). WorksAt tick trim may (arc_value h.turnstile) m) (first ∷ new) = subst (λ (ms : List (Matcher C)). AllOf (λ (m : Matcher C). WorksAt tick trim may (arc_value h.turnstile) m) ms) left work in
      subst (λ (t : HubTurnstile). AllOf (λ (m : Matcher C). WorksAt tick trim may t m) new) (sym same) all.1

  -- where there are none, all do
  pub work_none : (h : Hall S K C H L) (matchers : List (Matcher C)) → matchers ≡ [] → WorkIn tick trim may h matchers
  work_none h matchers none = subst (λ (ms : List (Matcher C)). AllOf (λ (m : Matcher C). WorksAt tick trim may (arc_value h.turnstile) m) ms) (sym none) tt

  -- so do all, where the turnstile is the same
  pub work_stays : (h l : Hall S K C H L) (matchers : List (Matcher C)) → arc_value l.turnstile ≡ arc_value h.turnstile → WorkIn tick trim may h matchers → WorkIn tick trim may l matchers
  work_stays h l matchers same work = subst (λ (t : HubTurnstile). AllOf (λ (m : Matcher C). WorksAt tick trim may t m) matchers) (sym same) work

  -- no matcher was joined
  pub gathered_none : (h : Hall S K C H L) → Gathers tick trim may h h
  gathered_none h = record {
    own = [];
    turnstile = refl;
    grew = prefix_self (seen_in h);
    met = sym (append-nil (met_in h));
    matching = tt;
    once = λ once. once;
  }

  -- no matcher was joined, though the main seat may have seen more
  pub gathered_seen : (h l : Hall S K C H L) → arc_value l.turnstile ≡ arc_value h.turnstile → IsPrefix (seen_in h) (seen_in l) → met_in l ≡ met_in h → Gathers tick trim may h l
  gathered_seen h l same grew met_same = record {
    own = [];
    turnstile = same;
    grew = grew;
    met = met_same ∙ sym (append-nil (met_in h));
    matching = tt;
    once = λ once. subst (λ (ps : List (ℕ × Entry)). Distinct ps) (sym met_same) once;
  }

  -- matchers were joined, and then others
  pub gathered_both : (a b c : Hall S K C H L) → Gathers tick trim may a b → Gathers tick trim may b c → Gathers tick trim may a c
  gathered_both a b c p q =
      let setting : setting_in c ≡ setting_in b = ap setting_at q.turnstile in
      record {
        own = p.own ++ q.own;
        turnstile = q.turnstile ∙ p.turnstile;
        grew = prefix_trans (seen_in a) (seen_in b) (seen_in c) p.grew q.grew;
        met = q.met ∙ ap (λ (l : List (ℕ × Entry)). l ++ q.own) p.met ∙ append_assoc (met_in a) p.own q.own;
        matching = all_append (IsMatched tick may (setting_in c) trim (seen_in c)) p.own q.own
            (matched_longer tick may (setting_in c) trim (seen_in b) (seen_in c) p.own q.grew (subst (λ (g : Setting). AllOf (IsMatched tick may g trim (seen_in b)) p.own) (sym setting) p.matching))
            q.matching;
        once = λ once. q.once (p.once once);
      }

module _ {S K C H : Type 0} (source_at : S → End) (sink_at : K → End) (ended_at : K → LastEnd) (tick : C → ℕ → C → Type 0) (kept_by : H → ℕ → Type 0) (may : C → Type 0) (tie : H → Type 0) where
  -- a cause that was found is the cause
  pub ended_by : {L : Type 0} (base : List (ℕ × Entry)) (first now : DoorsView S K) (h : Hall S K C H L) (count most : ℕ) (why found : ServeWhy) → why ≡ found → Going source_at sink_at ended_at tick kept_by may tie base first now h [] count (closings_by found) → EndsBy found first now count most → Going source_at sink_at ended_at tick kept_by may tie base first now h [] count (closings_by why) × EndsBy why first now count most
  ended_by base first now h count most why found is going ends = (
    subst (λ (w : ServeWhy). Going source_at sink_at ended_at tick kept_by may tie base first now h [] count (closings_by w)) (sym is) going,
    subst (λ (w : ServeWhy). EndsBy w first now count most) (sym is) ends,
  )

  -- a server that has ended at once did not ask the doors
  pub ends_at_once : {L : Type 0} (base : List (ℕ × Entry)) (first : DoorsView S K) (h : Hall S K C H L) (most : ℕ) (end : ServeEnd) → end.connections ≡ 0 → closings_by end.why ≡ 0 → EndsBy end.why first first end.connections most → Going source_at sink_at ended_at tick kept_by may tie base first first h [] 0 0 → Ends source_at sink_at ended_at tick kept_by may tie base first first h most end
  ends_at_once base first h most end nobody not_closed ends going = (
    subst (λ (n : ℕ). Going source_at sink_at ended_at tick kept_by may tie base first first h [] n (closings_by end.why)) (sym nobody) (subst (λ (n : ℕ). Going source_at sink_at ended_at tick kept_by may tie base first first h [] 0 n) (sym not_closed) going),
    ends,
  )

  -- so has one that had no memory for the first connection
  pub ends_none : {L : Type 0} (base : List (ℕ × Entry)) (first : DoorsView S K) (h : Hall S K C H L) (most : ℕ) (end : ServeEnd) → 0 < most → IsUnbegun end → Going source_at sink_at ended_at tick kept_by may tie base first first h [] 0 0 → Ends source_at sink_at ended_at tick kept_by may tie base first first h most end
  ends_none base first h most end some unbegun going = ends_at_once base first h most end unbegun.0 (none_closed end unbegun) (ends_unbegun first most end some unbegun) going

  -- and one whose store could not be filled
  pub ends_empty : {L : Type 0} (base : List (ℕ × Entry)) (first : DoorsView S K) (h : Hall S K C H L) (most : ℕ) (end : ServeEnd) → 0 < most → IsUnfilled end → Going source_at sink_at ended_at tick kept_by may tie base first first h [] 0 0 → Ends source_at sink_at ended_at tick kept_by may tie base first first h most end
  ends_empty base first h most end some unfilled going = ends_at_once base first h most end unfilled.0 (ap closings_by unfilled.1) (ends_unfilled first most end some unfilled) going

  -- a server that has ended at once has served no connection
  pub serves_at_once : (kept : List (ℕ × Change) → Type 0) (g : Setting) (trim : Trim) (first : DoorsView S K) (most : ℕ) (end : ServeEnd) → end.connections ≡ 0 → closings_by end.why ≡ 0 → EndsBy end.why first first end.connections most → Serves source_at sink_at ended_at tick kept_by may tie kept g trim first first most end
  unfolding IsLegal
  serves_at_once kept g trim first most end nobody not_closed ends = record {
    history = [];
    legal = tt;
    came = [];
    visits = [];
    came_are = IsPermutation-refl [];
    passed = subst (λ (n : ℕ). Passes first first [] [] n) (sym not_closed) (passed_nothing first);
    each = tt;
    ordered = tt;
    filled = [];
    begins = ([], refl);
    filling = tt;
    restored = λ some. absurd (omega (arith, some, nobody));
    none = λ not. refl;
    others = [];
    matching = tt;
    apart = tt;
    at_positions = tt;
    whole = refl;
    count_is = sym nobody;
    ends = ends;
  }

  -- so has one that had no memory for the first connection
  pub serves_none : (kept : List (ℕ × Change) → Type 0) (g : Setting) (trim : Trim) (first : DoorsView S K) (most : ℕ) (end : ServeEnd) → 0 < most → IsUnbegun end → Serves source_at sink_at ended_at tick kept_by may tie kept g trim first first most end
  serves_none kept g trim first most end some unbegun = serves_at_once kept g trim first most end unbegun.0 (none_closed end unbegun) (ends_unbegun first most end some unbegun)

  -- once all connections were handed back and the matchers joined, the server has served them
  pub serves_all : {L : Type 0} (kept : List (ℕ × Change) → Type 0) (fails : Bool) (g : Setting) (trim : Trim) (first last : DoorsView S K) (h l : Hall S K C H L) (most : ℕ) (end : ServeEnd) (filled : List Entry) (tied : H → Type 0) → (0 < end.connections → (hand : H) → tie hand → tied hand) → (fails ≡ true → g.keeps ≡ true) → setting_in h ≡ g → h.running.items ≡ [] → IsLegal (setting_in l) (seen_in l) → IsWholeIn l → Gathers tick trim may h l → EndsBy end.why first last end.connections most → AreFilled kept fails filled end.connections
      → Going source_at sink_at ended_at tick kept_by may tie (enumerate_from 0 filled) first last h [] end.connections (closings_by end.why) → Serves source_at sink_at ended_at tick kept_by may tied kept g trim first last most end
  serves_all {L} kept fails g trim first last h l most end filled tied ties only setting none legal whole gathers ends are going =
      let nobody : begun_in h ≡ [] = ap (λ (rs : List (Running S K C H L)). map begun_of rs) none in
      let given : map given_of going.visits ++ map began_with (open_in [] h) ≡ map given_of going.visits = ap (λ (bs : List (Begun S K C H)). map given_of going.visits ++ map began_with bs) nobody ∙ append-nil (map given_of going.visits) in
      let came_are : IsPermutation (enumerate_from 0 going.came) (map given_of going.visits) = subst (λ (xs : List (ℕ × (S × K))). IsPermutation (enumerate_from 0 going.came) xs) given going.came_are in
      let count_is : length going.visits ≡ end.connections = sym (length-map going.visits given_of) ∙ length_permutation (enumerate_from 0 going.came) (map given_of going.visits) came_are ∙ length-enumerate_from 0 going.came ∙ going.count_is in
      let last_setting : setting_in l ≡ g = ap setting_at gathers.turnstile ∙ setting in
      let base : List (ℕ × Entry) = enumerate_from 0 filled in
      let all : met_in l ≡ base ++ (flat_map own_of going.visits ++ gathers.own) =
      gathers.met ∙ ap (λ (ps : List (ℕ × Entry)). ps ++ gathers.own) going.met ∙ append_assoc base (flat_map own_of going.visits) gathers.own in
      let at : AreAt (seen_in l) (base ++ (flat_map own_of going.visits ++ gathers.own)) = subst (λ (ps : List (ℕ × Entry)). AreAt (seen_in l) ps) all whole.1 in
      record {
        history = seen_in l;
        legal = subst (λ (s : Setting). IsLegal s (seen_in l)) last_setting legal;
        came = going.came;
        visits = going.visits;
        came_are = came_are;
        passed = going.passed;
        each = all_tied source_at sink_at ended_at tick kept_by may tie tied g (seen_in l) going.visits end.connections count_is ties (all_stay source_at sink_at ended_at tick kept_by may tie g (seen_in h) (seen_in l) going.visits gathers.grew (subst (λ (s : Setting). AllOf (IsWell source_at sink_at ended_at tick kept_by may tie s (seen_in h)) going.visits) setting going.each));
        ordered = going.ordered;
        filled = filled;
        begins = at_prefix (seen_in l) filled (all_left (λ (p : ℕ × Entry). slice_get (seen_in l) p.0 ≡ Some p.1) base (flat_map own_of going.visits ++ gathers.own) at);
        filling = are.filling;
        restored = are.restored;
        none = λ not. are.none (never_fails fails g.keeps only not);
        others = gathers.own;
        matching = subst (λ (s : Setting). AllOf (IsMatched tick may s trim (seen_in l)) gathers.own) last_setting gathers.matching;
        apart = subst (λ (ps : List (ℕ × Entry)). Distinct ps) all (gathers.once going.once);
        at_positions = at;
        whole = whole.0 ∙ ap length all;
        count_is = count_is;
        ends = ends;
      }
