-- How a hall changes as connections come and leave.
use Rattle.std.proofs.Common.{◌≡◌, ℕ, suc, ◌+◌, List, [], ◌∷◌, ◌++◌, map, length, Some, slice_get, sym, ap, ◌∙◌, subst, arith, append-nil, length-append}
use Rattle.std.proofs.lemmas.List.{map-append}
use Rattle.std.specs.Arc.{arc_value}
use Rattle.std.specs.List.Sorted.{IsPermutation}
use Rattle.std.proofs.lemmas.List.Sorted.{IsPermutation-map, length_permutation}
use Rattle.hub_desk.specs.HubValue.{hub_setting}
use Rattle.hub_desk.specs.declared.trim.Trim.{Trim}
use Rattle.hub_model.specs.declared.entry.Entry.{Entry}
use Rattle.hub_model.specs.Desk.{IsPrefix}
use Rattle.hub_model.specs.Legal.{IsLegal}
use Rattle.hub_model.specs.Setting.{Setting}
use Rattle.q_outside.specs.Ends.{End, LastEnd}
use Rattle.quaestor_serve.specs.declared.begun.Begun.{Begun}
use Rattle.quaestor_serve.specs.declared.begun.Done.{Done}
use Rattle.quaestor_serve.specs.declared.hall.Hall.{Hall}
use Rattle.quaestor_serve.specs.declared.running.Running.{Running}
use Rattle.quaestor_serve.specs.Halls.{begun_in, setting_in, seen_in, met_in, IsReady, KeepsOut, Releases}
use Rattle.quaestor_serve.specs.Kept.{HubTurnstile, HubSeat, IsFirst, IsFreshAt, KeptOf, setting_at}
use Rattle.quaestor_serve.specs.declared.matcher.Rested.{Rested}
use Rattle.quaestor_serve.specs.Matches.{IsMatchingAt}
use Rattle.quaestor_serve.specs.Matchers.{HasRested, Gathers}
use Rattle.quaestor_serve.specs.Running.{begun_of}
use Rattle.quaestor_serve.specs.Served.{IsServed, sides_of}
use Rattle.turnstile.specs.Levels.{level_of, Out}
use Rattle.turnstile.specs.Places.{AllOf, AreAt, Distinct}
use Rattle.turnstile.specs.Rule.{Sound, IsWhole}
use Rattle.turnstile.specs.Seats.{IsSeatOf, IsAlone, HasOut, seen, mine, met}
use Rattle.turnstile.specs.Views.{split_view, after_join, with_seen}
use Rattle.turnstile.proofs.PlaceLemmas.{all_append}
use Rattle.quaestor_serve.proofs.MatchLemmas.{matched_by}
use Rattle.quaestor_serve.proofs.OrderLemmas.{all_permuted}
use Rattle.quaestor_serve.proofs.VisitLemmas.{served_stays}

-- ---- the main seat

-- the level of the first seat
level_first : (levels : List ℕ) → slice_get levels 0 ≡ Some 0 → level_of levels ≡ 0
level_first [] is = absurd cc
level_first (n ∷ levels) is = cc (is)

first_before : (levels more : List ℕ) → slice_get levels 0 ≡ Some 0 → slice_get (levels ++ more) 0 ≡ Some 0
first_before [] more is = absurd cc
first_before (n ∷ levels) more is = is

-- it is the first seat after a seat was joined to it
pub first_joined : (old other new : HubSeat) → new.me ≡ (with_seen (seen new) (after_join old.me.0 other.me.0), old.me.1) → IsFirst old → IsFirst new
first_joined old other new is first = ap (λ m. slice_get m.0.levels 0) is ∙ first_before old.me.0.levels other.me.0.levels first

-- a seat that was split off it may begin to serve or to match
pub fresh_split : (turnstile : HubTurnstile) (main new : HubSeat) → new.me ≡ (split_view main.me.0, []) → IsSeatOf hub_setting turnstile new → IsFirst main → IsLegal (setting_at turnstile) (seen main) → IsFreshAt turnstile new
fresh_split turnstile main new is own first legal = record {
  own = own;
  idle = (ap (λ m. m.0.phase) is, ap (λ m. m.1) is);
  mine = ap (λ m. m.0.mine) is;
  met = ap (λ m. m.0.met) is;
  part = (ap (λ m. m.0.levels) is ∙ ap (λ (n : ℕ). suc n ∷ []) (level_first main.me.0.levels first), ap (λ m. m.0.children) is);
  legal = subst (λ (l : List Entry). IsLegal (setting_at turnstile) l) (sym (ap (λ m. m.0.seen) is)) legal;
}

-- where no other seat is left, it has met all entries of the history
pub settled : (old new : HubSeat) → new.me ≡ (with_seen (seen new) old.me.0, old.me.1) → mine old ≡ [] → HasOut 0 old → (HasOut 0 new → IsAlone new) → (IsAlone new → IsWhole (seen new) new.me.0) → Sound (seen new) new.me.0 → (length (seen new) ≡ length (met new)) × AreAt (seen new) (met new)
settled old new is none out alone whole sound =
    let mine_none : length (mine new) ≡ 0 = ap (λ m. length m.0.mine) is ∙ ap length none in
    let all = whole (alone (subst (λ m. Out 0 m.0.levels m.0.children) (sym is) out)) in
    (omega (arith, mine_none, all), sound.met_stand)

-- ---- the seats of matchers

module _ {X : Type 0} (old new : List X) (x : X) (seat : HubSeat) (others : ℕ) where
  -- one more is out
  pub one_more_out : new ≡ old ++ x ∷ [] → HasOut ((others + length old) + 1) seat → HasOut (others + length new) seat
  one_more_out more out =
      let size : length new ≡ length old + 1 = ap length more ∙ length-append old (x ∷ []) in
      subst (λ (n : ℕ). HasOut n seat) (omega (arith, size)) out

  -- one of those that are out is joined
  pub one_less_out : old ≡ x ∷ new → HasOut (others + length old) seat → HasOut ((others + length new) + 1) seat
  one_less_out less out =
      let size = ap length less in
      subst (λ (n : ℕ). HasOut n seat) (omega (arith, size)) out

-- so many are out beside none
pub beside_none : (n : ℕ) (seat : HubSeat) → HasOut n seat → HasOut (0 + n) seat
beside_none n seat out = let same : n ≡ 0 + n = omega arith in subst (λ (m : ℕ). HasOut m seat) same out

-- none is out any more
pub none_out : {X : Type 0} (left : List X) (seat : HubSeat) (others : ℕ) → length left ≡ 0 → HasOut (others + length left) seat → HasOut others seat
none_out left seat others none out = subst (λ (n : ℕ). HasOut n seat) (omega (arith, none)) out

-- those of the matchers and of the connections are, where none was before they were started
pub all_out : {X : Type 0} (first started last : List X) (seat back : HubSeat) (begun count : ℕ) → first ≡ [] → started ≡ first → count ≡ begun → HasOut (0 + begun) seat → ((others : ℕ) → HasOut (others + length started) seat → HasOut (others + length last) back) → HasOut (count + length last) back
all_out first started last seat back begun count none same is out keeps =
    let size : length started ≡ 0 = ap length (same ∙ none) in
    subst (λ (n : ℕ). HasOut (n + length last) back) (sym is) (keeps begun (subst (λ (n : ℕ). HasOut n seat) (omega (arith, size)) out))

module _ {S K C H : Type 0} where
  -- a connection is at the turnstile
  abbrev IsAt : HubTurnstile → Begun S K C H → Type 0
  IsAt turnstile begun = begun.turnstile.value ≡ turnstile

module _ {S K C H L : Type 0} where
  -- ---- the seats of connections

  -- connections left or came, and then others
  pub keeps_both : (a b c : Hall S K C H L) → KeepsOut a b → KeepsOut b c → KeepsOut a c
  keeps_both a b c p q others was = q others (p others was)

  -- one left, and its seat was joined to the main one
  pub keeps_without : (items rest : List (Running S K C H L)) (seat back : HubSeat) (r : Running S K C H L) → IsPermutation items (r ∷ rest) → ((n : ℕ) → HasOut (n + 1) seat → HasOut n back) → (others : ℕ) → HasOut (others + length items) seat → HasOut (others + length rest) back
  keeps_without items rest seat back r left joined others was =
      let size = length_permutation items (r ∷ rest) left in
      joined (others + length rest) (subst (λ (n : ℕ). HasOut n seat) (omega (arith, size)) was)

  -- one came, with a seat that was split off the main one before others left
  pub keeps_with : (items between now : List (Running S K C H L)) (seat parted back : HubSeat) (r : Running S K C H L) → ((n : ℕ) → HasOut n seat → HasOut (n + 1) parted) → ((others : ℕ) → HasOut (others + length items) parted → HasOut (others + length between) back) → now ≡ between ++ r ∷ [] → (others : ℕ) → HasOut (others + length items) seat → HasOut (others + length now) back
  keeps_with items between now seat parted back r split keeps more others was =
      let after : length now ≡ length between + 1 = ap length more ∙ length-append between (r ∷ []) in
      let moved : (others + length items) + 1 ≡ (others + 1) + length items = omega arith in
      let out : HasOut ((others + 1) + length items) parted = subst (λ (n : ℕ). HasOut n parted) moved (split (others + length items) was) in
      subst (λ (n : ℕ). HasOut n back) (omega (arith, after)) (keeps (others + 1) out)

  -- the others, once one has left
  pub left_at : (turnstile : HubTurnstile) (old new : List (Running S K C H L)) (r : Running S K C H L) → IsPermutation old (r ∷ new) → AllOf (IsAt turnstile) (map begun_of old) → IsAt turnstile (begun_of r) × AllOf (IsAt turnstile) (map begun_of new)
  left_at turnstile old new r left all = all_permuted (IsAt turnstile) (map begun_of old) (begun_of r ∷ map begun_of new) (IsPermutation-map begun_of old (r ∷ new) left) all

  -- the seat of one that has left is at the turnstile
  pub seat_at : (source_at : S → End) (sink_at : K → End) (ended_at : K → LastEnd) (tick : C → ℕ → C → Type 0) (kept_by : H → ℕ → Type 0) (turnstile found : HubTurnstile) (old new : List (Running S K C H L)) (r : Running S K C H L) (done : Done S K) → IsPermutation old (r ∷ new) → found ≡ turnstile → AllOf (IsAt turnstile) (map begun_of old) → KeptOf source_at sink_at ended_at tick kept_by (begun_of r) done → IsSeatOf hub_setting found done.seat
  seat_at source_at sink_at ended_at tick kept_by turnstile found old new r done left same all kept = subst (λ (t : HubTurnstile). IsSeatOf hub_setting t done.seat) ((left_at turnstile old new r left all).0 ∙ sym same) kept.own

  -- the hall is ready once a connection has left
  pub ready_without : (turnstile found : HubTurnstile) (old new : List (Running S K C H L)) (r : Running S K C H L) (history : List Entry) → IsPermutation old (r ∷ new) → found ≡ turnstile → AllOf (IsAt turnstile) (map begun_of old) → IsLegal (setting_at found) history → AllOf (IsAt turnstile) (map begun_of new) × IsLegal (setting_at turnstile) history
  ready_without turnstile found old new r history left same all legal = (
    (left_at turnstile old new r left all).1,
    subst (λ (t : HubTurnstile). IsLegal (setting_at t) history) same legal,
  )

  -- the hall is ready with a main seat that has seen as much
  pub ready_split : (h l : Hall S K C H L) → arc_value l.turnstile ≡ arc_value h.turnstile → l.running.items ≡ h.running.items → seen_in l ≡ seen_in h → IsReady h → IsReady l
  ready_split h l same alike seen_same ready =
      let others = subst (λ (rs : List (Running S K C H L)). AllOf (IsAt (arc_value h.turnstile)) (map begun_of rs)) (sym alike) ready.0 in (
        subst (λ (t : HubTurnstile). AllOf (IsAt t) (begun_in l)) (sym same) others,
        subst (λ (t : HubTurnstile). IsLegal (setting_at t) (seen_in l)) (sym same) (subst (λ (s : List Entry). IsLegal (setting_in h) s) (sym seen_same) ready.1),
      )

  -- the hall is ready with one connection more
  pub ready_more : (turnstile : HubTurnstile) (old new : List (Running S K C H L)) (r : Running S K C H L) (history : List Entry) → new ≡ old ++ r ∷ [] → (begun_of r).turnstile.value ≡ turnstile → AllOf (IsAt turnstile) (map begun_of old) × IsLegal (setting_at turnstile) history → AllOf (IsAt turnstile) (map begun_of new) × IsLegal (setting_at turnstile) history
  ready_more turnstile old new r history more at ready =
      let behind : map begun_of new ≡ map begun_of old ++ begun_of r ∷ [] = ap (λ (rs : List (Running S K C H L)). map begun_of rs) more ∙ map-append begun_of old (r ∷ []) in
      (subst (λ (bs : List (Begun S K C H)). AllOf (IsAt turnstile) bs) (sym behind) (all_append (IsAt turnstile) (map begun_of old) (begun_of r ∷ []) ready.0 (at, tt)), ready.1)

  -- a connection left
  pub released : (source_at : S → End) (sink_at : K → End) (ended_at : K → LastEnd) (tick : C → ℕ → C → Type 0) (kept_by : H → ℕ → Type 0) (h l : Hall S K C H L) (r : Running S K C H L) (done : Done S K) → IsPermutation h.running.items (r ∷ l.running.items) → arc_value l.turnstile ≡ arc_value h.turnstile → AllOf (IsAt (arc_value h.turnstile)) (begun_in h) → KeptOf source_at sink_at ended_at tick kept_by (begun_of r) done → IsPrefix (seen_in h) (seen_in l) → IsPrefix (seen done.seat) (seen_in l) → met_in l ≡ met_in h ++ (mine done.seat ++ met done.seat) → Distinct (met_in l) → Releases source_at sink_at ended_at tick kept_by h l done.source done.sink done.served
  released source_at sink_at ended_at tick kept_by h l r done left same all kept this that met_is once =
      let at : (begun_of r).turnstile.value ≡ arc_value h.turnstile = (left_at (arc_value h.turnstile) h.running.items l.running.items r left all).0 in
      let setting : setting_at (begun_of r).turnstile.value ≡ setting_in l = ap setting_at (at ∙ sym same) in
      let served = served_stays tick (kept_by (begun_of r).hand.value) (setting_at (begun_of r).turnstile.value) (seen done.seat) (seen_in l) (begun_of r).clock.value (seen (begun_of r).seat.value) (seen done.seat) (sides_of source_at sink_at (begun_of r).source.value (begun_of r).sink.value) (sides_of source_at sink_at done.source done.sink) (mine done.seat) done.served that kept.served in
      record {
        begun = begun_of r;
        own = mine done.seat;
        ended = seen done.seat;
        leaves = IsPermutation-map begun_of h.running.items (r ∷ l.running.items) left;
        met = met_is ∙ ap (λ (xs : List (ℕ × Entry)). met_in h ++ (mine done.seat ++ xs)) kept.met ∙ ap (λ (xs : List (ℕ × Entry)). met_in h ++ xs) (append-nil (mine done.seat));
        once = once;
        grew = this;
        is_served = subst (λ (g : Setting). IsServed tick (kept_by (begun_of r).hand.value) g (seen_in l) (begun_of r).clock.value (seen (begun_of r).seat.value) (seen done.seat) (sides_of source_at sink_at (begun_of r).source.value (begun_of r).sink.value) (sides_of source_at sink_at done.source done.sink) (mine done.seat) done.served) setting served;
        is_ended = kept.is_ended;
      }

  -- a matcher's seat was joined to the main one
  pub gathered : (tick : C → ℕ → C → Type 0) (trim : Trim) (may : C → Type 0) (h l : Hall S K C H L) (clock : C) (rested : Rested C) → arc_value l.turnstile ≡ arc_value h.turnstile → may clock → HasRested tick trim (arc_value h.turnstile) clock rested → IsPrefix (seen_in h) (seen_in l) → IsPrefix (seen rested.seat) (seen_in l) → met_in l ≡ met_in h ++ (mine rested.seat ++ met rested.seat) → Distinct (met_in l) → Gathers tick trim may h l
  gathered tick trim may h l clock rested same allowed matched this that met_is once =
      let setting : setting_in h ≡ setting_in l = ap setting_at (sym same) in
      record {
        own = mine rested.seat;
        turnstile = same;
        grew = this;
        met = met_is ∙ ap (λ (xs : List (ℕ × Entry)). met_in h ++ (mine rested.seat ++ xs)) matched.met ∙ ap (λ (xs : List (ℕ × Entry)). met_in h ++ xs) (append-nil (mine rested.seat));
        matching = matched_by tick may (setting_in l) trim (seen rested.seat) (seen_in l) clock rested.clock matched.moments (mine rested.seat) allowed matched.ticks that
            (subst (λ (g : Setting). AllOf (IsMatchingAt g trim (seen rested.seat) matched.moments) (mine rested.seat)) setting matched.matching);
        once = λ _. once;
      }
