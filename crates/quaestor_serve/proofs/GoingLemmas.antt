-- What a server has done after one step more.
use Rattle.std.proofs.Common.{◌≡◌, ℕ, ◌+◌, ◌<◌, ◌≤◌, List, [], ◌∷◌, ◌++◌, map, length, Option, Some, None, IfSome, refl, sym, ap, ◌∙◌, subst, arith, append-nil, append_assoc, length-append}
use Rattle.std.specs.Arc.{arc_value}
use Rattle.std.specs.List.{enumerate_from, flat_map}
use Rattle.std.specs.List.Sorted.{IsPermutation}
use Rattle.std.proofs.lemmas.List.{map-append}
use Rattle.std.proofs.lemmas.List.Sorted.{IsPermutation-refl, IsPermutation-map, IsPermutation-append_right, IsPermutation-trans}
use Rattle.std.proofs.lemmas.Grind.{flat_map-append}
use Rattle.hub_model.specs.declared.entry.Entry.{Entry}
use Rattle.hub_model.specs.Setting.{Setting}
use Rattle.q_outside.specs.Doors.{DoorsView, Passes, Counts, TookBack}
use Rattle.q_outside.specs.Ends.{End, LastEnd}
use Rattle.q_outside.specs.declared.connections.Back.{Back}
use Rattle.q_outside.specs.declared.served.Served.{Served}
use Rattle.q_outside.proofs.DoorLemmas.{passed_nothing, passed_both}
use Rattle.quaestor_serve.specs.declared.begun.Begun.{Begun}
use Rattle.quaestor_serve.specs.declared.hall.Hall.{Hall}
use Rattle.quaestor_serve.specs.declared.running.Running.{Running}
use Rattle.quaestor_serve.specs.Going.{Going, HaveRoom, HandsBack, began_with, open_in}
use Rattle.quaestor_serve.specs.Halls.{begun_in, setting_in, seen_in, met_in, IsReady, Stays, KeepsOut, Releases}
use Rattle.quaestor_serve.specs.Kept.{setting_at}
use Rattle.quaestor_serve.specs.Matchers.{IsAsBefore}
use Rattle.quaestor_serve.specs.Running.{begun_of}
use Rattle.quaestor_serve.specs.Visits.{Visit, given_of, back_of, own_of, given_at, IsWell}
use Rattle.turnstile.specs.Places.{AllOf, Distinct}
use Rattle.turnstile.specs.Seats.{seen}
use Rattle.turnstile.proofs.PlaceLemmas.{all_append, all_left, all_right}
use Rattle.quaestor_serve.proofs.HallLemmas.{keeps_both}
use Rattle.quaestor_serve.proofs.OrderLemmas.{all_permuted, all_unmapped, moves_behind, comes_open, leaves_open, waits_no_longer, numbered_last}
use Rattle.quaestor_serve.proofs.KnownLemmas.{IsLater, count_given, count_now, numbers_below, known_to_none, ordered_more, later_permuted, later_first, later_rest, later_more, ends_known}
use Rattle.quaestor_serve.proofs.VisitLemmas.{all_stay, some_least}

-- no memory need be kept for none
pub room_for_none : {X : Type 0} (away : Option ℕ) (items : List X) → items ≡ [] → IfSome away (λ n. length items + 0 ≤ n)
room_for_none None items none = tt
room_for_none (Some n) items none = let size = ap length none in omega (arith, size)

-- memory for those that are away is kept after a call of the doors
pub away_still : (before after : Option ℕ) (given handed n k : ℕ) → Counts before after given handed → k + handed ≤ n + given → IfSome before (λ m. n ≤ m) → IfSome after (λ m. k ≤ m)
away_still None None given handed n k c less room = room
away_still None (Some m) given handed n k c less room = let e = c in cc
away_still (Some b) None given handed n k c less room = let e = c.1 in cc
away_still (Some b) (Some m) given handed n k c less room =
    let same : m ≡ c.0 = let e = c.1 in cc in
    omega (arith, same, c.2, less, room)

module _ {S K C H L : Type 0} where
  -- the doors keep memory for one more that came
  pub room_for_one : (old new : DoorsView S K) (h : Hall S K C H L) (p : S × K) → Passes old new (p ∷ []) [] 0 → HaveRoom old h 0 → HaveRoom new h 1
  room_for_one old new h p passed room = away_still old.away new.away 1 0 (length h.running.items + 0) (length h.running.items + 1) passed.away (omega arith) room

  -- and for as many as before where none came
  pub room_as_before : (old new : DoorsView S K) (h : Hall S K C H L) (closed : ℕ) → Passes old new [] [] closed → HaveRoom old h 0 → HaveRoom new h 0
  room_as_before old new h closed passed room = away_still old.away new.away 0 0 (length h.running.items + 0) (length h.running.items + 0) passed.away (omega arith) room

  -- the one that came is served
  pub room_with : (away : Option ℕ) (old new : List (Running S K C H L)) (r : Running S K C H L) → new ≡ old ++ r ∷ [] → IfSome away (λ n. length old + 1 ≤ n) → IfSome away (λ n. length new + 0 ≤ n)
  room_with away old new r more room =
      let longer : length new ≡ length old + 1 = ap length more ∙ length-append old (r ∷ []) in
      some_least away (length old + 1) (length new + 0) (omega (arith, longer)) room

module _ {S K C H L : Type 0} (source_at : S → End) (sink_at : K → End) (ended_at : K → LastEnd) (tick : C → ℕ → C → Type 0) (kept : H → ℕ → Type 0) (may : C → Type 0) (tie : H → Type 0) (base : List (ℕ × Entry)) where
  -- a connection was handed back
  pub goes_back : (first old new : DoorsView S K) (h l : Hall S K C H L) (waiting : List (Begun S K C H)) (count closed : ℕ) (source : S) (sink : K) (served : Served) → Stays h l → Releases source_at sink_at ended_at tick kept h l source sink served → TookBack old new source sink (Some served) → Going source_at sink_at ended_at tick kept may tie base first old h waiting count closed → Going source_at sink_at ended_at tick kept may tie base first new l waiting count closed
  goes_back first old new h l waiting count closed source sink served same r took going =
      let start = given_at first in
      let visit : Visit S K = record { number = r.begun.number.value; source = r.begun.source.value; sink = r.begun.sink.value; source_left = source; sink_left = sink; served = served; own = r.own; after = start + count; began = seen r.begun.seat.value; ended = r.ended } in
      let came = enumerate_from 0 going.came in
      let passed : Passes old new [] (back_of visit ∷ []) 0 = took (start + count) (count_now first.given old.given (length going.came) count going.count_is going.passed.counted) in
      let setting : setting_in l ≡ setting_in h = ap setting_at same.0 in
      let left : IsPermutation (open_in waiting h) (r.begun ∷ open_in waiting l) = leaves_open waiting (begun_in h) (begun_in l) r.begun r.leaves in
      let behind : map given_of (going.visits ++ visit ∷ []) ≡ map given_of going.visits ++ given_of visit ∷ [] = map-append given_of going.visits (visit ∷ []) in
      let moved : IsPermutation came ((map given_of going.visits ++ given_of visit ∷ []) ++ map began_with (open_in waiting l)) =
      moves_behind came (map given_of going.visits) (map began_with (open_in waiting h)) (map began_with (open_in waiting l)) (given_of visit) going.came_are (IsPermutation-map began_with (open_in waiting h) (r.begun ∷ open_in waiting l) left) in
      let came_are : IsPermutation came (map given_of (going.visits ++ visit ∷ []) ++ map began_with (open_in waiting l)) = subst (λ (xs : List (ℕ × (S × K))). IsPermutation came (xs ++ map began_with (open_in waiting l))) (sym behind) moved in
      let below = numbers_below going.came (map given_of (going.visits ++ visit ∷ []) ++ map began_with (open_in waiting l)) count going.count_is came_are in
      let below_visits : AllOf (λ (v : Visit S K). v.number < count) (going.visits ++ visit ∷ []) = all_unmapped (λ (p : ℕ × (S × K)). p.0 < count) given_of (going.visits ++ visit ∷ []) (all_left (λ (p : ℕ × (S × K)). p.0 < count) (map given_of (going.visits ++ visit ∷ [])) (map began_with (open_in waiting l)) below) in
      let below_open : AllOf (λ (b : Begun S K C H). b.number.value < count) (open_in waiting l) = all_unmapped (λ (p : ℕ × (S × K)). p.0 < count) began_with (open_in waiting l) (all_right (λ (p : ℕ × (S × K)). p.0 < count) (map given_of (going.visits ++ visit ∷ [])) (map began_with (open_in waiting l)) below) in
      let later : AllOf (IsLater start (r.begun ∷ open_in waiting l)) going.visits = later_permuted start going.visits (open_in waiting h) (r.begun ∷ open_in waiting l) left going.later in
      let handed : map back_of (going.visits ++ visit ∷ []) ≡ map back_of going.visits ++ back_of visit ∷ [] = map-append back_of going.visits (visit ∷ []) in
      let both : Passes first new (going.came ++ []) (map back_of going.visits ++ back_of visit ∷ []) (closed + 0) = passed_both first old new going.came [] (map back_of going.visits) (back_of visit ∷ []) closed 0 going.passed passed in
      let none : closed + 0 ≡ closed = omega arith in
      let allowed = all_permuted (λ b. may b.clock.value) (open_in waiting h) (r.begun ∷ open_in waiting l) left going.clocks in
      let tied = all_permuted (λ b. tie b.hand.value) (open_in waiting h) (r.begun ∷ open_in waiting l) left going.hands in
      record {
        came = going.came;
        visits = going.visits ++ visit ∷ [];
        came_are = came_are;
        passed = subst (λ (n : ℕ). Passes first new going.came (map back_of (going.visits ++ visit ∷ [])) n) none
            (subst (λ (xs : List (Back S K)). Passes first new going.came xs (closed + 0)) (sym handed)
            (subst (λ (xs : List (S × K)). Passes first new xs (map back_of going.visits ++ back_of visit ∷ []) (closed + 0)) (append-nil going.came) both));
        each = all_append (IsWell source_at sink_at ended_at tick kept may tie (setting_in l) (seen_in l)) going.visits (visit ∷ [])
            (all_stay source_at sink_at ended_at tick kept may tie (setting_in l) (seen_in h) (seen_in l) going.visits r.grew (subst (λ (g : Setting). AllOf (IsWell source_at sink_at ended_at tick kept may tie g (seen_in h)) going.visits) (sym setting) going.each))
            ((r.begun.clock.value, allowed.0, r.begun.hand.value, tied.0, r.is_served, r.is_ended), tt);
        ordered = ordered_more start going.visits visit going.ordered (later_first start going.visits r.begun (open_in waiting l) later)
            (known_to_none start visit count (λ (v : Visit S K). v.number) (λ (v : Visit S K). v.began) (going.visits ++ visit ∷ []) refl below_visits);
        later = all_append (IsLater start (open_in waiting l)) going.visits (visit ∷ []) (later_rest start going.visits r.begun (open_in waiting l) later)
            (known_to_none start visit count (λ (b : Begun S K C H). b.number.value) (λ (b : Begun S K C H). seen b.seat.value) (open_in waiting l) refl below_open, tt);
        met =
            let all : flat_map own_of (going.visits ++ visit ∷ []) ≡ flat_map own_of going.visits ++ (r.own ++ []) = flat_map-append own_of going.visits (visit ∷ []) in
            let own : r.own ++ [] ≡ r.own = append-nil r.own in
            r.met ∙ ap (λ (xs : List (ℕ × Entry)). xs ++ r.own) going.met ∙ append_assoc base (flat_map own_of going.visits) r.own
            ∙ ap (λ (xs : List (ℕ × Entry)). base ++ xs) (ap (λ (xs : List (ℕ × Entry)). flat_map own_of going.visits ++ xs) (sym own) ∙ sym all);
        once = r.once;
        count_is = going.count_is;
        clocks = allowed.1;
        hands = tied.1;
      }

  -- the doors gave no connection
  pub goes_on : (first old new : DoorsView S K) (h : Hall S K C H L) (waiting : List (Begun S K C H)) (count closed more : ℕ) → Passes old new [] [] more → Going source_at sink_at ended_at tick kept may tie base first old h waiting count closed → Going source_at sink_at ended_at tick kept may tie base first new h waiting count (closed + more)
  goes_on first old new h waiting count closed more passed going =
      let handed = map back_of going.visits in
      let both : Passes first new (going.came ++ []) (handed ++ []) (closed + more) = passed_both first old new going.came [] handed [] closed more going.passed passed in
      record {
        came = going.came;
        visits = going.visits;
        came_are = going.came_are;
        passed = subst (λ (xs : List (S × K)). Passes first new xs handed (closed + more)) (append-nil going.came) (subst (λ (xs : List (Back S K)). Passes first new (going.came ++ []) xs (closed + more)) (append-nil handed) both);
        each = going.each;
        ordered = going.ordered;
        later = going.later;
        met = going.met;
        once = going.once;
        count_is = going.count_is;
        clocks = going.clocks;
        hands = going.hands;
      }

  -- a connection came, with a seat that was split off the main one since, and waits for a thread
  pub comes : (first old new : DoorsView S K) (h : Hall S K C H L) (count : ℕ) (b : Begun S K C H) (source : S) (sink : K) → Passes old new ((source, sink) ∷ []) [] 0 → b.number.value ≡ count → b.source.value ≡ source → b.sink.value ≡ sink → seen b.seat.value ≡ seen_in h → may b.clock.value → tie b.hand.value → Going source_at sink_at ended_at tick kept may tie base first old h [] count 0 → Going source_at sink_at ended_at tick kept may tie base first new h (b ∷ []) (count + 1) 0
  comes first old new h count b source sink passed number_is source_is sink_is seen_is allowed tied going =
      let handed = map back_of going.visits in
      let both : Passes first new (going.came ++ (source, sink) ∷ []) (handed ++ []) (0 + 0) = passed_both first old new going.came ((source, sink) ∷ []) handed [] 0 0 going.passed passed in
      let count_is = going.count_is in
      let number : 0 + length going.came ≡ b.number.value = omega (arith, count_is, number_is) in
      let begins : (0 + length going.came, (source, sink)) ≡ began_with b =
      ap (λ (n : ℕ). (n, (source, sink))) number ∙ ap (λ (s : S). (b.number.value, (s, sink))) (sym source_is) ∙ ap (λ (k : K). (b.number.value, (b.source.value, k))) (sym sink_is) in
      let came : enumerate_from 0 (going.came ++ (source, sink) ∷ []) ≡ enumerate_from 0 going.came ++ began_with b ∷ [] =
      numbered_last 0 going.came (source, sink) ∙ ap (λ (p : ℕ × (S × K)). enumerate_from 0 going.came ++ p ∷ []) begins in
      record {
        came = going.came ++ (source, sink) ∷ [];
        visits = going.visits;
        came_are = subst (λ (ps : List (ℕ × (S × K))). IsPermutation ps (map given_of going.visits ++ map began_with (open_in (b ∷ []) h))) (sym came)
            (comes_open (enumerate_from 0 going.came) (map given_of going.visits) (map began_with (open_in [] h)) (began_with b) going.came_are);
        passed = subst (λ (xs : List (Back S K)). Passes first new (going.came ++ (source, sink) ∷ []) xs 0) (append-nil handed) both;
        each = going.each;
        ordered = going.ordered;
        later = later_more (given_at first) going.visits b (open_in [] h) (seen_in h) seen_is (ends_known source_at sink_at ended_at tick kept may tie (setting_in h) (seen_in h) going.visits going.each) going.later;
        met = going.met;
        once = going.once;
        count_is = length-append going.came ((source, sink) ∷ []) ∙ ap (λ (n : ℕ). n + 1) going.count_is;
        clocks = (allowed, going.clocks);
        hands = (tied, going.hands);
      }

  -- it has a thread
  pub goes_in : (first now : DoorsView S K) (h l : Hall S K C H L) (r : Running S K C H L) (count : ℕ) → arc_value l.turnstile ≡ arc_value h.turnstile → l.running.items ≡ h.running.items ++ r ∷ [] → seen_in l ≡ seen_in h → met_in l ≡ met_in h → Going source_at sink_at ended_at tick kept may tie base first now h (begun_of r ∷ []) count 0 → Going source_at sink_at ended_at tick kept may tie base first now l [] count 0
  goes_in first now h l r count same more seen_same met_same going =
      let setting : setting_in l ≡ setting_in h = ap setting_at same in
      let given = map given_of going.visits in
      let begins : begun_in l ≡ begun_in h ++ begun_of r ∷ [] = ap (λ (rs : List (Running S K C H L)). map begun_of rs) more ∙ map-append begun_of h.running.items (r ∷ []) in
      let turned : IsPermutation (open_in (begun_of r ∷ []) h) (open_in [] l) = waits_no_longer (begun_in h) (begun_in l) (begun_of r) begins in
      record {
        came = going.came;
        visits = going.visits;
        came_are = IsPermutation-trans (enumerate_from 0 going.came) (given ++ map began_with (open_in (begun_of r ∷ []) h)) (given ++ map began_with (open_in [] l)) going.came_are
            (IsPermutation-append_right given (map began_with (open_in (begun_of r ∷ []) h)) (map began_with (open_in [] l)) (IsPermutation-map began_with (open_in (begun_of r ∷ []) h) (open_in [] l) turned));
        passed = going.passed;
        each = subst (λ (g : Setting). AllOf (IsWell source_at sink_at ended_at tick kept may tie g (seen_in l)) going.visits) (sym setting) (subst (λ (s : List Entry). AllOf (IsWell source_at sink_at ended_at tick kept may tie (setting_in h) s) going.visits) (sym seen_same) going.each);
        ordered = going.ordered;
        later = later_permuted (given_at first) going.visits (open_in (begun_of r ∷ []) h) (open_in [] l) turned going.later;
        met = met_same ∙ going.met;
        once = subst (λ (ps : List (ℕ × Entry)). Distinct ps) (sym met_same) going.once;
        count_is = going.count_is;
        clocks = all_permuted (λ b. may b.clock.value) (open_in (begun_of r ∷ []) h) (open_in [] l) turned going.clocks;
        hands = all_permuted (λ b. tie b.hand.value) (open_in (begun_of r ∷ []) h) (open_in [] l) turned going.hands;
      }

  -- the doors failed
  pub fails : (first old new : DoorsView S K) (h : Hall S K C H L) (count : ℕ) → Passes old new [] [] 0 → old.faults < new.faults → Going source_at sink_at ended_at tick kept may tie base first old h [] count 0 → Going source_at sink_at ended_at tick kept may tie base first new h [] count 0 × (first.faults < new.faults)
  fails first old new h count passed rose going = (goes_on first old new h [] count 0 0 passed going, (let before = going.passed.count in omega (arith, before, rose)))

  -- no connection came yet
  pub going_begins : (first : DoorsView S K) (h : Hall S K C H L) → h.running.items ≡ [] → met_in h ≡ base → Distinct base → Going source_at sink_at ended_at tick kept may tie base first first h [] 0 0
  going_begins first h none met_is once =
      let nobody : begun_in h ≡ [] = ap (λ (rs : List (Running S K C H L)). map begun_of rs) none in
      record {
        came = [];
        visits = [];
        came_are = subst (λ (bs : List (Begun S K C H)). IsPermutation [] (map began_with bs)) (sym nobody) (IsPermutation-refl []);
        passed = passed_nothing first;
        each = tt;
        ordered = tt;
        later = tt;
        met = met_is ∙ sym (append-nil base);
        once = subst (λ (ps : List (ℕ × Entry)). Distinct ps) (sym met_is) once;
        count_is = refl;
        clocks = subst (λ (bs : List (Begun S K C H)). AllOf (λ b. may b.clock.value) bs) (sym nobody) tt;
        hands = subst (λ (bs : List (Begun S K C H)). AllOf (λ b. tie b.hand.value) bs) (sym nobody) tt;
      }

  -- the hall is the same to connections
  pub going_same : (first now : DoorsView S K) (h l : Hall S K C H L) (waiting : List (Begun S K C H)) (count closed : ℕ) → IsAsBefore h l → Going source_at sink_at ended_at tick kept may tie base first now h waiting count closed → Going source_at sink_at ended_at tick kept may tie base first now l waiting count closed
  going_same first now h l waiting count closed same going =
      let begun : begun_in l ≡ begun_in h = ap (λ (rs : List (Running S K C H L)). map begun_of rs) same.2 in
      let setting : setting_in l ≡ setting_in h = ap setting_at same.0 in
      record {
        came = going.came;
        visits = going.visits;
        came_are = subst (λ (bs : List (Begun S K C H)). IsPermutation (enumerate_from 0 going.came) (map given_of going.visits ++ map began_with (waiting ++ bs))) (sym begun) going.came_are;
        passed = going.passed;
        each = subst (λ (g : Setting). AllOf (IsWell source_at sink_at ended_at tick kept may tie g (seen_in l)) going.visits) (sym setting) (subst (λ (s : List Entry). AllOf (IsWell source_at sink_at ended_at tick kept may tie (setting_in h) s) going.visits) (sym same.4) going.each);
        ordered = going.ordered;
        later = subst (λ (bs : List (Begun S K C H)). AllOf (IsLater (given_at first) (waiting ++ bs)) going.visits) (sym begun) going.later;
        met = same.3 ∙ going.met;
        once = subst (λ (ps : List (ℕ × Entry)). Distinct ps) (sym same.3) going.once;
        count_is = going.count_is;
        clocks = subst (λ (bs : List (Begun S K C H)). AllOf (λ b. may b.clock.value) (waiting ++ bs)) (sym begun) going.clocks;
        hands = subst (λ (bs : List (Begun S K C H)). AllOf (λ b. tie b.hand.value) (waiting ++ bs)) (sym begun) going.hands;
      }

module _ {S K C H L P : Type 0} (source_at : S → End) (sink_at : K → End) (ended_at : K → LastEnd) (tick : C → ℕ → C → Type 0) (kept : H → ℕ → Type 0) (is_clone : C → C → Type 0) (is_at : P → H → Type 0) where
  -- none was handed back
  pub hands_none : (now : DoorsView S K) (h : Hall S K C H L) → IsReady h → HandsBack source_at sink_at ended_at tick kept is_clone is_at now now h h
  hands_none now h ready = record {
    stays = (refl, refl, refl);
    ready = ready;
    out = λ others was. was;
    fewer = omega arith;
    room = λ more room. room;
    faults = omega arith;
    going = λ clock place base first waiting count closed going. going;
  }

  -- some were, and then others
  pub hands_both : (a b c : DoorsView S K) (h i j : Hall S K C H L) → HandsBack source_at sink_at ended_at tick kept is_clone is_at a b h i → HandsBack source_at sink_at ended_at tick kept is_clone is_at b c i j → HandsBack source_at sink_at ended_at tick kept is_clone is_at a c h j
  hands_both a b c h i j p q = record {
    stays = (q.stays.0 ∙ p.stays.0, q.stays.1 ∙ p.stays.1, q.stays.2 ∙ p.stays.2);
    ready = q.ready;
    out = keeps_both h i j p.out q.out;
    fewer = (let p_fewer = p.fewer in let q_fewer = q.fewer in omega (arith, p_fewer, q_fewer));
    room = λ more room. q.room more (p.room more room);
    faults = (let p_faults = p.faults in let q_faults = q.faults in omega (arith, p_faults, q_faults));
    going = λ clock place base first waiting count closed going. q.going clock place base first waiting count closed (p.going clock place base first waiting count closed going);
  }

  -- one was
  pub hands_one : (old new : DoorsView S K) (h l : Hall S K C H L) (source : S) (sink : K) (served : Served) → Stays h l → IsReady l → KeepsOut h l → length l.running.items + 1 ≡ length h.running.items → Releases source_at sink_at ended_at tick kept h l source sink served → TookBack old new source sink (Some served) → HandsBack source_at sink_at ended_at tick kept is_clone is_at old new h l
  hands_one old new h l source sink served same ready out less r took =
      let passed = took (given_at old) (count_given old.given) in
      record {
        stays = same;
        ready = ready;
        out = out;
        fewer = omega (arith, less);
        room = λ more room. away_still old.away new.away 0 1 (length h.running.items + more) (length l.running.items + more) passed.away (omega (arith, less)) room;
        faults = passed.count;
        going = λ clock place base first waiting count closed going. goes_back source_at sink_at ended_at tick kept (is_clone clock) (is_at place) base first old new h l waiting count closed source sink served same r took going;
      }

  -- memory for those that are served is kept where some were handed back
  pub room_kept : (a b : DoorsView S K) (h i : Hall S K C H L) → HandsBack source_at sink_at ended_at tick kept is_clone is_at a b h i → HaveRoom a h 0 → HaveRoom b i 0
  room_kept a b h i p room = p.room 0 room

-- what a series of connections that are handed back comes to
pub ruleset handing = (hands_none, hands_both, room_kept)

-- what a call of the doors comes to
pub ruleset ringing = (goes_on, room_for_one, room_as_before)
