-- Each atomic step of a turnstile keeps its rule.
use Rattle.std.proofs.Common.{◌≡◌, ◌≢◌, ◌⊎◌, ℕ, zero, suc, ◌+◌, ◌%◌, ◌^◌, ◌<◌, ◌≤◌, ◌==◌, Bool, true, false, List, [], ◌∷◌, ◌++◌, length, set, slice_index, Option, Some, MatchBool, refl, ap, sym, ◌∙◌, subst, ⊎_elim, inl, inr, arith, length-append, length-set, eq-eqb, ne_eqb, mod-eq_of_lt}
use Rattle.std.specs.List.{enumerate_from}
use mathlib.Core.Logic.{dite}
use mathlib.Core.Option.{some, none, some-injective, some-ne-none}
use mathlib.Core.Option as maybe
use mathlib.Core.List.{IsPrefix}
use native.Mathlib.Decide.{ℕ_discrete}
use lib.ListN.{get_elem?}
use lib.Seq.{set-get_or}
use prog.Atomic.{either}
use Rattle.atomic_table.specs.Table.{State, Me, Act, keeps, takes, gives, Valid, rest, put_back, carried_after, stepped, opening, Allows, Splits, Joins}
use Rattle.atomic_table.proofs.Lists.{at_set, set_here, set_else}
use Rattle.turnstile.specs.declared.view.View.{View}
use Rattle.turnstile.specs.declared.view.Phase.{Phase}
use Rattle.turnstile.specs.declared.view.Phase.TheVariants.{Free, Taken, Known, Told}
use Rattle.turnstile.specs.Places.{AreAt, Disjoint}
use Rattle.turnstile.specs.Views.{opening_view, in_phase, after_observe, with_seen, with_entries, after_split, split_view, after_join, spent_view}
use Rattle.turnstile.specs.Levels.{occurs, level_of}
use Rattle.turnstile.specs.Rule.{turn_word, InPhase, SoundOf, Sound, ViewInvariant, claims, IsDoneIfSpent, AreDisjoint, AreClaimed, AreDescended, TableInvariant}
use Rattle.turnstile.specs.Plays.{IsKnowing, HasAcquired, acquired, observed, appended, released}
use Rattle.turnstile.proofs.Prefixes.{prefix_self, prefix_trans, prefix_longer}
use Rattle.std.proofs.lemmas.List.FromFn.{length-enumerate_from}
use Rattle.turnstile.proofs.Totals.{total_set, total_same, total_snoc, occurs_append}
use Rattle.turnstile.proofs.Lineages.{lineage_first, lineage_left, lineage_right, lineage_both, lineage_spent, only_whole}
use Rattle.turnstile.proofs.PlaceLemmas.{At, all_map, all_append, stand_longer, places_stand, rises_on, rises_once, once_append, away_back, away_none, away_left, away_right, away_first, away_second, away_behind}

-- Elements of lists by their index.
module _ {A : Type 0} where
  pub at_below : (l : List A) (i : ℕ) (a : A) → get_elem? l i ≡ some a → i < length l
  at_below [] i a e = absurd (some-ne-none a (sym e))
  at_below (x ∷ xs) zero a e = omega arith
  at_below (x ∷ xs) (suc i) a e = omega (arith, at_below xs i a e)

  -- an element of a list with one more at its end is an old one, or the last
  at_longer_by_one : (l : List A) (a b : A) (j : ℕ) → get_elem? (l ++ a ∷ []) j ≡ some b → (get_elem? l j ≡ some b) ⊎ ((j ≡ length l) × (a ≡ b))
  at_longer_by_one [] a b zero e = inr (refl, some-injective a b e)
  at_longer_by_one [] a b (suc j) e = absurd (some-ne-none b (sym e))
  at_longer_by_one (x ∷ xs) a b zero e = inl e
  at_longer_by_one (x ∷ xs) a b (suc j) e = ⊎_elim (λ (t : get_elem? xs j ≡ some b). inl t) (λ (t : (j ≡ length xs) × (a ≡ b)). inr (ap suc t.0, t.1)) (at_longer_by_one xs a b j e)

-- nobody has the turn where the word is 0
pub nobody : (n : ℕ) → turn_word n ≡ 0 → n ≡ 0
nobody zero e = refl
nobody (suc n) e = absurd (omega arith)

-- What a seat knows, when the history grows.
module _ {E : Type 0} where
  other_phase : (h l : List E) (n m j : ℕ) (seen : List E) (p : Phase E) → n ≢ j + 1 → m ≢ j + 1 → InPhase h n j seen p → InPhase l m j seen p
  other_phase h l n m j seen Free a b q = b
  other_phase h l n m j seen (Taken found) a b q = absurd (a q.0)
  other_phase h l n m j seen Known a b q = absurd (a q.0)
  other_phase h l n m j seen Told a b q = absurd (a q.0)

  observed_phase : (h : List E) (n j : ℕ) (seen : List E) (p : Phase E) → InPhase h n j seen p → InPhase h n j h (after_observe p)
  observed_phase h n j seen Free q = q
  observed_phase h n j seen (Taken found) q = (q.0, refl)
  observed_phase h n j seen Known q = (q.0, refl)
  observed_phase h n j seen Told q = (q.0, refl)

  knowing : (h : List E) (n j : ℕ) (seen : List E) (p : Phase E) → IsKnowing p → InPhase h n j seen p → (n ≡ j + 1) × (seen ≡ h)
  knowing h n j seen p is q = ⊎_elim (λ (e : p ≡ Known). subst (λ x. InPhase h n j seen x) e q) (λ (e : p ≡ Told). subst (λ x. InPhase h n j seen x) e q) is

  not_holding : (h : List E) (n j : ℕ) (seen : List E) (p : Phase E) → p ≡ Free → InPhase h n j seen p → n ≢ j + 1
  not_holding h n j seen p is q = subst (λ x. InPhase h n j seen x) is q

  sound_longer : (h l : List E) (mine met : List (ℕ × E)) (olds : List (List E)) → IsPrefix h l → SoundOf h mine met olds → SoundOf l mine met olds
  sound_longer h l mine met olds grew s = record {
    mine_stand = stand_longer h l mine grew s.mine_stand;
    met_stand = stand_longer h l met grew s.met_stand;
    rises = s.rises;
    once = s.once;
    away = s.away;
    olds_begin = all_map (λ o. IsPrefix o h) (λ o. IsPrefix o l) (λ o p. prefix_trans o h l p grew) olds s.olds_begin;
  }

  sound_none : (h : List E) → SoundOf h [] [] []
  sound_none h = record { mine_stand = tt; met_stand = tt; rises = tt; once = tt; away = tt; olds_begin = tt }

  -- a seat's entries stay sound when it adds some behind all that it had seen
  append_sound : (seen made : List E) (mine met : List (ℕ × E)) (olds : List (List E)) → SoundOf seen mine met olds → SoundOf (seen ++ made) (mine ++ enumerate_from (length seen) made) met olds
  append_sound seen made mine met olds s = let new : List (ℕ × E) = enumerate_from (length seen) made in let on = sound_longer seen (seen ++ made) mine met olds (made, refl) s in record {
    mine_stand = all_append (At (seen ++ made)) mine new on.mine_stand (places_stand seen made);
    met_stand = on.met_stand;
    rises = rises_on seen mine made s.mine_stand s.rises;
    once = s.once;
    away = away_left mine new met s.away (away_back met new (away_behind seen met made s.met_stand));
    olds_begin = on.olds_begin;
  }

module _ {E K : Type 0} (key : K) where
  other_knows : (h l : List E) (n m j : ℕ) (v : View E K) → IsPrefix h l → n ≢ j + 1 → m ≢ j + 1 → ViewInvariant key h n j v → ViewInvariant key l m j v
  other_knows h l n m j v grew a b k = record {
    prefix = prefix_trans v.seen h l k.prefix grew;
    phase = other_phase h l n m j v.seen v.phase a b k.phase;
    keyed = k.keyed;
    sound = sound_longer h l v.mine v.met v.olds grew k.sound;
    lineage = k.lineage;
    done = k.done;
  }

  -- what all seats know, where one view changes
  seats_stay : (h l : List E) (n m : ℕ) (views : List (View E K)) (id : ℕ) (w : View E K) → ((j : ℕ) (v : View E K) → get_elem? views j ≡ some v → ViewInvariant key h n j v)
      → ((j : ℕ) (v : View E K) → j ≢ id → ViewInvariant key h n j v → ViewInvariant key l m j v) → ViewInvariant key l m id w → (j : ℕ) (v : View E K) → get_elem? (set views id w) j ≡ some v → ViewInvariant key l m j v
  seats_stay h l n m views id w each others here j v at = ⊎_elim (λ (t : (j ≡ id) × (w ≡ v)). subst (λ (x : ℕ × View E K). ViewInvariant key l m x.0 x.1) (λ i. (sym t.0 i, t.1 i)) here)
      (λ (t : (j ≢ id) × (get_elem? views j ≡ some v)). others j v t.0 (each j v t.1)) (at_set views id j w v at)

-- Places claimed, where one view changes.
module _ {E K : Type 0} where
  apart_stay : (views : List (View E K)) (id : ℕ) (w : View E K) → AreDisjoint views → ((j : ℕ) (v : View E K) → j ≢ id → get_elem? views j ≡ some v → Disjoint (claims w) (claims v)) → AreDisjoint (set views id w)
  apart_stay views id w apart here i j u v ne ati atj =
      ⊎_elim (λ (a : (i ≡ id) × (w ≡ u)). ⊎_elim (λ (b : (j ≡ id) × (w ≡ v)). absurd (ne (a.0 ∙ sym b.0)))
      (λ (b : (j ≢ id) × (get_elem? views j ≡ some v)). subst (λ x. Disjoint (claims x) (claims v)) a.1 (here j v b.0 b.1)) (at_set views id j w v atj))
      (λ (a : (i ≢ id) × (get_elem? views i ≡ some u)).
      ⊎_elim (λ (b : (j ≡ id) × (w ≡ v)). subst (λ x. Disjoint (claims u) (claims x)) b.1 (away_back (claims w) (claims u) (here i u a.0 a.1)))
      (λ (b : (j ≢ id) × (get_elem? views j ≡ some v)). apart i j u v ne a.1 b.1) (at_set views id j w v atj)) (at_set views id i w u ati)

  apart_same : (views : List (View E K)) (id : ℕ) (old w : View E K) → get_elem? views id ≡ some old → claims w ≡ claims old → AreDisjoint views → (j : ℕ) (v : View E K) → j ≢ id → get_elem? views j ≡ some v → Disjoint (claims w) (claims v)
  apart_same views id old w at same apart j v ne atj = subst (λ c. Disjoint c (claims v)) (sym same) (apart id j old v (λ e. ne (sym e)) at atj)

-- Seats and entries counted, where one view changes.
module _ {E K : Type 0} where
  claimed_set : (h l : List E) (views : List (View E K)) (id : ℕ) (old w : View E K) → get_elem? views id ≡ some old → length l + length (claims old) ≡ length h + length (claims w) → AreClaimed h views → AreClaimed l (set views id w)
  claimed_set h l views id old w at counts claimed = omega (arith, claimed, counts, total_set (λ v. length (claims v)) views id old w at)

  descended_same : (views : List (View E K)) (id : ℕ) (old w : View E K) → get_elem? views id ≡ some old → w.levels ≡ old.levels → w.children ≡ old.children → AreDescended views → AreDescended (set views id w)
  descended_same views id old w at levels children descended n = omega (arith, descended n, total_same (λ v. occurs n v.levels) views id old w at (ap (occurs n) levels), total_same (λ v. occurs n v.children) views id old w at (ap (occurs n) children))

  -- a seat that has a setting was joined to no other
  not_done : (key : K) (w : View E K) → w.setting ≡ Some key → IsDoneIfSpent w
  not_done key w keyed spent = absurd (cc (keyed, spent))

module _ {T K E : Type 0} (setting : T → K) (legal : K → List E → Type 0) (stands : T → List E → Type 0) (key : K) where
  abbrev V : Type 0
  V = View E K

  abbrev Rule : State (Option T) V → Type 0
  Rule = TableInvariant setting legal stands key

  -- a step that changes neither word nor slot
  still : (s : State (Option T) V) (r : Rule s) (i id : ℕ) (old w : V) → get_elem? s.views id ≡ some old → claims w ≡ claims old → w.levels ≡ old.levels → w.children ≡ old.children → ViewInvariant key r.history r.holder id w
      → Rule record { words = set s.words i (slice_index s.words i); homes = s.homes; views = set s.views id w }
  still s r i id old w at same levels children knows = record {
    history = r.history;
    holder = r.holder;
    words = set-get_or s.words i 0 ∙ r.words;
    one_slot = r.one_slot;
    seated = let many = length-set s.views id w in let few = r.seated in omega arith;
    lawful = r.lawful;
    small = r.small;
    home = r.home;
    each = seats_stay key r.history r.history r.holder r.holder s.views id w r.each (λ j v ne k. k) knows;
    apart = apart_stay s.views id w r.apart (apart_same s.views id old w at same r.apart);
    claimed = claimed_set r.history r.history s.views id old w at (ap (λ c. length r.history + length c) (sym same)) r.claimed;
    descended = descended_same s.views id old w at levels children r.descended;
  }

  -- a step by which the turn comes, goes or stays with the seat, and the history may grow
  passes : (s : State (Option T) V) (r : Rule s) (id : ℕ) (old w : V) (l : List E) (m : ℕ) (words : List ℕ) (homes : List (maybe.Option (Option T))) → get_elem? s.views id ≡ some old → w.levels ≡ old.levels → w.children ≡ old.children → length l + length (claims old) ≡ length r.history + length (claims w) → IsPrefix r.history l → words ≡ turn_word m ∷ length l ∷ []
      → length homes ≡ 1 → m ≤ length s.views → legal key l → length l < 18446744073709551616 → (m ≡ 0 → (x : T) × (get_elem? homes 0 ≡ some (some (Some x))) × stands x l × (setting x ≡ key))
      → ((j : ℕ) → j ≢ id → r.holder ≢ j + 1) → ((j : ℕ) → j ≢ id → m ≢ j + 1) → ViewInvariant key l m id w → ((j : ℕ) (v : V) → j ≢ id → get_elem? s.views j ≡ some v → Disjoint (claims w) (claims v))
      → Rule record { words = words; homes = homes; views = set s.views id w }
  passes s r id old w l m words homes at levels children counts grew words_are one within lawful small home before after knows away = record {
    history = l;
    holder = m;
    words = words_are;
    one_slot = one;
    seated = let many = length-set s.views id w in omega arith;
    lawful = lawful;
    small = small;
    home = home;
    each = seats_stay key r.history l r.holder m s.views id w r.each (λ j v ne k. other_knows key r.history l r.holder m j v grew (before j ne) (after j ne) k) knows;
    apart = apart_stay s.views id w r.apart away;
    claimed = claimed_set r.history l s.views id old w at counts r.claimed;
    descended = descended_same s.views id old w at levels children r.descended;
  }

  turn_is : (s : State (Option T) V) (r : Rule s) → slice_index s.words 0 ≡ turn_word r.holder
  turn_is s r = ap (λ ws. slice_index ws 0) r.words

  length_is : (s : State (Option T) V) (r : Rule s) → slice_index s.words 1 ≡ length r.history
  length_is s r = ap (λ ws. slice_index ws 1) r.words

  -- what a try for the turn has to show, when the word becomes n, and b says whether it was 0
  abbrev Tries : State (Option T) V → ℕ → Me (Option T) V → ℕ → Bool → Type 0
  Tries s id me n b = (w : V) × (a : Act (Option T)) × Valid s.homes me.1 a × Rule (stepped s 0 n id me.1 w a)
      × MatchBool b (HasAcquired setting legal stands me (w, carried_after me.1 a)) ((w, carried_after me.1 a) ≡ me)

  won : (s : State (Option T) V) (r : Rule s) (id : ℕ) (me : Me (Option T) V) → me.0.setting ≡ Some key → get_elem? s.views id ≡ some me.0 → slice_index s.words 0 ≡ 0 → Tries s id me 1 true
  won s r id me owned at hit =
      let idle : r.holder ≡ 0 = nobody r.holder (sym (turn_is s r) ∙ hit) in
      let kept = r.home idle in
      let old = r.each id me.0 at in
      let w : V = in_phase (Taken r.history) me.0 in
      let one : length (set s.homes 0 none) ≡ 1 = length-set s.homes 0 none ∙ r.one_slot in
      let within : suc id ≤ length s.views = omega (arith, at_below s.views id me.0 at) in (
        w,
        takes 0 (Some kept.0),
        kept.1,
        passes s r id me.0 w r.history (suc id) (set s.words 0 1) (set s.homes 0 none) at refl refl refl (prefix_self r.history) (ap (λ ws. set ws 0 1) r.words) one within r.lawful r.small (λ e. absurd (omega arith))
            (λ j ne e. omega (arith, idle, e)) (λ j ne e. ne (omega arith)) record { prefix = old.prefix; phase = (omega arith, refl); keyed = old.keyed; sound = old.sound; lineage = old.lineage; done = not_done key w owned }
            (apart_same s.views id me.0 w at refl r.apart),
        (kept.0, r.history, refl, (kept.2, λ k given. let is = old.keyed k given in (kept.3 ∙ sym is, subst (λ z. legal z r.history) (sym is) r.lawful))),
      )

  missed : (s : State (Option T) V) (r : Rule s) (id : ℕ) (me : Me (Option T) V) → get_elem? s.views id ≡ some me.0 → Tries s id me (slice_index s.words 0) false
  missed s r id me at = (me.0, keeps, tt, still s r 0 id me.0 me.0 at refl refl refl (r.each id me.0 at), refl)

  pub acquire_keeps : (slots id : ℕ) (me : Me (Option T) V) → me.0.setting ≡ Some key → Allows Rule slots id me 0 (λ n. either (n == 0) 1 n) (acquired setting legal stands me)
  acquire_keeps slots id me owned s r one at small = let n : ℕ = slice_index s.words 0 in dite (ℕ_discrete n 0) (λ (e : n ≡ 0). subst (λ b. Tries s id me (either b 1 n) b) (sym (eq-eqb n 0 e)) (won s r id me owned at e))
      (λ (ne : n ≢ 0). subst (λ b. Tries s id me (either b 1 n) b) (sym (ne_eqb n 0 ne)) (missed s r id me at))

  pub observe_keeps : (slots id : ℕ) (me : Me (Option T) V) → me.0.setting ≡ Some key → Allows Rule slots id me 1 (λ n. n) (observed legal me)
  observe_keeps slots id me owned s r one at small =
      let old = r.each id me.0 at in
      let w : V = with_seen r.history me.0 in (
        w,
        keeps,
        tt,
        still s r 1 id me.0 w at refl refl refl
            record { prefix = prefix_self r.history; phase = observed_phase r.history r.holder id me.0.seen me.0.phase old.phase; keyed = old.keyed; sound = old.sound; lineage = old.lineage; done = not_done key w owned },
        (
          refl,
          refl,
          length_is s r,
          old.prefix,
          (λ k given. subst (λ z. legal z r.history) (sym (old.keyed k given)) r.lawful),
          old.sound,
          (λ found is. let q : InPhase r.history r.holder id me.0.seen (Taken found) = subst (λ p. InPhase r.history r.holder id me.0.seen p) is old.phase in sym q.1),
          (λ all. only_whole s.views id me.0 at r.descended (λ j v here. (r.each j v here).lineage) all r.history r.claimed (λ j v here. (r.each j v here).done)),
        ),
      )

  pub release_keeps : (slots id : ℕ) (me : Me (Option T) V) (y : T) → me.0.setting ≡ Some key → IsKnowing me.0.phase → me.1 ≡ (0, Some y) ∷ rest me.1 → stands y me.0.seen → setting y ≡ key → Allows Rule slots id me 0 (λ _. 0) (λ _. released me 0)
  release_keeps slots id me y owned is carried st keyed s r one at small =
      let old = r.each id me.0 at in
      let hold = knowing r.history r.holder id me.0.seen me.0.phase is old.phase in
      let w : V = in_phase Free me.0 in
      let holds : r.holder ≡ id + 1 = hold.0 in
      let has : 0 < length s.homes = omega (arith, r.one_slot) in
      let long : length (set s.homes 0 (some (Some y))) ≡ 1 = length-set s.homes 0 (some (Some y)) ∙ r.one_slot in
      let P : List (ℕ × Option T) → Type 0 = λ cs. Rule record { words = set s.words 0 0; homes = put_back s.homes cs; views = set s.views id w } in (
        w,
        gives,
        tt,
        subst P (sym carried) (passes s r id me.0 w r.history 0 (set s.words 0 0) (set s.homes 0 (some (Some y))) at refl refl refl (prefix_self r.history) (ap (λ ws. set ws 0 0) r.words) long (omega arith) r.lawful r.small
            (λ e. (y, set_here s.homes 0 (some (Some y)) has, subst (λ l. stands y l) hold.1 st, keyed)) (λ j ne e. ne (omega (arith, holds, e))) (λ j ne e. omega arith)
            record { prefix = old.prefix; phase = λ e. omega arith; keyed = old.keyed; sound = old.sound; lineage = old.lineage; done = not_done key w owned } (apart_same s.views id me.0 w at refl r.apart)),
        refl,
      )

  pub append_keeps : (slots id : ℕ) (me : Me (Option T) V) (made : List E) (k : ℕ) → me.0.setting ≡ Some key → me.0.phase ≡ Known → k ≡ length made → length me.0.seen + k < 18446744073709551616 → legal key (me.0.seen ++ made)
      → Allows Rule slots id me 1 (λ n. (n + k) % 2 ^ 64) (appended made me)
  append_keeps slots id me made k owned is counts space lawful s r one at small =
      let old = r.each id me.0 at in
      let hold = knowing r.history r.holder id me.0.seen me.0.phase (inl is) old.phase in
      let holds : r.holder ≡ id + 1 = hold.0 in
      let all : List E = me.0.seen ++ made in
      let new : List (ℕ × E) = enumerate_from (length me.0.seen) made in
      let w : V = with_entries made me.0 in
      let grew : IsPrefix r.history all = (made, ap (λ h. h ++ made) (sym hold.1)) in
      let long : length all ≡ length me.0.seen + length made = length-append me.0.seen made in
      let found : slice_index s.words 1 ≡ length me.0.seen = length_is s r ∙ ap length (sym hold.1) in
      let sum : slice_index s.words 1 + k ≡ length all = omega (arith, long, found, counts) in
      let fits : length all < 18446744073709551616 = omega (arith, long, counts, space) in
      let word : (slice_index s.words 1 + k) % 18446744073709551616 ≡ length all = ap (λ (x : ℕ). x % 18446744073709551616) sum ∙ mod-eq_of_lt fits in
      let noted : length new ≡ length made = length-enumerate_from (length me.0.seen) made in
      let more : length all + length (claims me.0) ≡ length r.history + length (claims w) = (let seen_is : length me.0.seen ≡ length r.history = ap length hold.1 in
      omega (arith, long, noted, seen_is, length-append me.0.mine me.0.met, length-append (me.0.mine ++ new) me.0.met, length-append me.0.mine new)) in
      let known : Sound me.0.seen me.0 = subst (λ h. Sound h me.0) (sym hold.1) old.sound in
      let sound : Sound all w = append_sound me.0.seen made me.0.mine me.0.met me.0.olds known in
      let away : (j : ℕ) (v : V) → j ≢ id → get_elem? s.views j ≡ some v → Disjoint (claims w) (claims v) = λ j v ne atj.
      (let theirs = (r.each j v atj).sound in
      let stand : AreAt me.0.seen (claims v) = subst (λ h. AreAt h (claims v)) (sym hold.1) (all_append (At r.history) v.mine v.met theirs.mine_stand theirs.met_stand) in
      let ours = r.apart id j me.0 v (λ e. ne (sym e)) at atj in
      away_left (me.0.mine ++ new) me.0.met (claims v)
      (away_left me.0.mine new (claims v) (away_first me.0.mine me.0.met (claims v) ours) (away_back (claims v) new (away_behind me.0.seen (claims v) made stand)))
      (away_second me.0.mine me.0.met (claims v) ours)) in (
        w,
        keeps,
        tt,
        passes s r id me.0 w all r.holder (set s.words 1 ((slice_index s.words 1 + k) % 18446744073709551616)) s.homes at refl refl more grew
            (ap (λ ws. set ws 1 ((slice_index s.words 1 + k) % 18446744073709551616)) r.words ∙ ap (λ (x : ℕ). turn_word r.holder ∷ x ∷ []) word) r.one_slot r.seated lawful fits (λ e. absurd (omega (arith, holds, e)))
            (λ j ne e. ne (omega (arith, holds, e))) (λ j ne e. ne (omega (arith, holds, e))) record { prefix = prefix_self all; phase = (holds, refl); keyed = old.keyed; sound = sound; lineage = old.lineage; done = not_done key w owned } away,
        (refl, found, sound),
      )

  split_descended : (views : List V) (id : ℕ) (v : V) → get_elem? views id ≡ some v → AreDescended views → AreDescended (set views id (after_split v) ++ split_view v ∷ [])
  split_descended views id v at descended n =
      let left : V = after_split v in
      let right : V = split_view v in
      let ls : V → ℕ = λ u. occurs n u.levels in
      let cs : V → ℕ = λ u. occurs n u.children in
      omega (arith, descended n, total_same ls views id v left at refl, total_set cs views id v left at, total_snoc ls (set views id left) right, total_snoc cs (set views id left) right)

  join_claimed : (h : List E) (views : List V) (id other : ℕ) (v w : V) → get_elem? views id ≡ some v → get_elem? (set views id (after_join v w)) other ≡ some w → AreClaimed h views → AreClaimed h (set (set views id (after_join v w)) other spent_view)
  join_claimed h views id other v w at set_at claimed =
      let both : V = after_join v w in
      let size : V → ℕ = λ u. length (claims u) in
      omega (arith, claimed, total_set size views id v both at, total_set size (set views id both) other w spent_view set_at, length-append v.mine v.met, length-append v.mine (v.met ++ claims w), length-append v.met (claims w))

  join_descended : (views : List V) (id other : ℕ) (v w : V) → get_elem? views id ≡ some v → get_elem? (set views id (after_join v w)) other ≡ some w → AreDescended views → AreDescended (set (set views id (after_join v w)) other spent_view)
  join_descended views id other v w at set_at descended n =
      let both : V = after_join v w in
      let ls : V → ℕ = λ u. occurs n u.levels in
      let cs : V → ℕ = λ u. occurs n u.children in
      omega (
        arith,
        descended n,
        total_set ls views id v both at,
        total_set ls (set views id both) other w spent_view set_at,
        total_set cs views id v both at,
        total_set cs (set views id both) other w spent_view set_at,
        occurs_append n v.levels w.levels,
        occurs_append n v.children w.children,
      )

  pub split_keeps : (id : ℕ) (v : V) → v.setting ≡ Some key → Splits Rule id v (after_split v) (split_view v)
  split_keeps id v owned s r at =
      let old = r.each id v at in
      let left : V = after_split v in
      let right : V = split_view v in
      let views : List V = set s.views id left in
      let many : length views ≡ length s.views = length-set s.views id left in
      let each : (j : ℕ) (u : V) → get_elem? views j ≡ some u → ViewInvariant key r.history r.holder j u = seats_stay key r.history r.history r.holder r.holder s.views id left r.each (λ j u ne k. k)
      record { prefix = old.prefix; phase = old.phase; keyed = old.keyed; sound = old.sound; lineage = lineage_left v.setting key v.levels v.children owned old.lineage; done = not_done key left owned } in
      let size : V → ℕ = λ u. length (claims u) in
      let apart : AreDisjoint views = apart_stay s.views id left r.apart (apart_same s.views id v left at refl r.apart) in
      let within = r.seated in
      record {
        history = r.history;
        holder = r.holder;
        words = r.words;
        one_slot = r.one_slot;
        seated = omega (arith, many, within, length-append views (right ∷ []));
        lawful = r.lawful;
        small = r.small;
        home = r.home;
        each = λ j u here. ⊎_elim (λ (a : get_elem? views j ≡ some u). each j u a)
            (λ (a : (j ≡ length views) × (right ≡ u)). subst (λ x. ViewInvariant key r.history r.holder j x) a.1
            record { prefix = old.prefix; phase = λ e. omega (arith, many, within, a.0, e); keyed = old.keyed; sound = sound_none r.history; lineage = lineage_right v.setting (level_of v.levels); done = not_done key right owned }) (at_longer_by_one views right u j here);
        apart = λ i j u x ne ati atj. ⊎_elim (λ (a : get_elem? views i ≡ some u). ⊎_elim (λ (b : get_elem? views j ≡ some x). apart i j u x ne a b)
            (λ (b : (j ≡ length views) × (right ≡ x)). subst (λ y. Disjoint (claims u) (claims y)) b.1 (away_none (claims u))) (at_longer_by_one views right x j atj))
            (λ (a : (i ≡ length views) × (right ≡ u)). subst (λ y. Disjoint (claims y) (claims x)) a.1 tt) (at_longer_by_one views right u i ati);
        claimed = omega (arith, r.claimed, total_same size s.views id v left at refl, total_snoc size views right);
        descended = split_descended s.views id v at r.descended;
      }

  -- what two seats know together
  met_sound : (h : List E) (v w : V) → IsPrefix v.seen h → IsPrefix w.seen h → Sound h v → Sound h w → Disjoint (claims v) (claims w) → Sound h (after_join v w)
  met_sound h v w a b s t away = record {
    mine_stand = s.mine_stand;
    met_stand = all_append (At h) v.met (claims w) s.met_stand (all_append (At h) w.mine w.met t.mine_stand t.met_stand);
    rises = s.rises;
    once = once_append v.met (claims w) s.once (once_append w.mine w.met (rises_once w.mine t.rises) t.once t.away) (away_second v.mine v.met (claims w) away);
    away = away_right v.mine v.met (claims w) s.away (away_first v.mine v.met (claims w) away);
    olds_begin = (a, (b, s.olds_begin));
  }

  -- a view after a join is the spent one, the joined one, or as it was
  joined_at : (views : List V) (id other : ℕ) (both : V) (i : ℕ) (u : V) → get_elem? (set (set views id both) other spent_view) i ≡ some u
      → ((i ≡ other) × (spent_view ≡ u)) ⊎ (((i ≡ id) × (both ≡ u)) ⊎ ((i ≢ id) × (i ≢ other) × (get_elem? views i ≡ some u)))
  joined_at views id other both i u at = ⊎_elim (λ (a : (i ≡ other) × (spent_view ≡ u)). inl a)
      (λ (a : (i ≢ other) × (get_elem? (set views id both) i ≡ some u)). inr (⊎_elim (λ (b : (i ≡ id) × (both ≡ u)). inl b)
      (λ (b : (i ≢ id) × (get_elem? views i ≡ some u)). inr (b.0, a.0, b.1)) (at_set views id i both u a.1))) (at_set (set views id both) other i spent_view u at)

  joined_apart : (views : List V) (id other : ℕ) (v w : V) → AreDisjoint views → get_elem? views id ≡ some v → get_elem? views other ≡ some w → AreDisjoint (set (set views id (after_join v w)) other spent_view)
  joined_apart views id other v w apart atv atw i j u x ne ati atj =
      let both : V = after_join v w in
      let away : (k : ℕ) (y : V) → k ≢ id → k ≢ other → get_elem? views k ≡ some y → Disjoint (claims both) (claims y) = λ k y a b atk.
      (let one = apart id k v y (λ e. a (sym e)) atv atk in
      let two = apart other k w y (λ e. b (sym e)) atw atk in
      away_left v.mine (v.met ++ claims w) (claims y) (away_first v.mine v.met (claims y) one) (away_left v.met (claims w) (claims y) (away_second v.mine v.met (claims y) one) two)) in
      ⊎_elim (λ (a : (i ≡ other) × (spent_view ≡ u)). subst (λ y. Disjoint (claims y) (claims x)) a.1 tt)
      (λ (a : ((i ≡ id) × (both ≡ u)) ⊎ ((i ≢ id) × (i ≢ other) × (get_elem? views i ≡ some u))).
      ⊎_elim (λ (b : (j ≡ other) × (spent_view ≡ x)). subst (λ y. Disjoint (claims u) (claims y)) b.1 (away_none (claims u)))
      (λ (b : ((j ≡ id) × (both ≡ x)) ⊎ ((j ≢ id) × (j ≢ other) × (get_elem? views j ≡ some x))).
      ⊎_elim (λ (c : (i ≡ id) × (both ≡ u)). ⊎_elim (λ (d : (j ≡ id) × (both ≡ x)). absurd (ne (c.0 ∙ sym d.0)))
      (λ (d : (j ≢ id) × (j ≢ other) × (get_elem? views j ≡ some x)). subst (λ y. Disjoint (claims y) (claims x)) c.1 (away j x d.0 d.1 d.2)) b)
      (λ (c : (i ≢ id) × (i ≢ other) × (get_elem? views i ≡ some u)). ⊎_elim (λ (d : (j ≡ id) × (both ≡ x)). subst (λ y. Disjoint (claims u) (claims y)) d.1 (away_back (claims both) (claims u) (away i u c.0 c.1 c.2)))
      (λ (d : (j ≢ id) × (j ≢ other) × (get_elem? views j ≡ some x)). apart i j u x ne c.2 d.2) b) a) (joined_at views id other both j x atj)) (joined_at views id other both i u ati)

  pub join_keeps : (id : ℕ) (v : V) (other : ℕ) (w : V) → v.setting ≡ Some key → v.phase ≡ Free → w.phase ≡ Free → Joins Rule id v other w (after_join v w) spent_view
  join_keeps id v other w owned vfree wfree s r atv apart_ids set_at =
      let both : V = after_join v w in
      let atw : get_elem? s.views other ≡ some w = sym (set_else s.views id other both apart_ids) ∙ set_at in
      let one = r.each id v atv in
      let two = r.each other w atw in
      let away : Disjoint (claims v) (claims w) = r.apart id other v w (λ e. apart_ids (sym e)) atv atw in
      let views : List V = set s.views id both in
      let many : length (set views other spent_view) ≡ length s.views = length-set views other spent_view ∙ length-set s.views id both in
      let within = r.seated in
      let each : (j : ℕ) (u : V) → get_elem? views j ≡ some u → ViewInvariant key r.history r.holder j u = seats_stay key r.history r.history r.holder r.holder s.views id both r.each (λ j u ne k. k) record {
        prefix = prefix_longer v.seen w.seen r.history one.prefix two.prefix;
        phase = not_holding r.history r.holder id v.seen v.phase vfree one.phase;
        keyed = one.keyed;
        sound = met_sound r.history v w one.prefix two.prefix one.sound two.sound away;
        lineage = lineage_both v.setting w.setting v.levels w.levels v.children w.children one.lineage two.lineage;
        done = not_done key both owned;
      } in
      record {
        history = r.history;
        holder = r.holder;
        words = r.words;
        one_slot = r.one_slot;
        seated = omega (arith, many, within);
        lawful = r.lawful;
        small = r.small;
        home = r.home;
        each = seats_stay key r.history r.history r.holder r.holder views other spent_view each (λ j u ne k. k) record {
          prefix = (r.history, refl);
          phase = not_holding r.history r.holder other w.seen w.phase wfree two.phase;
          keyed = λ k given. absurd cc;
          sound = sound_none r.history;
          lineage = lineage_spent;
          done = λ e. (refl, refl);
        };
        apart = joined_apart s.views id other v w r.apart atv atw;
        claimed = join_claimed r.history s.views id other v w atv set_at r.claimed;
        descended = join_descended s.views id other v w atv set_at r.descended;
      }

  first_seat : (j : ℕ) (v : V) → get_elem? (opening_view key ∷ []) j ≡ some v → (j ≡ 0) × (opening_view key ≡ v)
  first_seat zero v at = (refl, some-injective (opening_view key) v at)
  first_seat (suc j) v at = absurd (some-ne-none v (sym at))

  pub open_keeps : (x : T) → stands x [] → setting x ≡ key → legal key [] → Rule (opening (0 ∷ 0 ∷ []) (Some x ∷ []) (opening_view key))
  open_keeps x st is lawful = record {
    history = [];
    holder = 0;
    words = refl;
    one_slot = refl;
    seated = omega arith;
    lawful = lawful;
    small = omega arith;
    home = λ e. (x, refl, st, is);
    each = λ j v at. let here = first_seat j v at in subst (λ u. ViewInvariant key [] 0 j u) here.1 record { prefix = ([], refl); phase = λ e. omega arith; keyed = λ k given. cc; sound = sound_none []; lineage = lineage_first key; done = not_done key (opening_view key) refl };
    apart = λ i j v w ne a b. absurd (ne ((first_seat i v a).0 ∙ sym (first_seat j w b).0));
    claimed = refl;
    descended = λ n. omega arith;
  }
