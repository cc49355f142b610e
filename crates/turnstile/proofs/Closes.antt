-- What follows from the turn word at the close.
use Rattle.std.proofs.Common.{◌≡◌, ◌≢◌, ℕ, zero, suc, ◌+◌, ◌<◌, List, [], ◌∷◌, length, slice_index, Option, Some, None, MatchOption, refl, sym, ap, ◌∙◌, subst, arith}
use mathlib.Core.Option.{some, some-injective, some-ne-none}
use mathlib.Core.Logic.{dite}
use native.Mathlib.Decide.{ℕ_discrete}
use lib.ListN.{get_elem?}
use Rattle.atomic_table.specs.Table.{State, Final, Seen}
use Rattle.turnstile.specs.declared.view.View.{View}
use Rattle.turnstile.specs.declared.view.Phase.{Phase}
use Rattle.turnstile.specs.declared.view.Phase.TheVariants.{Free, Taken, Known, Told}
use Rattle.turnstile.specs.Rule.{turn_word, InPhase, TableInvariant, HasAllSeats, IsWhole}
use Rattle.turnstile.specs.Closing.{IsHeld, IsFree, Closes}
use Rattle.turnstile.proofs.Lineages.{others_spent, only_whole}
use Rattle.turnstile.proofs.Steps.{nobody}

some_at : {A : Type 0} (l : List A) (i : ℕ) → i < length l → (a : A) × (get_elem? l i ≡ some a)
some_at [] i less = absurd (omega arith)
some_at (x ∷ xs) zero less = (x, refl)
some_at (x ∷ xs) (suc i) less = some_at xs i (omega arith)

index_at : (l : List ℕ) (i n : ℕ) → get_elem? l i ≡ some n → slice_index l i ≡ n
index_at [] i n e = absurd (some-ne-none n (sym e))
index_at (x ∷ xs) zero n e = some-injective x n e
index_at (x ∷ xs) (suc i) n e = index_at xs i n e

-- a word that is not 0 is 1, and names a seat
somebody : (n : ℕ) → turn_word n ≢ 0 → (turn_word n ≡ 1) × ((j : ℕ) × (n ≡ j + 1))
somebody zero ne = absurd (ne refl)
somebody (suc n) ne = (refl, (n, omega arith))

module _ {E : Type 0} where
  only_free : (h : List E) (n j : ℕ) (seen : List E) (p : Phase E) → n ≡ 0 → InPhase h n j seen p → p ≡ Free
  only_free h n j seen Free none q = refl
  only_free h n j seen (Taken found) none q = absurd (omega (arith, none, q.0))
  only_free h n j seen Known none q = absurd (omega (arith, none, q.0))
  only_free h n j seen Told none q = absurd (omega (arith, none, q.0))

  not_free : (h : List E) (n j : ℕ) (seen : List E) (p : Phase E) → n ≡ j + 1 → InPhase h n j seen p → p ≢ Free
  not_free h n j seen p here q is = let other : n ≢ j + 1 = subst (λ x. InPhase h n j seen x) is q in other here

module _ {T K E : Type 0} (setting : T → K) (legal : K → List E → Type 0) (stands : T → List E → Type 0) (key : K) (s : State (Option T) (View E K)) (k : TableInvariant setting legal stands key s) where
  word_is : slice_index s.words 0 ≡ turn_word k.holder
  word_is = ap (λ ws. slice_index ws 0) k.words

  pub is_held : slice_index s.words 0 ≢ 0 → IsHeld s.views × (slice_index s.words 0 ≡ 1)
  is_held ne =
      let it = somebody k.holder (λ e. ne (word_is ∙ e)) in
      let j : ℕ = it.1.0 in
      let here : k.holder ≡ j + 1 = it.1.1 in
      let seat = some_at s.views j (omega (arith, k.seated, here)) in ((j, seat.0, seat.1, not_free k.history k.holder j seat.0.seen seat.0.phase here (k.each j seat.0 seat.1).phase), word_is ∙ it.0)

  pub is_free : slice_index s.words 0 ≡ 0 → IsFree s.views
  is_free e j v at = only_free k.history k.holder j v.seen v.phase (nobody k.holder (sym word_is ∙ e)) (k.each j v at).phase

  pub at_home : slice_index s.words 0 ≡ 0 → (x : T) × (get_elem? s.homes 0 ≡ some (some (Some x))) × stands x k.history × (setting x ≡ key)
  at_home e = k.home (nobody k.holder (sym word_is ∙ e))

module _ {T K E : Type 0} (setting : T → K) (legal : K → List E → Type 0) (stands : T → List E → Type 0) (key : K) (s : State (Option T) (View E K)) (k : TableInvariant setting legal stands key s) (id : ℕ) (me : View E K) (at : get_elem? s.views id ≡ some me) (all : HasAllSeats me) where
  pub all_whole : IsWhole k.history me
  all_whole = only_whole s.views id me at k.descended (λ j v here. (k.each j v here).lineage) all k.history k.claimed (λ j v here. (k.each j v here).done)

  -- a turn that was never given is this seat's own
  pub own_held : IsHeld s.views → me.phase ≢ Free
  own_held held free = let j : ℕ = held.0 in
      let v : View E K = held.1 in
      dite (ℕ_discrete j id) (λ (e : j ≡ id). (let here : get_elem? s.views id ≡ some v = subst (λ n. get_elem? s.views n ≡ some v) e held.2 in
      let same : v ≡ me = some-injective v me (sym here ∙ at) in held.3 (ap (λ (u : View E K). u.phase) same ∙ free)))
      (λ (ne : j ≢ id). held.3 ((k.each j v held.2).done (others_spent s.views id me at k.descended (λ i w here. (k.each i w here).lineage) all j v ne held.2)).1)

-- What `close` answers, by the words and the slot that the table gave.
module _ {T K E : Type 0} (setting : T → K) (legal : K → List E → Type 0) (stands : T → List E → Type 0) (key : K) (id : ℕ) (me : View E K) (ws : List ℕ) (xs : List (Option T)) (word : ℕ) (slot : Option T) where
  pub closes_free : Final (Seen (TableInvariant setting legal stands key) id me) ws xs → get_elem? ws 0 ≡ some word → get_elem? xs 0 ≡ some slot → word ≡ 0 → Closes setting legal stands key id me slot
  closes_free final at_word at_slot none =
      let s = final.0 in
      let k : TableInvariant setting legal stands key s = final.1.0 in
      let first : slice_index s.words 0 ≡ 0 = ap (λ l. slice_index l 0) final.2 ∙ (index_at ws 0 word at_word ∙ none) in
      let home = at_home setting legal stands key s k first in
      let is : slot ≡ Some home.0 = some-injective slot (Some home.0) (sym at_slot ∙ final.4 0 (Some home.0) home.1) in
      record {
        last = s;
        kept = k;
        seated = final.1.1;
        answered = subst (λ o. MatchOption o (IsHeld s.views × (slice_index s.words 0 ≡ 1)) (λ x. IsFree s.views × (slice_index s.words 0 ≡ 0) × stands x k.history × (setting x ≡ key))) (sym is)
            (is_free setting legal stands key s k first, first, home.2, home.3);
        whole = λ all. all_whole setting legal stands key s k id me final.1.1 all;
        own = λ all. subst (λ o. MatchOption o (me.phase ≢ Free) (λ _. me.phase ≡ Free)) (sym is) (is_free setting legal stands key s k first id me final.1.1);
      }

  pub closes_held : Final (Seen (TableInvariant setting legal stands key) id me) ws xs → get_elem? ws 0 ≡ some word → word ≢ 0 → Closes setting legal stands key id me None
  closes_held final at_word some_turn =
      let s = final.0 in
      let k : TableInvariant setting legal stands key s = final.1.0 in
      let first : slice_index s.words 0 ≡ word = ap (λ l. slice_index l 0) final.2 ∙ index_at ws 0 word at_word in
      let held = is_held setting legal stands key s k (λ e. some_turn (sym first ∙ e)) in
      record { last = s; kept = k; seated = final.1.1; answered = held; whole = λ all. all_whole setting legal stands key s k id me final.1.1 all; own = λ all. own_held setting legal stands key s k id me final.1.1 all held.0 }
