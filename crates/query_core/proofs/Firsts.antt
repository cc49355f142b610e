-- The first of a list in order do not depend on what comes after them, or would be inserted there.
use Rattle.std.proofs.Common.{◌≡◌, ℕ, zero, suc, ◌<◌, List, [], ◌∷◌, ◌++◌, length, get_or, take, Bool, true, false, Ordering, inl, inr, refl, sym, ap, ◌∙◌, arith}
use Rattle.std.specs.Ordering.{is_lt}
use Rattle.std.specs.Cmp.{IsTotalOrder, IsStrictWeakOrder}
use Rattle.std.specs.List.{fold}
use Rattle.std.proofs.lemmas.Bool.{cases_Bool}
use Rattle.std.proofs.lemmas.Cmp.{tied_itself}
use Rattle.std.proofs.lemmas.List.{take-take}
use Rattle.std.proofs.lemmas.List.Sorted.{ranks_by}
use Rattle.query_core.specs.Window.{placed, in_order}
use Rattle.query_core.specs.Candidates.{IsPast}
use Rattle.query_core.proofs.Rising.{Under, Rises, in_order_rises, rises_in_order}

module _ {X : Type 0} (cmp : X → X → Ordering) where
  -- ---- the first of a list determine its first when one more is inserted

  take-head : (k : ℕ) (x : X) (xs : List X) → take k (x ∷ take k xs) ≡ take k (x ∷ xs)
  take-head zero x xs = refl
  take-head (suc k) x xs = ap (λ l. x ∷ l) (take-take k (suc k) xs (omega arith))

  take-placed : (k : ℕ) (new : X) (xs : List X) → take k (placed cmp (take k xs) new) ≡ take k (placed cmp xs new)
  take-placed zero new xs = refl
  take-placed (suc k) new [] = refl
  take-placed (suc k) new (x ∷ xs) =
      elim (cases_Bool (is_lt (cmp new x))) [
        | inl e ↦ rw e (ap (λ l. new ∷ l) (take-head k x xs))
        | inr e ↦ rw e (ap (λ l. x ∷ l) (take-placed k new xs))
      ]

  pub placed_alike : (k : ℕ) (new : X) (xs ys : List X) → take k xs ≡ take k ys → take k (placed cmp xs new) ≡ take k (placed cmp ys new)
  placed_alike k new xs ys h = sym (take-placed k new xs) ∙ ap (λ l. take k (placed cmp l new)) h ∙ take-placed k new ys

  fold-push : (xs ys : List X) (new : X) → fold (placed cmp) ys (xs ++ new ∷ []) ≡ placed cmp (fold (placed cmp) ys xs) new
  fold-push [] ys new = refl
  fold-push (x ∷ xs) ys new = fold-push xs (placed cmp ys x) new

  -- one more item is inserted into the items in order
  pub in_order-push : (xs : List X) (new : X) → in_order cmp (xs ++ new ∷ []) ≡ placed cmp (in_order cmp xs) new
  in_order-push xs new = fold-push xs [] new

  -- where two lists in order have the same first, so they have with one more item
  pub push_alike : (k : ℕ) (new : X) (xs ys : List X) → take k (in_order cmp xs) ≡ take k (in_order cmp ys) → take k (in_order cmp (xs ++ new ∷ [])) ≡ take k (in_order cmp (ys ++ new ∷ []))
  push_alike k new xs ys h =
      ap (take k) (in_order-push xs new) ∙ placed_alike k new (in_order cmp xs) (in_order cmp ys) h ∙ sym (ap (take k) (in_order-push ys new))

module _ {X : Type 0} (cmp : X → X → Ordering) (total : IsTotalOrder cmp) where
  abbrev less : X → X → Bool
  less x y = is_lt (cmp x y)

  ranks : IsStrictWeakOrder less
  ranks = ranks_by total (λ x. x)

  -- ---- the first of a list that rises

  under-take : (k : ℕ) (x : X) (xs : List X) → Under cmp total x xs → Under cmp total x (take k xs)
  under-take zero x xs u = tt
  under-take (suc k) x [] u = tt
  under-take (suc k) x (y ∷ ys) u = (u.0, under-take k x ys u.1)

  rises-take : (k : ℕ) (xs : List X) → Rises cmp total xs → Rises cmp total (take k xs)
  rises-take zero xs r = tt
  rises-take (suc k) [] r = tt
  rises-take (suc k) (x ∷ xs) r = (under-take k x xs r.0, rises-take k xs r.1)

  -- what rises stays when it is put in order
  pub in_order_same : (xs : List X) → Rises cmp total xs → in_order cmp xs ≡ xs
  in_order_same xs r = sym (rises_in_order cmp total xs xs r (λ z. refl))

  -- the first items in order rise
  pub first_rise : (k : ℕ) (xs : List X) → Rises cmp total (take k (in_order cmp xs))
  first_rise k xs = rises-take k (in_order cmp xs) (in_order_rises cmp total xs)

  -- ---- items that no first one is greater than

  abbrev Past : ℕ → X → List X → Type 0
  Past = IsPast cmp

  past_less : (k : ℕ) (y : X) (xs : List X) → Past (suc k) y xs → Past k y xs
  past_less zero y xs p = tt
  past_less (suc k) y [] p = p
  past_less (suc k) y (x ∷ xs) p = (p.0, past_less k y xs p.1)

  -- such an item does not come among the first
  pub past-placed : (k : ℕ) (y : X) (xs : List X) → Past k y xs → take k (placed cmp xs y) ≡ take k xs
  past-placed zero y xs p = refl
  past-placed (suc k) y [] p = absurd p
  past-placed (suc k) y (x ∷ xs) p = let e : less y x ≡ false = p.0 in rw e (ap (λ l. x ∷ l) (past-placed k y xs p.1))

  not_less_than : (y x new : X) → less y x ≡ false → less new x ≡ true → less y new ≡ false
  not_less_than y x new l m =
      elim (cases_Bool (less y new)) [
        | inl e ↦ absurd (let f = ranks.chain new y x (ranks.one_way y new e) l in cc)
        | inr e ↦ e
      ]

  -- and it stays such where more items are inserted
  pub past_stays : (k : ℕ) (y new : X) (xs : List X) → Past k y xs → Past k y (placed cmp xs new)
  past_stays zero y new xs p = tt
  past_stays (suc k) y new [] p = absurd p
  past_stays (suc k) y new (x ∷ xs) p =
      elim (cases_Bool (less new x)) [
        | inl e ↦ rw e (not_less_than y x new p.0 e, past_less k y (x ∷ xs) p)
        | inr e ↦ rw e (p.0, past_stays k y new xs p.1)
      ]

  -- so is one that is not less
  pub past_chain : (k : ℕ) (y z : X) (xs : List X) → less z y ≡ false → Past k y xs → Past k z xs
  past_chain zero y z xs l p = tt
  past_chain (suc k) y z [] l p = absurd p
  past_chain (suc k) y z (x ∷ xs) l p = (ranks.chain z y x l p.0, past_chain k y z xs l p.1)

  under_at : (x d : X) (xs : List X) (i : ℕ) → Under cmp total x xs → i < length xs → less (get_or xs i d) x ≡ false
  under_at x d [] i u l = absurd (omega arith)
  under_at x d (y ∷ ys) zero u l = u.0
  under_at x d (y ∷ ys) (suc i) u l = under_at x d ys i u.1 (omega arith)

  -- the last of a list that rises is such an item
  pub past_last : (xs : List X) (i k : ℕ) (d : X) → Rises cmp total xs → length xs ≡ suc i → k ≡ suc i → Past k (get_or xs i d) xs
  past_last [] i k d r l e = absurd (omega arith)
  past_last (x ∷ xs) i zero d r l e = tt
  past_last (x ∷ []) zero (suc k) d r l e = (ap is_lt (tied_itself total x), let z : k ≡ zero = omega arith in rw z tt)
  past_last (x ∷ []) (suc i) (suc k) d r l e = absurd (omega arith)
  past_last (x ∷ y ∷ ys) zero (suc k) d r l e = absurd (omega arith)
  past_last (x ∷ y ∷ ys) (suc i) (suc k) d r l e = (under_at x d (y ∷ ys) i r.0 (omega arith), past_last (y ∷ ys) i k d r.1 (omega arith) (omega arith))
