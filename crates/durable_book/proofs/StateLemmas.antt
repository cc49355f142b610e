-- What entries make of a state, as far as a store on a disk speaks of it.
use Rattle.std.proofs.Common.{◌≡◌, ℕ, ◌+◌, ◌≤◌, Bool, true, false, ◌&&◌, List, [], ◌∷◌, ◌++◌, length, nat_le, if◌then◌else◌, refl, sym, ap, ap₂, ◌∙◌, subst, append-nil, arith}
use Rattle.std.proofs.lemmas.Bool.{and_parts}
use Rattle.commit_book.specs.declared.change.Change.{Change}
use Rattle.commit_book.specs.Journal.{kept_with}
use Rattle.hub_model.specs.declared.entry.Condition.{Condition}
use Rattle.hub_model.specs.declared.entry.Entry.TheVariants.{Write, Match}
use Rattle.hub_model.specs.Helps.{helps_of}
use Rattle.hub_model.specs.Legal.{most_unmatched}
use Rattle.hub_model.specs.Setting.{Setting}
use Rattle.hub_model.specs.State.{State, at_moment}
use Rattle.hub_model.specs.Step.{found_now, is_met, is_accepted, with_change, after_all}

-- The second state has these changes more, the same copies and the same horizon.
pub record Adds (s t : State) (more : List Change) : Type 0 where
  pub journal : t.journal ≡ s.journal ++ more
  pub copies : t.copies ≡ s.copies
  pub horizon : t.horizon ≡ s.horizon

module _ (g : Setting) (s : State) (moment : ℕ) (change : Change) (condition : Condition) where
  -- behind a match or not, by whether too many commits come after the front
  abbrev behind : Bool → State
  behind crowded = after_all g s (if crowded then Match moment (length s.journal) ∷ [] else [])

  -- what the write makes of that
  abbrev left : Bool → Bool → State
  left crowded accepted = if accepted then with_change change (at_moment (behind crowded) moment) else at_moment (behind crowded) moment

  -- the state behind the write and what helps it, by both
  left_is : (crowded accepted : Bool) → is_accepted g s change condition ≡ accepted → nat_le (s.front + most_unmatched) (length s.journal) ≡ crowded →
      after_all g s (helps_of g s (Write moment change condition) ++ Write moment change condition ∷ []) ≡ left (accepted && crowded) accepted
  left_is crowded accepted takes full =
      ap (λ (b : Bool). after_all g s ((if b then Match moment (length s.journal) ∷ [] else []) ++ Write moment change condition ∷ [])) (ap₂ (λ (a b : Bool). a && b) takes full)
      ∙ written (accepted && crowded)
    where
      written : (b : Bool) → after_all g s ((if b then Match moment (length s.journal) ∷ [] else []) ++ Write moment change condition ∷ []) ≡ left b accepted
      written true = ap (λ (b : Bool). if b then with_change change (at_moment (behind true) moment) else at_moment (behind true) moment) takes
      written false = ap (λ (b : Bool). if b then with_change change (at_moment (behind false) moment) else at_moment (behind false) moment) takes

  -- an accepted change is one more
  pub adds-accepted : is_accepted g s change condition ≡ true → Adds s (after_all g s (helps_of g s (Write moment change condition) ++ Write moment change condition ∷ [])) (change ∷ [])
  adds-accepted accepted = by (nat_le (s.front + most_unmatched) (length s.journal)) refl
    where
      by : (crowded : Bool) → nat_le (s.front + most_unmatched) (length s.journal) ≡ crowded → Adds s (after_all g s (helps_of g s (Write moment change condition) ++ Write moment change condition ∷ [])) (change ∷ [])
      by true full = subst (λ (t : State). Adds s t (change ∷ [])) (sym (left_is true true accepted full)) (record { journal = refl; copies = refl; horizon = refl })
      by false full = subst (λ (t : State). Adds s t (change ∷ [])) (sym (left_is false true accepted full)) (record { journal = refl; copies = refl; horizon = refl })

  -- a refused one is none
  pub adds-refused : is_accepted g s change condition ≡ false → Adds s (after_all g s (helps_of g s (Write moment change condition) ++ Write moment change condition ∷ [])) []
  adds-refused refused =
      subst (λ (t : State). Adds s t []) (sym (left_is (nat_le (s.front + most_unmatched) (length s.journal)) false refused refl))
      (record { journal = sym (append-nil s.journal); copies = refl; horizon = refl })

  -- an accepted change is within the capacity
  pub fits-accepted : is_accepted g s change condition ≡ true → kept_with s.journal s.horizon change ≤ g.capacity
  fits-accepted accepted = least (kept_with s.journal s.horizon change) g.capacity ((and_parts (is_met condition (found_now s change) (length s.journal)) _ accepted).1)
    where
      least : (m n : ℕ) → nat_le m n ≡ true → m ≤ n
      least m n h = grind (arith, h)
