-- Believed. Entries with their places in a history, the first place being 0.
use Rattle.std.specs.Prelude.{◌≡◌, ◌≢◌, ℕ, ◌<◌, List, [], ◌∷◌, Some, slice_get}

-- P holds of each element
abbrev pub AllOf : {X : Type 0} → (X → Type 0) → List X → Type 0
AllOf P [] = Unit {0}
AllOf P (x ∷ xs) = P x × AllOf P xs

-- the history has each entry at its place
abbrev pub AreAt : {E : Type 0} → List E → List (ℕ × E) → Type 0
AreAt {E} history entries = AllOf (λ (p : ℕ × E). slice_get history p.0 ≡ Some p.1) entries

-- each place is greater than the one before it
abbrev pub Increasing : {E : Type 0} → List (ℕ × E) → Type 0
Increasing [] = Unit {0}
Increasing {E} (p ∷ ps) = AllOf (λ (q : ℕ × E). p.0 < q.0) ps × Increasing ps

-- no place occurs twice
abbrev pub Distinct : {E : Type 0} → List (ℕ × E) → Type 0
Distinct [] = Unit {0}
Distinct {E} (p ∷ ps) = AllOf (λ (q : ℕ × E). p.0 ≢ q.0) ps × Distinct ps

-- no place occurs in both
abbrev pub Disjoint : {E : Type 0} → List (ℕ × E) → List (ℕ × E) → Type 0
Disjoint {E} ps qs = AllOf (λ (p : ℕ × E). AllOf (λ (q : ℕ × E). p.0 ≢ q.0) qs) ps
