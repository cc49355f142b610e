-- A sequence differs from an earlier value exactly where it takes a step.
use Rattle.std.proofs.Common.{◌≡◌, ◌≢◌, ◌⊎◌, ℕ, zero, suc, ◌-◌, ◌<◌, ◌≤◌, sym, ap, ◌∙◌, inl, inr, arith}
use Rattle.std.proofs.lemmas.Bool.{cases_eq}

-- any two values are equal or not
abbrev pub IsDecided : {X : Type 0} → (ℕ → X) → Type 0
IsDecided r = (n m : ℕ) → (r n ≡ r m) ⊎ (r n ≢ r m)

-- some value after index c, up to f, differs from that at c
abbrev pub Differs : {X : Type 0} → (ℕ → X) → ℕ → ℕ → Type 0
Differs r c f = (n : ℕ) × (c < n) × (n ≤ f) × (r n ≢ r c)

-- some value after index c, up to f, differs from the one before it
abbrev pub Moves : {X : Type 0} → (ℕ → X) → ℕ → ℕ → Type 0
Moves r c f = (n : ℕ) × (c < n) × (n ≤ f) × (r n ≢ r (n - 1))

-- the value at n differs, so that it, or one before it, moved
moved_by : {X : Type 0} (r : ℕ → X) → IsDecided r → (c n : ℕ) → c < n → r n ≢ r c → Moves r c n
moved_by r told c zero after other = absurd (omega (arith, after))
moved_by r told c (suc n) after other = elim (told (suc n) n) [
  | inl same ↦ elim (cases_eq c n) [
    | inl first ↦ absurd (other (same ∙ ap r (sym first)))
    | inr later ↦ (let m = moved_by r told c n (omega (arith, after, later)) (λ e. other (same ∙ e)) in (m.0, m.1, omega (arith, m.2), m.3))
  ]
  | inr moved ↦ (suc n, after, omega arith, λ e. moved (e ∙ ap r (let h : suc n - 1 ≡ n = omega arith in h)))
]

pub moves-from_differs : {X : Type 0} (r : ℕ → X) → IsDecided r → (c f : ℕ) → Differs r c f → Moves r c f
moves-from_differs r told c f d = let m = moved_by r told c d.0 d.1 d.3 in let upto = d.2 in (m.0, m.1, omega (arith, m.2, upto), m.3)

pub differs-from_moves : {X : Type 0} (r : ℕ → X) → IsDecided r → (c f : ℕ) → Moves r c f → Differs r c f
differs-from_moves r told c f m = elim (told m.0 c) [
  | inr other ↦ (m.0, m.1, m.2, other)
  | inl same ↦ elim (cases_eq c (m.0 - 1)) [
    | inl first ↦ absurd (m.3 (same ∙ ap r first))
    | inr later ↦ (let after = m.1 in let upto = m.2 in (m.0 - 1, omega (arith, after, later), omega (arith, after, upto), λ e. m.3 (same ∙ sym e)))
  ]
]
