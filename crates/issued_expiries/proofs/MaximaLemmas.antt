-- A step up the tree of maxima.
use Rattle.std.proofs.Common.{◌≡◌, ℕ, ◌+◌, ◌*◌, ◌/◌, ◌-◌, ◌%◌, ◌<◌, ◌≤◌, ◌↔◌, max, cond, eqb, List, length, get_or, sym, subst, arith, inl, inr}
use Rattle.std.proofs.lemmas.Bool.{cond-true, cond-false, cases_eq, cases_lt, eq-eqb, ne_eqb}
use Rattle.issued_expiries.specs.Maxima.{IsMaxima, IsAtMost}

-- the number at an odd index, or 0
abbrev pub alone : List ℕ → ℕ → ℕ → ℕ
alone tree test index = cond (eqb (test % 2) 1) (get_or tree index 0) 0

alone_odd : (tree : List ℕ) (test index : ℕ) → test % 2 ≡ 1 → alone tree test index ≡ get_or tree index 0
alone_odd tree test index odd = cond-true (eqb (test % 2) 1) (get_or tree index 0) 0 (eq-eqb (test % 2) 1 odd)

alone_even : (tree : List ℕ) (test index : ℕ) → (test % 2 ≡ 1 → ⊥) → alone tree test index ≡ 0
alone_even tree test index even = cond-false (eqb (test % 2) 1) (get_or tree index 0) 0 (ne_eqb (test % 2) 1 even)

-- that number is at most n where all are
alone_within : (tree : List ℕ) (test index low high n : ℕ) → IsAtMost tree low high n → (test % 2 ≡ 1 → low ≤ index) → (test % 2 ≡ 1 → index < high) → alone tree test index ≤ n
alone_within tree test index low high n all from below =
    elim (cases_eq (test % 2) 1) [
      | inl odd ↦ (let e = alone_odd tree test index odd in let b = all index (from odd) (below odd) in omega (arith, e, b))
      | inr even ↦ (let e = alone_even tree test index even in omega (arith, e))
    ]

-- the indexes above those of a range are at most n where the range is
up : (tree : List ℕ) (low high n : ℕ) → IsMaxima tree → 1 ≤ low → high ≤ length tree → IsAtMost tree low high n → IsAtMost tree ((low + 1) / 2) (high / 2) n
up tree low high n maxima least within all i from below =
    let one : 1 ≤ i = omega arith in
    let inside : 2 * i + 1 < length tree = omega arith in
    let not_gap : (i ≡ 0) → ⊥ = λ e. omega (arith, e) in
    let here = maxima.greater i one inside not_gap in
    let left = all (2 * i) (omega arith) (omega arith) in
    let right = all (2 * i + 1) (omega arith) (omega arith) in
    omega (arith, here, left, right)

-- an index is at most n where the index above it is
covered : (tree : List ℕ) (j n : ℕ) → IsMaxima tree → 1 ≤ j / 2 → 2 * (j / 2) + 1 < length tree → get_or tree (j / 2) 0 ≤ n → get_or tree j 0 ≤ n
covered tree j n maxima one inside above =
    let not_gap : (j / 2 ≡ 0) → ⊥ = λ e. omega (arith, e) in
    let here = maxima.greater (j / 2) one inside not_gap in
    elim (cases_eq j (2 * (j / 2))) [
      | inl even ↦ subst (λ (k : ℕ). get_or tree k 0 ≤ n) (sym even) (omega (arith, here, above))
      | inr other ↦ (let odd : 2 * (j / 2) + 1 ≡ j = omega (arith, other) in subst (λ (k : ℕ). get_or tree k 0 ≤ n) odd (omega (arith, here, above)))
    ]

-- a range is at most n where its single number is, and the indexes above the others
down : (tree : List ℕ) (low high n : ℕ) → IsMaxima tree → 1 ≤ low → low < high → high ≤ length tree →
    alone tree low low ≤ n → alone tree high (high - 1) ≤ n → IsAtMost tree ((low + 1) / 2) (high / 2) n → IsAtMost tree low high n
down tree low high n maxima least some within first last all j from below =
    elim (cases_lt (j / 2) ((low + 1) / 2)) [
      | inl early ↦ (
          let here : low ≡ j = omega arith in
          let odd : low % 2 ≡ 1 = omega arith in
          let e = alone_odd tree low low odd in
          subst (λ (k : ℕ). get_or tree k 0 ≤ n) here (omega (arith, e, first)))
      | inr late ↦ elim (cases_lt (j / 2) (high / 2)) [
        | inl inside ↦ covered tree j n maxima (omega arith) (omega arith) (all (j / 2) late inside)
        | inr past ↦ (
            let here : high - 1 ≡ j = omega arith in
            let odd : high % 2 ≡ 1 = omega arith in
            let e = alone_odd tree high (high - 1) odd in
            subst (λ (k : ℕ). get_or tree k 0 ≤ n) here (omega (arith, e, last)))
      ]
    ]

-- one step up
pub step_up : (tree : List ℕ) (low high n : ℕ) → IsMaxima tree → 1 ≤ low → low < high → high ≤ length tree →
    IsAtMost tree low high n ↔ ((alone tree low low ≤ n) × (alone tree high (high - 1) ≤ n) × IsAtMost tree ((low + 1) / 2) (high / 2) n)
step_up tree low high n maxima least some within = (
  λ all. (
    alone_within tree low low low high n all (λ _. omega arith) (λ _. some),
    alone_within tree high (high - 1) low high n all (λ _. omega arith) (λ _. omega arith),
    up tree low high n maxima least within all,
  ),
  λ parts. down tree low high n maxima least some within parts.0 parts.1 parts.2,
)

-- the greatest of three, as it was computed
pub joined : (so_far first last some greatest n : ℕ) → some ≡ max so_far first → greatest ≡ max some last → so_far ≤ n → first ≤ n → last ≤ n → greatest ≤ n
joined so_far first last some greatest n a b p q r = omega arith

pub parted : (so_far first last some greatest n : ℕ) → some ≡ max so_far first → greatest ≡ max some last → greatest ≤ n → (so_far ≤ n) × (first ≤ n) × (last ≤ n)
parted so_far first last some greatest n a b p = (omega arith, omega arith, omega arith)
