-- Counters and their bits.
use Rattle.std.proofs.Common.{◌≡◌, if◌then◌else◌, ℕ, ◌+◌, ◌-◌, ◌/◌, ◌<◌, ◌≤◌, ◌==◌, Bool, cond, List, ◌++◌, length, map, take, drop, set, get_or, nat_lt, refl, sym, ap, ap₂, ◌∙◌, subst, arith, inl, inr}
use Rattle.std.proofs.lemmas.Bool.{cases_eq}
use Rattle.std.proofs.lemmas.List.{get_or-set_same, get_or-set_other, length-map, map-set}
use Rattle.std.proofs.lemmas.List.Sums.{count_by_more_yes, count_by_more_no, sum_by-take-drop}
use Rattle.std.proofs.lemmas.Bool.{eq-eqb, ne_eqb, cond-true, cond-false}
use Rattle.std.proofs.Math.Seq.{map-set_same}
use Rattle.query_normal.specs.Bits.{flat_bits}
use Rattle.query_normal.proofs.BitLemmas.{length-flat_bits}
use Rattle.std.proofs.Math.Seq.{take-append_seam}
use Rattle.q_base.specs.Positions.{positions_of}
use Rattle.query_normal.specs.declared.key.KeyShape.{KeyShape}
use Rattle.query_normal.specs.Keys.{key_text}
use Rattle.query_normal.specs.Pages.{positions}
use Rattle.expiring_filter.specs.Counts.{times, IsFlat}

-- a vector behind a write of its whole
pub whole_written : {X : Type 0} (old lent new : List X) (len : ℕ) → lent ≡ old → length lent ≡ len → length new ≡ length lent → take len (new ++ drop (length new) old) ≡ new
whole_written {X} old lent new len value long same =
    let size : len ≡ length new = sym long ∙ sym same in
    ap (λ (n : ℕ). take n (new ++ drop (length new) old)) size ∙ take-append_seam new (drop (length new) old)

-- the positions of a key, as the code has them
pub positions_are : (key : KeyShape) (text key_positions : List ℕ) (log2_bits hashes : ℕ) → key_positions ≡ positions_of text log2_bits hashes → text ≡ key_text key → key_positions ≡ positions key log2_bits hashes
positions_are key text key_positions log2_bits hashes made kept = made ∙ ap (λ (t : List ℕ). positions_of t log2_bits hashes) kept

-- there is a byte for a counter
pub byte_within : (counters bytes : List ℕ) (j : ℕ) → IsFlat counters bytes → j < length counters → j / 8 < length bytes
byte_within counters bytes j flat within =
    let size = length-flat_bits bytes in
    let long = length-map counters (λ n. nat_lt 0 n) in
    let same : length (flat_bits bytes) ≡ length (map (λ n. nat_lt 0 n) counters) = ap length flat in
    omega (arith, size, long, same)

-- a counter written, with its bit
pub flat_written : (counters before after : List ℕ) (j n : ℕ) (bit : Bool) → IsFlat counters before → nat_lt 0 n ≡ bit → flat_bits after ≡ set (flat_bits before) j bit →
    IsFlat (set counters j n) after
flat_written counters before after j n bit flat test written =
    written
    ∙ ap₂ (λ (xs : List Bool) (b : Bool). set xs j b) flat (sym test)
    ∙ sym (map-set (λ m. nat_lt 0 m) counters j n)

-- a counter written that stays above 0
pub flat_kept : (counters bytes : List ℕ) (j n : ℕ) → IsFlat counters bytes → nat_lt 0 n ≡ nat_lt 0 (get_or counters j 0) → IsFlat (set counters j n) bytes
flat_kept counters bytes j n flat test = flat ∙ sym (map-set_same (λ m. nat_lt 0 m) counters j n 0 test)

-- one position more
pub times_next : (j i : ℕ) (positions : List ℕ) → i < length positions →
    times j (take (i + 1) positions) ≡ times j (take i positions) + (if get_or positions i 0 == j then 1 else 0)
times_next j i positions within =
    elim (cases_eq (get_or positions i 0) j) [
      | inl same ↦ (
          count_by_more_yes (λ p. p == j) positions i 0 within (eq-eqb _ _ same)
          ∙ ap (λ n. times j (take i positions) + n) (sym (cond-true _ 1 0 (eq-eqb (get_or positions i 0) j same))))
      | inr other ↦ (
          count_by_more_no (λ p. p == j) positions i 0 within (ne_eqb _ _ other)
          ∙ (let none : ◌≡◌ {A = ℕ} (cond (get_or positions i 0 == j) 1 0) 0 = cond-false _ 1 0 (ne_eqb (get_or positions i 0) j other) in omega (arith, none)))
    ]

-- no more in a part
times_take_le : (j i : ℕ) (positions : List ℕ) → times j (take i positions) ≤ times j positions
times_take_le j i positions =
    let split : times j (take i positions) + times j (drop i positions) ≡ times j positions = sum_by-take-drop (λ (p : ℕ). cond (p == j) 1 0) positions i in
    omega (arith, split)

-- the current position is among the positions
pub times_at : (i : ℕ) (positions : List ℕ) → i < length positions → times (get_or positions i 0) (take i positions) + 1 ≤ times (get_or positions i 0) positions
times_at i positions within =
    let more = count_by_more_yes (λ p. p == get_or positions i 0) positions i 0 within (eq-eqb _ _ refl) in
    let part = times_take_le (get_or positions i 0) (i + 1) positions in
    omega (arith, more, part)

-- one position counted
pub raised_more : (counters positions : List ℕ) (initial i j : ℕ) → i < length positions → j < length counters → get_or counters j 0 ≡ initial + times j (take i positions) →
    get_or (set counters (get_or positions i 0) (get_or counters (get_or positions i 0) 0 + 1)) j 0 ≡ initial + times j (take (i + 1) positions)
raised_more counters positions initial i j within low before =
    let more = times_next j i positions within in
    elim (cases_eq (get_or positions i 0) j) [
      | inl same ↦ (
          let one : ◌≡◌ {A = ℕ} (if get_or positions i 0 == j then 1 else 0) 1 = cond-true _ 1 0 (eq-eqb (get_or positions i 0) j same) in
          ap (λ (p : ℕ). get_or (set counters p (get_or counters p 0 + 1)) j 0) same
          ∙ get_or-set_same counters j _ 0 low
          ∙ (let e : get_or counters j 0 + 1 ≡ initial + times j (take (i + 1) positions) = omega (arith, more, one, before) in e))
      | inr other ↦ (
          let none : ◌≡◌ {A = ℕ} (if get_or positions i 0 == j then 1 else 0) 0 = cond-false _ 1 0 (ne_eqb (get_or positions i 0) j other) in
          get_or-set_other counters (get_or positions i 0) j _ 0 (λ e. other (sym e))
          ∙ (let e : get_or counters j 0 ≡ initial + times j (take (i + 1) positions) = omega (arith, more, none, before) in e))
    ]

-- one position taken back
pub lowered_more : (counters positions : List ℕ) (initial i j : ℕ) → i < length positions → j < length counters → 0 < get_or counters (get_or positions i 0) 0 →
    get_or counters j 0 + times j (take i positions) ≡ initial →
    get_or (set counters (get_or positions i 0) (get_or counters (get_or positions i 0) 0 - 1)) j 0 + times j (take (i + 1) positions) ≡ initial
lowered_more counters positions initial i j within low some before =
    let more = times_next j i positions within in
    elim (cases_eq (get_or positions i 0) j) [
      | inl same ↦ (
          let one : ◌≡◌ {A = ℕ} (if get_or positions i 0 == j then 1 else 0) 1 = cond-true _ 1 0 (eq-eqb (get_or positions i 0) j same) in
          let counted : get_or (set counters (get_or positions i 0) (get_or counters (get_or positions i 0) 0 - 1)) j 0 ≡ get_or counters j 0 - 1 =
          ap (λ (p : ℕ). get_or (set counters p (get_or counters p 0 - 1)) j 0) same ∙ get_or-set_same counters j _ 0 low in
          let there : 0 < get_or counters j 0 = subst (λ (p : ℕ). 0 < get_or counters p 0) same some in
          omega (arith, more, one, before, counted, there))
      | inr other ↦ (
          let none : ◌≡◌ {A = ℕ} (if get_or positions i 0 == j then 1 else 0) 0 = cond-false _ 1 0 (ne_eqb (get_or positions i 0) j other) in
          let counted = get_or-set_other counters (get_or positions i 0) j (get_or counters (get_or positions i 0) 0 - 1) 0 (λ e. other (sym e)) in
          omega (arith, more, none, before, counted))
    ]
