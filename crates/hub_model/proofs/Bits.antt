-- The bits of a page are those of the recorded keys, and below the guard all.
use Rattle.std.proofs.Common.{◌≡◌, ℕ, ◌^◌, ◌<◌, ◌≤◌, ◌==◌, Bool, true, false, cond, List, [], ◌∷◌, map, length, replicate, if◌then◌else◌, refl, sym, ap, ◌∙◌, subst, inl, inr, arith}
use Rattle.std.specs.Prelude.{nat_lt, get_or, sum_by, count_by}
use Rattle.std.specs.List.{Contains, range_with_len, list_all}
use Rattle.std.proofs.Math.Nat.{mod-lt}
use Rattle.std.proofs.lemmas.Bool.{and_from, cases_lt, both_ways, ltb-true, lt-ltb, le-ltb, eqb-true, eq-eqb}
use Rattle.std.proofs.lemmas.List.{get_or_past, get_or-replicate, length-replicate}
use Rattle.std.proofs.lemmas.List.Elements.{Contains-append_right, Contains-append_cases}
use Rattle.std.proofs.lemmas.List.FromFn.{get_or-map-range_with_len, length-map-range_with_len}
use Rattle.std.proofs.lemmas.List.Sums.{sum_by-cons, get_or-le-sum_by}
use Rattle.std.proofs.lemmas.Nat.{pow_pos}
use Rattle.q_base.specs.Positions.{position, positions_of, first_hash, second_hash}
use Rattle.query_normal.specs.declared.key.KeyShape.{KeyShape}
use Rattle.query_normal.specs.Keys.{key_text}
use Rattle.query_normal.specs.Pages.{positions, is_set, page_holds}
use Rattle.hub_model.specs.Record.{IsRecorded, record_of, count_among, bits_of, page_bits, page_of}
use Rattle.hub_model.specs.Setting.{Setting}
use Rattle.hub_model.specs.State.{State}
use Rattle.hub_model.proofs.Copies.{only}
use Rattle.hub_model.proofs.Recorded.{record-listed}

-- a sum above 0 has a term above 0
term_above : {X : Type 0} (f : X → ℕ) (xs : List X) → 0 < sum_by f xs → (x : X) × Contains xs x × (0 < f x)
term_above f [] h = absurd (omega (arith, h))
term_above {X} f (x ∷ xs) h = elim (cases_lt 0 (f x)) [
  | inl some ↦ (x, (0, omega arith, refl), some)
  | inr none ↦ (
      let parts = sum_by-cons f x xs in
      let t = term_above f xs (omega (arith, h, parts, none)) in
      (t.0, Contains-append_right (x ∷ []) xs t.0 t.1, t.2))
]

-- and a term is not above its sum
term_within : {X : Type 0} (f : X → ℕ) (xs : List X) (x : X) → Contains xs x → f x ≤ sum_by f xs
term_within f xs x h = (let t = get_or-le-sum_by f xs h.0 x h.1 in subst (λ y. f y ≤ sum_by f xs) h.2 t)

one_if : (b : Bool) → 0 < cond b 1 0 → b ≡ true
one_if true h = refl
one_if false h = absurd (omega (arith, h))

if_one : (b : Bool) → b ≡ true → 0 < cond b 1 0
if_one true h = omega arith
if_one false h = cc

-- the positions of a list of keys
counted-from : (keys : List KeyShape) (log2_bits hashes j : ℕ) → 0 < count_among keys log2_bits hashes j → (key : KeyShape) × Contains keys key × Contains (positions key log2_bits hashes) j
counted-from keys log2_bits hashes j h =
    let k = term_above (λ key. count_by (λ p. p == j) (positions key log2_bits hashes)) keys h in
    let p = term_above (λ p. cond (p == j) 1 0) (positions k.0 log2_bits hashes) k.2 in
    let same : p.0 ≡ j = eqb-true p.0 j (one_if (p.0 == j) p.2) in
    (k.0, k.1, subst (λ (n : ℕ). Contains (positions k.0 log2_bits hashes) n) same p.1)

counted-to : (keys : List KeyShape) (log2_bits hashes j : ℕ) (key : KeyShape) → Contains keys key → Contains (positions key log2_bits hashes) j → 0 < count_among keys log2_bits hashes j
counted-to keys log2_bits hashes j key there stands =
    let some : 0 < cond (j == j) 1 0 = if_one (j == j) (eq-eqb j j refl) in
    let here = term_within (λ p. cond (p == j) 1 0) (positions key log2_bits hashes) j stands in
    let all = term_within (λ key. count_by (λ p. p == j) (positions key log2_bits hashes)) keys key there in
    omega (arith, some, here, all)

below_all : (f : ℕ → ℕ) (n : ℕ) (xs : List ℕ) (y : ℕ) → ((x : ℕ) → f x < n) → Contains (map f xs) y → y < n
below_all f n [] y below h = absurd (let k = h.1 in omega (arith, k))
below_all f n (x ∷ xs) y below h = elim (Contains-append_cases (f x ∷ []) (map f xs) y h) [
  | inl here ↦ subst (λ (m : ℕ). m < n) (only_number (f x) y here) (below x)
  | inr there ↦ below_all f n xs y below there
]
  where
    only_number : (a b : ℕ) → Contains (a ∷ []) b → a ≡ b
    only_number a b h = only a b h

-- a position is one of the bits
position_within : (key : KeyShape) (log2_bits hashes j : ℕ) → Contains (positions key log2_bits hashes) j → j < 2 ^ log2_bits
unfolding positions_of
position_within key log2_bits hashes j h = below_all (position log2_bits (first_hash (key_text key)) (second_hash (key_text key))) (2 ^ log2_bits) (range_with_len 0 hashes) j (λ x. mod-lt _ (pow_pos log2_bits)) h

abbrev bit_of : Setting → State → ℕ → Bool
bit_of g s j = nat_lt 0 (count_among (record_of s) g.log2_bits g.hashes j)

-- from the guard on the bits are those of the record, and below it all
bits-late : (g : Setting) (s : State) → g.guard ≤ s.clock → page_bits g s ≡ bits_of (record_of s) g.log2_bits g.hashes
bits-late g s late = ap (λ (b : Bool). if b then replicate (2 ^ g.log2_bits) true else bits_of (record_of s) g.log2_bits g.hashes) (le-ltb s.clock g.guard late)

bits-early : (g : Setting) (s : State) → s.clock < g.guard → page_bits g s ≡ replicate (2 ^ g.log2_bits) true
bits-early g s early = ap (λ (b : Bool). if b then replicate (2 ^ g.log2_bits) true else bits_of (record_of s) g.log2_bits g.hashes) (lt-ltb s.clock g.guard early)

length-record : (g : Setting) (s : State) → length (bits_of (record_of s) g.log2_bits g.hashes) ≡ 2 ^ g.log2_bits
length-record g s = length-map-range_with_len (bit_of g s) 0 (2 ^ g.log2_bits)

-- there is a bit for each position
pub length-page_bits : (g : Setting) (s : State) → length (page_bits g s) ≡ 2 ^ g.log2_bits
length-page_bits g s = elim (cases_lt s.clock g.guard) [
  | inl early ↦ ap length (bits-early g s early) ∙ length-replicate (2 ^ g.log2_bits) true
  | inr late ↦ ap length (bits-late g s late) ∙ length-record g s
]

-- a set bit is one of the page's
pub bit-within : (g : Setting) (s : State) (j : ℕ) → is_set (page_of g s) j ≡ true → j < 2 ^ g.log2_bits
bit-within g s j h = elim (cases_lt j (2 ^ g.log2_bits)) [
  | inl within ↦ within
  | inr past ↦ absurd (
      let size = length-page_bits g s in
      let none = get_or_past (page_bits g s) j false (omega (arith, size, past)) in
      both_ways (is_set (page_of g s) j) none h)
]

-- below the guard each bit is set
pub bit-early : (g : Setting) (s : State) (j : ℕ) → s.clock < g.guard → j < 2 ^ g.log2_bits → is_set (page_of g s) j ≡ true
bit-early g s j early within = ap (λ (bits : List Bool). get_or bits j false) (bits-early g s early) ∙ get_or-replicate (2 ^ g.log2_bits) j true false within

-- from it on a bit is that of the record
bit-late : (g : Setting) (s : State) (j : ℕ) → g.guard ≤ s.clock → j < 2 ^ g.log2_bits → is_set (page_of g s) j ≡ bit_of g s j
bit-late g s j late within = ap (λ (bits : List Bool). get_or bits j false) (bits-late g s late) ∙ get_or-map-range_with_len (bit_of g s) 0 (2 ^ g.log2_bits) j j false within (omega arith)

-- a set bit is of a recorded key
pub bit-from : (g : Setting) (s : State) (j : ℕ) → g.guard ≤ s.clock → is_set (page_of g s) j ≡ true → (key : KeyShape) × IsRecorded s key × Contains (positions key g.log2_bits g.hashes) j
bit-from g s j late h =
    let counted : bit_of g s j ≡ true = sym (bit-late g s j late (bit-within g s j h)) ∙ h in
    let k = counted-from (record_of s) g.log2_bits g.hashes j (ltb-true 0 (count_among (record_of s) g.log2_bits g.hashes j) counted) in
    (k.0, (record-listed s k.0).0 k.1, k.2)

-- and each position of a recorded key is set
pub bit-to : (g : Setting) (s : State) (j : ℕ) (key : KeyShape) → IsRecorded s key → Contains (positions key g.log2_bits g.hashes) j → is_set (page_of g s) j ≡ true
bit-to g s j key recorded stands =
    let within = position_within key g.log2_bits g.hashes j stands in
    elim (cases_lt s.clock g.guard) [
      | inl early ↦ bit-early g s j early within
      | inr late ↦ bit-late g s j late within ∙ lt-ltb 0 (count_among (record_of s) g.log2_bits g.hashes j) (counted-to (record_of s) g.log2_bits g.hashes j key ((record-listed s key).1 recorded) stands)
    ]

all_from : {X : Type 0} (p : X → Bool) (xs : List X) → ((x : X) → Contains xs x → p x ≡ true) → list_all p xs ≡ true
all_from p [] h = refl
all_from p (x ∷ xs) h = and_from (p x) (list_all p xs) (h x (0, omega arith, refl)) (all_from p xs (λ y k. h y (Contains-append_right (x ∷ []) xs y k)))

-- the page holds each recorded key
pub page_holds-recorded : (g : Setting) (s : State) (key : KeyShape) → IsRecorded s key → page_holds (page_of g s) key ≡ true
page_holds-recorded g s key recorded = all_from (is_set (page_of g s)) (positions key g.log2_bits g.hashes) (λ j stands. bit-to g s j key recorded stands)

-- and below the guard each key
pub page_holds-early : (g : Setting) (s : State) (key : KeyShape) → s.clock < g.guard → page_holds (page_of g s) key ≡ true
page_holds-early g s key early = all_from (is_set (page_of g s)) (positions key g.log2_bits g.hashes) (λ j stands. bit-early g s j early (position_within key g.log2_bits g.hashes j stands))
