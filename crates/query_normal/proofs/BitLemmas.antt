-- The bits of bytes, read one by one and written one by one.
use Rattle.std.proofs.Common.{◌≡◌, ◌≢◌, ℕ, ◌*◌, ◌/◌, ◌%◌, ◌^◌, ◌<◌, ◌==◌, Bool, true, false, List, length, set, get_or, sym, ap, ◌∙◌, arith, replicate, length-set, inl, inr, w8, bit_or, bit_and}
use Rattle.std.proofs.Math.Nat.{mod-eq_of_lt, one-mul}
use Rattle.std.proofs.Math.Pow.{pow-lt}
use Rattle.std.proofs.lemmas.Bool.{cases_eq, cases_lt}
use Rattle.std.specs.Int.{bit_at, bit_not}
use Rattle.std.proofs.lemmas.List.{ext_get_or, length-replicate, get_or-replicate, get_or_past, get_or-set_same, get_or-set_other}
use Rattle.std.proofs.lemmas.List.FromFn.{length-map-range_with_len, get_or-map-range_with_len}
use Rattle.std.proofs.lemmas.Nat.Bits.{bit_at_set_same, bit_at_set_other, bit_at_clear_same, bit_at_clear_other, bit_at-zero}
use Rattle.query_normal.specs.Bits.{is_bit_set, flat_bits}

-- there are eight bits of each byte
pub length-flat_bits : (bytes : List ℕ) → length (flat_bits bytes) ≡ 8 * length bytes
unfolding flat_bits
length-flat_bits bytes = length-map-range_with_len (is_bit_set bytes) 0 (8 * length bytes)

-- a bit, read from the list of them
pub get_or-flat_bits : (bytes : List ℕ) (j : ℕ) (d : Bool) → j < 8 * length bytes → get_or (flat_bits bytes) j d ≡ is_bit_set bytes j
unfolding flat_bits
get_or-flat_bits bytes j d within = get_or-map-range_with_len (is_bit_set bytes) 0 (8 * length bytes) j j d within (omega arith)

-- one bit of one byte was written
pub record WritesBit (before after index : ℕ) (value : Bool) : Type 0 where
  pub same : (bit_at after index == 1) ≡ value
  pub others : (i : ℕ) → i < 8 → i ≢ index → bit_at after i ≡ bit_at before i

-- the bit that was written
is_bit_set-written_same : (bytes : List ℕ) (index new : ℕ) (value : Bool) → index / 8 < length bytes →
    WritesBit (get_or bytes (index / 8) 0) new (index % 8) value → is_bit_set (set bytes (index / 8) new) index ≡ value
is_bit_set-written_same bytes index new value within written =
    ap (λ n. bit_at n (index % 8) == 1) (get_or-set_same bytes (index / 8) new 0 within) ∙ written.same

-- every other bit
is_bit_set-written_other : (bytes : List ℕ) (index new : ℕ) (value : Bool) → index / 8 < length bytes →
    WritesBit (get_or bytes (index / 8) 0) new (index % 8) value → (j : ℕ) → j ≢ index → is_bit_set (set bytes (index / 8) new) j ≡ is_bit_set bytes j
is_bit_set-written_other bytes index new value within written j other =
    elim (cases_eq (j / 8) (index / 8)) [
      | inl here ↦ (
          let far : j % 8 ≢ index % 8 = omega arith in
          ap (λ n. bit_at (get_or (set bytes (index / 8) new) n 0) (j % 8) == 1) here
          ∙ ap (λ n. bit_at n (j % 8) == 1) (get_or-set_same bytes (index / 8) new 0 within)
          ∙ ap (λ n. n == 1) (written.others (j % 8) (omega arith) far)
          ∙ ap (λ n. bit_at (get_or bytes n 0) (j % 8) == 1) (sym here))
      | inr far ↦ ap (λ n. bit_at n (j % 8) == 1) (get_or-set_other bytes (index / 8) (j / 8) new 0 far)
    ]

-- a bit at any index
is_bit_set-written : (bytes : List ℕ) (index new : ℕ) (value : Bool) → index / 8 < length bytes →
    WritesBit (get_or bytes (index / 8) 0) new (index % 8) value → (j : ℕ) → j < 8 * length bytes →
    is_bit_set (set bytes (index / 8) new) j ≡ get_or (set (flat_bits bytes) index value) j false
is_bit_set-written bytes index new value within written j low =
    let long = length-flat_bits bytes in
    elim (cases_eq j index) [
      | inl here ↦ (
          ap (λ n. is_bit_set (set bytes (index / 8) new) n) here
          ∙ is_bit_set-written_same bytes index new value within written
          ∙ sym (get_or-set_same (flat_bits bytes) index value false (omega (arith, long)))
          ∙ ap (λ n. get_or (set (flat_bits bytes) index value) n false) (sym here))
      | inr other ↦ (
          is_bit_set-written_other bytes index new value within written j other
          ∙ sym (get_or-flat_bits bytes j false low)
          ∙ sym (get_or-set_other (flat_bits bytes) index j value false other))
    ]

-- the bits after one was written
pub flat_bits-written : (bytes : List ℕ) (index new : ℕ) (value : Bool) → index / 8 < length bytes →
    WritesBit (get_or bytes (index / 8) 0) new (index % 8) value → flat_bits (set bytes (index / 8) new) ≡ set (flat_bits bytes) index value
flat_bits-written bytes index new value within written =
    ext_get_or false (flat_bits (set bytes (index / 8) new)) (set (flat_bits bytes) index value)
    (length-flat_bits (set bytes (index / 8) new) ∙ ap (λ n. 8 * n) (length-set bytes (index / 8) new) ∙ sym (length-flat_bits bytes)
    ∙ sym (length-set (flat_bits bytes) index value))
    (λ j low.
    let size = length-flat_bits (set bytes (index / 8) new) in
    let long = length-set bytes (index / 8) new in
    get_or-flat_bits (set bytes (index / 8) new) j false (omega (arith, size))
    ∙ is_bit_set-written bytes index new value within written j (omega (arith, size, long)))

-- `1 << k` in a byte
pub shifted_one : (k : ℕ) → k < 8 → 1 * 2 ^ k % 2 ^ 8 ≡ 2 ^ k
shifted_one k within =
    let below : 2 ^ k < 2 ^ 8 = pow-lt within in
    mod-eq_of_lt (let e : 1 * 2 ^ k ≡ 2 ^ k = omega arith in omega arith) ∙ one-mul (2 ^ k)

-- `byte | 1 << k`
pub sets_bit : (byte k : ℕ) → k < 8 → WritesBit byte (bit_or byte (1 * 2 ^ k % 2 ^ 8)) k true
sets_bit byte k within = record {
  same = ap (λ n. n == 1) (bit_at_set_same w8 byte k within);
  others = λ i low other. bit_at_set_other w8 byte k within i other;
}

-- `byte & !(1 << k)`
pub clears_bit : (byte k : ℕ) → k < 8 → WritesBit byte (bit_and byte (bit_not w8 (1 * 2 ^ k % 2 ^ 8))) k false
clears_bit byte k within = record {
  same = ap (λ n. n == 1) (bit_at_clear_same w8 byte k within);
  others = λ i low other. bit_at_clear_other w8 byte k within i low other;
}

-- zeros, read anywhere
zeros_read : (n i : ℕ) → ◌≡◌ {A = ℕ} (get_or (replicate n 0) i 0) 0
zeros_read n i =
    elim (cases_lt i n) [
      | inl within ↦ get_or-replicate n i 0 0 within
      | inr past ↦ (let long = length-replicate {A = ℕ} n 0 in get_or_past (replicate n 0) i 0 (omega (arith, long)))
    ]

-- no bit of zeros is set
pub is_bit_set-zeros : (n j : ℕ) → is_bit_set (replicate n 0) j ≡ false
is_bit_set-zeros n j = ap (λ m. bit_at m (j % 8) == 1) (zeros_read n (j / 8)) ∙ ap (λ m. m == 1) (bit_at-zero (j % 8))

-- the bits of zeros
pub flat_bits-zeros : (n : ℕ) → flat_bits (replicate n 0) ≡ replicate (8 * n) false
flat_bits-zeros n =
    let size = length-flat_bits (replicate n 0) in
    let long = length-replicate {A = ℕ} n 0 in
    ext_get_or false (flat_bits (replicate n 0)) (replicate (8 * n) false)
    (size ∙ ap (λ m. 8 * m) long ∙ sym (length-replicate (8 * n) false))
    (λ j low.
    get_or-flat_bits (replicate n 0) j false (omega (arith, size))
    ∙ is_bit_set-zeros n j
    ∙ sym (get_or-replicate (8 * n) j false false (omega (arith, size, long))))
