-- Bits as bytes, and bytes as bits.
use Rattle.std.proofs.Common.{◌≡◌, ℕ, zero, suc, nat_eq, lit<, ap₂, ◌+◌, ◌*◌, ◌/◌, ◌%◌, ◌^◌, ◌<◌, ◌≤◌, ◌==◌, Bool, true, false, if◌then◌else◌, List, [], ◌∷◌, length, take, drop, get_or, All, refl, ap, ◌∙◌, arith, Fits, w8, inl, inr}
use Rattle.std.specs.Int.{bit_at}
use Rattle.std.proofs.Math.Facts.{Fits-lt-pow}
use Rattle.std.proofs.lemmas.Grind.{get_or_default_zero}
use Rattle.std.proofs.Math.Nat.{pow-le-pow_right, pow-succ'}
use Rattle.std.proofs.lemmas.Bool.{cases_eq}
use Rattle.std.proofs.lemmas.List.{ext_get_or, length-take, get_or-take, get_or-drop}
use Rattle.std.proofs.lemmas.List.FromFn.{length-map-range_with_len, get_or-map-range_with_len}
use Rattle.std.proofs.lemmas.Nat.Bits.{bit_at-suc, bit_at-zero, bit_at-lt, bit_at_lowest, same_from_bits_below}
use Rattle.query_normal.specs.Bits.{is_bit_set, flat_bits}
use Rattle.query_normal.proofs.BitLemmas.{length-flat_bits, get_or-flat_bits}
use Rattle.flat_snapshot.specs.PageText.{number_of, bytes_of}

-- half of a number with its lowest bit
half_of : (bit : Bool) (n : ℕ) → ((if bit then 1 else 0) + 2 * n) / 2 ≡ n
half_of true n = omega arith
half_of false n = omega arith

-- a number with its lowest bit is below twice the bound
below_double : (bit : Bool) (n p : ℕ) → n < p → (if bit then 1 else 0) + 2 * n < 2 * p
below_double true n p h = omega arith
below_double false n p h = omega arith

-- a bit as a number, tested
tested_one : (bit : Bool) → ◌≡◌ {A = Bool} (nat_eq (if bit then 1 else 0) 1) bit
tested_one true = refl
tested_one false = refl

-- a bit of a number, tested and made a number again
one_again : (n : ℕ) → n < 2 → (if n == 1 then 1 else 0) ≡ n
one_again n h = elim (cases_eq n 1) [
  | inl one ↦ rw one
  | inr other ↦ (let none : n ≡ 0 = omega arith in rw none)
]

-- bit i of the number is bit i
pub bit_at-number_of : (bits : List Bool) (i : ℕ) → bit_at (number_of bits) i ≡ (if get_or bits i false then 1 else 0)
bit_at-number_of [] i = bit_at-zero i
bit_at-number_of (true ∷ bits) zero = bit_at_lowest (1 + 2 * number_of bits) ∙ (let n : ℕ = number_of bits in let e : (1 + 2 * n) % 2 ≡ 1 = omega arith in e)
bit_at-number_of (false ∷ bits) zero = bit_at_lowest (0 + 2 * number_of bits) ∙ (let n : ℕ = number_of bits in let e : (0 + 2 * n) % 2 ≡ 0 = omega arith in e)
bit_at-number_of (bit ∷ bits) (suc i) =
    bit_at-suc ((if bit then 1 else 0) + 2 * number_of bits) i
    ∙ ap (λ n. bit_at n i) (half_of bit (number_of bits))
    ∙ bit_at-number_of bits i

-- a number of bits is below a power of 2
pub number_of-lt : (bits : List Bool) → number_of bits < 2 ^ length bits
number_of-lt [] = lit< tt
number_of-lt (bit ∷ bits) =
    rw (pow-succ' 2 (length bits)) (below_double bit (number_of bits) (2 ^ length bits) (number_of-lt bits))

-- there is a byte for each eight bits
pub length-bytes_of : (bits : List Bool) → length (bytes_of bits) ≡ length bits / 8
unfolding bytes_of
length-bytes_of bits = length-map-range_with_len _ 0 (length bits / 8)

-- a byte
pub get_or-bytes_of : (bits : List Bool) (b d : ℕ) → b < length bits / 8 → get_or (bytes_of bits) b d ≡ number_of (take 8 (drop (8 * b) bits))
unfolding bytes_of
get_or-bytes_of bits b d within = get_or-map-range_with_len _ 0 (length bits / 8) b b d within (omega arith)

-- a bit of the bytes
pub is_bit_set-bytes_of : (bits : List Bool) (n j : ℕ) → length bits ≡ 8 * n → j < length bits → is_bit_set (bytes_of bits) j ≡ get_or bits j false
is_bit_set-bytes_of bits n j long within =
    let here : 8 * (j / 8) + j % 8 ≡ j = omega arith in
    ap (λ n. bit_at n (j % 8) == 1) (get_or-bytes_of bits (j / 8) 0 (omega arith))
    ∙ ap (λ n. n == 1) (bit_at-number_of (take 8 (drop (8 * (j / 8)) bits)) (j % 8))
    ∙ tested_one (get_or (take 8 (drop (8 * (j / 8)) bits)) (j % 8) false)
    ∙ get_or-take 8 (drop (8 * (j / 8)) bits) (j % 8) false (omega arith)
    ∙ get_or-drop (8 * (j / 8)) bits (j % 8) false
    ∙ ap (λ n. get_or bits n false) here

-- bits, there and back
pub flat_bits-bytes_of : (bits : List Bool) (n : ℕ) → length bits ≡ 8 * n → flat_bits (bytes_of bits) ≡ bits
flat_bits-bytes_of bits n long =
    let count = length-flat_bits (bytes_of bits) in
    let bytes = length-bytes_of bits in
    let same : length (flat_bits (bytes_of bits)) ≡ length bits = omega (arith, count, bytes) in
    ext_get_or false (flat_bits (bytes_of bits)) bits same
    (λ j within.
    get_or-flat_bits (bytes_of bits) j false (omega (arith, count))
    ∙ is_bit_set-bytes_of bits n j long (omega (arith, same)))

-- bit i of byte b
bit_again : (bytes : List ℕ) (b i : ℕ) → b < length bytes → i < 8 →
    bit_at (number_of (take 8 (drop (8 * b) (flat_bits bytes)))) i ≡ bit_at (get_or bytes b 0) i
bit_again bytes b i within low =
    let byte : (8 * b + i) / 8 ≡ b = omega arith in
    let bit : (8 * b + i) % 8 ≡ i = omega arith in
    let flag : ◌≡◌ {A = Bool} (get_or (take 8 (drop (8 * b) (flat_bits bytes))) i false) (bit_at (get_or bytes b 0) i == 1) =
    get_or-take 8 (drop (8 * b) (flat_bits bytes)) i false low
    ∙ get_or-drop (8 * b) (flat_bits bytes) i false
    ∙ get_or-flat_bits bytes (8 * b + i) false (omega arith)
    ∙ ap₂ (λ m n. bit_at (get_or bytes m 0) n == 1) byte bit in
    bit_at-number_of (take 8 (drop (8 * b) (flat_bits bytes))) i
    ∙ ap (λ t. if t then 1 else 0) flag
    ∙ one_again (bit_at (get_or bytes b 0) i) (bit_at-lt (get_or bytes b 0) i)

-- a byte, there and back
byte_again : (bytes : List ℕ) (b : ℕ) → b < length bytes → get_or bytes b 0 < 2 ^ 8 →
    number_of (take 8 (drop (8 * b) (flat_bits bytes))) ≡ get_or bytes b 0
byte_again bytes b within small =
    let few : length (take 8 (drop (8 * b) (flat_bits bytes))) ≤ 8 = rw (length-take 8 (drop (8 * b) (flat_bits bytes))) (omega arith) in
    let most : 2 ^ length (take 8 (drop (8 * b) (flat_bits bytes))) ≤ 2 ^ 8 = pow-le-pow_right (lit< tt) few in
    let low = number_of-lt (take 8 (drop (8 * b) (flat_bits bytes))) in
    same_from_bits_below 8 _ _ (omega (arith, most, low)) small (λ i h. bit_again bytes b i within h)

-- bytes, there and back
pub bytes_of-flat_bits : (bytes : List ℕ) → All (λ b. b < 2 ^ 8) bytes → bytes_of (flat_bits bytes) ≡ bytes
bytes_of-flat_bits bytes small =
    let count = length-flat_bits bytes in
    let made = length-bytes_of (flat_bits bytes) in
    let same : length (bytes_of (flat_bits bytes)) ≡ length bytes = omega (arith, count, made) in
    ext_get_or 0 (bytes_of (flat_bits bytes)) bytes same
    (λ b within.
    get_or-bytes_of (flat_bits bytes) b 0 (omega (arith, made))
    ∙ byte_again bytes b (omega (arith, same)) (small b 0 (omega (arith, same))))

-- what the type of bytes says, as the lemmas take it
pub all_small : (bytes : List ℕ) → ((i : ℕ) → Fits w8 (get_or bytes i 0)) → All (λ b. b < 2 ^ 8) bytes
all_small bytes fits k d within = rw (get_or_default_zero bytes k d within) (Fits-lt-pow (fits k))

-- each byte of bits is one
pub bytes_of-small : (bits : List Bool) → All (λ b. b < 2 ^ 8) (bytes_of bits)
bytes_of-small bits b d within =
    let few : length (take 8 (drop (8 * b) bits)) ≤ 8 = rw (length-take 8 (drop (8 * b) bits)) (omega arith) in
    let most : 2 ^ length (take 8 (drop (8 * b) bits)) ≤ 2 ^ 8 = pow-le-pow_right (lit< tt) few in
    let low = number_of-lt (take 8 (drop (8 * b) bits)) in
    rw (get_or-bytes_of bits b d (let count = length-bytes_of bits in omega (arith, count))) (omega (arith, most, low))
