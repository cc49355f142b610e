-- Facts on the positions of a text.
use Rattle.std.proofs.Common.{◌≡◌, ℕ, ◌+◌, ◌*◌, ◌%◌, ◌^◌, ◌<◌, ◌≤◌, ◌-◌, bit_and, lit<, List, [], ◌∷◌, ◌++◌, length, map, take, set, All, sym, ◌∙◌, ap, arith, pow_pos}
use Rattle.std.specs.List.{range_with_len}
use Rattle.std.proofs.Math.Nat.{mod-lt, mod-eq_of_lt, mod-add-mod, pow-le-pow_right, one-mul}
use Rattle.std.proofs.lemmas.Nat.{and_mask}
use Rattle.std.proofs.lemmas.List.Elements.{All-map}
use Rattle.std.proofs.lemmas.List.{take_more_set}
use Rattle.std.proofs.lemmas.List.FromFn.{map-range_with_len_more}
use Rattle.q_base.specs.Positions.{position}

-- the sum that position i begins with, at the first position
pub sum_first : (h1 h2 : ℕ) → h1 < 2 ^ 64 → h1 ≡ (h1 + 0 * h2) % 2 ^ 64
sum_first h1 h2 h = let e : h1 + 0 * h2 ≡ h1 = omega arith in sym (rw e (mod-eq_of_lt h))

-- one step further
pub sum_next : (h1 h2 at i : ℕ) → at ≡ (h1 + i * h2) % 2 ^ 64 → (at + h2) % 2 ^ 64 ≡ (h1 + (i + 1) * h2) % 2 ^ 64
sum_next h1 h2 at i e =
    let next : h1 + i * h2 + h2 ≡ h1 + (i + 1) * h2 = omega arith in
    ap (λ n. (n + h2) % 2 ^ 64) e ∙ mod-add-mod (h1 + i * h2) (2 ^ 64) h2 ∙ ap (λ n. n % 2 ^ 64) next

-- one position more
pub made_next : (log2_bits h1 h2 i p : ℕ) (values : List ℕ) → i < length values →
    take i values ≡ map (position log2_bits h1 h2) (range_with_len 0 i) → p ≡ position log2_bits h1 h2 i →
    take (i + 1) (set values i p) ≡ map (position log2_bits h1 h2) (range_with_len 0 (i + 1))
made_next log2_bits h1 h2 i p values within made e =
    take_more_set values i p within ∙ ap (λ xs. xs ++ p ∷ []) made
    ∙ ap (λ n. map (position log2_bits h1 h2) (range_with_len 0 i) ++ n ∷ []) e
    ∙ sym (map-range_with_len_more (position log2_bits h1 h2) 0 i i (omega arith))

-- each position is within the bits
pub all_within : (log2_bits h1 h2 : ℕ) (is : List ℕ) → All (λ p. p < 2 ^ log2_bits) (map (position log2_bits h1 h2) is)
all_within log2_bits h1 h2 is =
    All-map (λ p. p < 2 ^ log2_bits) (position log2_bits h1 h2) is (λ k d within. mod-lt _ (pow_pos log2_bits))

-- the low bits of a number, taken by the mask of them
pub low_bits : (n log2_bits : ℕ) → log2_bits ≤ 32 → bit_and n (1 * 2 ^ log2_bits % 2 ^ 64 - 1) ≡ n % 2 ^ log2_bits
low_bits n log2_bits few =
    let le : 2 ^ log2_bits ≤ 2 ^ 32 = pow-le-pow_right (lit< tt) few in
    let lt : 1 * 2 ^ log2_bits < 2 ^ 64 = omega arith in
    let e : 1 * 2 ^ log2_bits % 2 ^ 64 ≡ 2 ^ log2_bits = mod-eq_of_lt lt ∙ one-mul (2 ^ log2_bits) in
    ap (λ m. bit_and n (m - 1)) e ∙ and_mask n log2_bits
