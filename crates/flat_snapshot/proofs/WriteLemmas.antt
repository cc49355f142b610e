-- The text of a page in a buffer.
use Rattle.std.proofs.Common.{◌≡◌, ℕ, ◌+◌, ◌-◌, ◌*◌, ◌/◌, ◌%◌, ◌^◌, ◌<◌, ◌≤◌, Bool, true, false, List, ◌++◌, length, take, drop, set, get_or, replicate, refl, sym, ap, ap₂, ◌∙◌, arith, length-append, pow-add, lit<, bit_or}
use Rattle.std.proofs.Math.Nat.{pow-le-pow_right, mod-eq_of_lt, one-mul}
use Rattle.std.proofs.Math.Pow.{pow-lt}
use Rattle.std.proofs.lemmas.Nat.{or_of_8}
use Rattle.std.proofs.lemmas.List.Elements.{All-replicate, All-set}
use Rattle.std.proofs.Math.Seq.{take-append_seam, drop-append_seam}
use Rattle.std.proofs.lemmas.List.{append_assoc, drop-drop, set-append_left, set-append_right, get_or_append_left, get_or-append_right}
use borrow.Rule.Slice.PartMut.{put_mid}
use Rattle.query_normal.specs.Bits.{flat_bits}
use Rattle.query_normal.specs.Pages.{Page}
use Rattle.query_normal.proofs.BitLemmas.{flat_bits-zeros, flat_bits-written, sets_bit, shifted_one}
use Rattle.flat_snapshot.specs.PageText.{head_text, bytes_of, page_text}
use Rattle.flat_snapshot.proofs.ByteLemmas.{bytes_of-flat_bits, flat_bits-bytes_of, bytes_of-small, length-bytes_of}

-- a head has 30 bytes
pub length-head_text : (log2_bits hashes front commits moment : ℕ) → length (head_text log2_bits hashes front commits moment) ≡ 30
unfolding head_text
length-head_text log2_bits hashes front commits moment = refl

-- the bytes after a head of a known length
pub after_head : (head rest : List ℕ) (n : ℕ) → length head ≡ n → drop n (head ++ rest) ≡ rest
after_head head rest n long = ap (λ m. drop m (head ++ rest)) (sym long) ∙ drop-append_seam head rest

-- a head of a known length
pub head_again : (head rest : List ℕ) (n : ℕ) → length head ≡ n → take n (head ++ rest) ≡ head
head_again head rest n long = ap (λ m. take m (head ++ rest)) (sym long) ∙ take-append_seam head rest

-- bytes written after a head
pub put_behind : (head buffer bytes : List ℕ) (n k : ℕ) → length head ≡ n →
    put_mid n k (head ++ drop n buffer) bytes ≡ (head ++ bytes) ++ drop (n + k) buffer
put_behind head buffer bytes n k long =
    ap₂ (λ (front back : List ℕ). front ++ (bytes ++ back)) (head_again head (drop n buffer) n long)
    (ap (λ (xs : List ℕ). drop k xs) (after_head head (drop n buffer) n long) ∙ drop-drop k n buffer)
    ∙ sym (append_assoc head bytes (drop (n + k) buffer))

-- the same, in the form of the code
pub written_behind : (head buffer bytes before after : List ℕ) (k : ℕ) → length head ≡ 30 → before ≡ head ++ drop 30 buffer → after ≡ bytes →
    put_mid 30 (30 + k - 30) before after ≡ (head ++ bytes) ++ drop (30 + k) buffer
written_behind head buffer bytes before after k long was wrote =
    let n : ℕ = 30 + k - 30 in
    let e : 30 + k - 30 ≡ k = omega arith in
    ap (λ m. put_mid 30 m before after) e
    ∙ ap₂ (λ (xs ys : List ℕ). put_mid 30 k xs ys) was wrote
    ∙ put_behind head buffer bytes 30 k long

-- 2 ^ log2_bits bits are whole bytes
pub eights : (log2_bits : ℕ) → 3 ≤ log2_bits → 8 * (2 ^ log2_bits / 8) ≡ 2 ^ log2_bits
eights log2_bits least =
    let split : 3 + (log2_bits - 3) ≡ log2_bits = omega arith in
    let whole : 2 ^ log2_bits ≡ 8 * 2 ^ (log2_bits - 3) = ap (λ n. 2 ^ n) (sym split) ∙ (let e : 2 ^ (3 + (log2_bits - 3)) ≡ 2 ^ 3 * 2 ^ (log2_bits - 3) = pow-add 2 3 (log2_bits - 3) in e) in
    omega (arith, whole)

-- the bytes of a page without any bit
pub bytes_of-blank : (log2_bits : ℕ) → 3 ≤ log2_bits → bytes_of (replicate (2 ^ log2_bits) false) ≡ replicate (2 ^ log2_bits / 8) 0
bytes_of-blank log2_bits least =
    let n = 2 ^ log2_bits / 8 in
    ap bytes_of (ap (λ m. replicate m false) (sym (eights log2_bits least)) ∙ sym (flat_bits-zeros n))
    ∙ bytes_of-flat_bits (replicate n 0) (All-replicate (λ b. b < 2 ^ 8) n 0 (lit< tt))

-- `1 << log2_bits`
pub size_shifted : (log2_bits : ℕ) → log2_bits ≤ 22 → 1 * 2 ^ log2_bits % 2 ^ 64 ≡ 2 ^ log2_bits
size_shifted log2_bits most =
    let le : 2 ^ log2_bits ≤ 2 ^ 22 = pow-le-pow_right (lit< tt) most in
    mod-eq_of_lt (let e : 1 * 2 ^ log2_bits < 2 ^ 64 = omega arith in e) ∙ one-mul (2 ^ log2_bits)

-- one bit of the bytes of bits
pub set_byte : (bits : List Bool) (n position : ℕ) → length bits ≡ 8 * n → position < length bits →
    set (bytes_of bits) (position / 8) (bit_or (get_or (bytes_of bits) (position / 8) 0) (2 ^ (position % 8))) ≡ bytes_of (set bits position true)
set_byte bits n position long within =
    let count = length-bytes_of bits in
    let low : position / 8 < length (bytes_of bits) = omega (arith, count) in
    let old : ℕ = get_or (bytes_of bits) (position / 8) 0 in
    let shifted = shifted_one (position % 8) (omega arith) in
    let new_is = ap (λ m. bit_or (get_or (bytes_of bits) (position / 8) 0) m) (sym shifted) in
    let written = sets_bit (get_or (bytes_of bits) (position / 8) 0) (position % 8) (omega arith) in
    let power : 2 ^ (position % 8) < 2 ^ 8 = pow-lt (let rest : position % 8 < 8 = omega arith in rest) in
    let small = All-set (λ b. b < 2 ^ 8) (bytes_of bits) (position / 8) _ (or_of_8 _ _ (bytes_of-small bits (position / 8) 0 low) power) (bytes_of-small bits) in
    sym (bytes_of-flat_bits (set (bytes_of bits) (position / 8) (bit_or (get_or (bytes_of bits) (position / 8) 0) (2 ^ (position % 8)))) small)
    ∙ ap (λ m. bytes_of (flat_bits (set (bytes_of bits) (position / 8) m))) new_is
    ∙ ap bytes_of (flat_bits-written (bytes_of bits) position _ true low written ∙ ap (λ (xs : List Bool). set xs position true) (flat_bits-bytes_of bits n long))

-- one bit of a page at the start of a buffer
pub set_in_page : (head rest : List ℕ) (bits : List Bool) (n position : ℕ) → length head ≡ 30 → length bits ≡ 8 * n → position < length bits →
    set ((head ++ bytes_of bits) ++ rest) (30 + position / 8) (bit_or (get_or ((head ++ bytes_of bits) ++ rest) (30 + position / 8) 0) (2 ^ (position % 8)))
    ≡ (head ++ bytes_of (set bits position true)) ++ rest
set_in_page head rest bits n position long whole within =
    let count = length-bytes_of bits in
    let all = length-append head (bytes_of bits) in
    let low : 30 + position / 8 < length (head ++ bytes_of bits) = omega (arith, count, all, long) in
    let back : 30 + position / 8 - 30 ≡ position / 8 = omega arith in
    let read : ◌≡◌ {A = ℕ} (get_or ((head ++ bytes_of bits) ++ rest) (30 + position / 8) 0) (get_or (bytes_of bits) (position / 8) 0) =
    get_or_append_left (head ++ bytes_of bits) rest 0 (30 + position / 8) low
    ∙ get_or-append_right head (bytes_of bits) 30 (30 + position / 8) 0 long (omega arith)
    ∙ ap (λ i. get_or (bytes_of bits) i 0) back in
    ap (λ m. set ((head ++ bytes_of bits) ++ rest) (30 + position / 8) (bit_or m (2 ^ (position % 8)))) read
    ∙ set-append_left (head ++ bytes_of bits) rest (30 + position / 8) _ low
    ∙ ap (λ (xs : List ℕ). xs ++ rest) (
    set-append_right head (bytes_of bits) 30 (30 + position / 8) _ long (omega arith)
    ∙ ap (λ (i : ℕ). head ++ set (bytes_of bits) i (bit_or (get_or (bytes_of bits) (position / 8) 0) (2 ^ (position % 8)))) back
    ∙ ap (λ (xs : List ℕ). head ++ xs) (set_byte bits n position whole within))

-- the length of a page's text
pub length-page_text : (page : Page) (n : ℕ) → length page.bits ≡ 8 * n → length (page_text page) ≡ 30 + n
length-page_text page n whole =
    let head = length-head_text page.log2_bits page.hashes page.front page.commits page.moment in
    let count = length-bytes_of page.bits in
    let all = length-append (head_text page.log2_bits page.hashes page.front page.commits page.moment) (bytes_of page.bits) in
    omega (arith, head, count, all)
