-- UTF-8 of texts that are cut at ASCII bytes, or in which an escape gives way to its byte.
use Rattle.std.proofs.Common.{◌≡◌, ℕ, zero, suc, ◌+◌, ◌-◌, ◌<◌, ◌≤◌, Bool, true, false, ◌||◌, ◌==◌, List, [], ◌∷◌, ◌++◌, length, get_or, drop, IsUtf8, refl, sym, ap, ◌∙◌, subst, ◌⊎◌, inl, inr, arith, append_assoc, lit<, length-append, take_at, drop_at}
use Rattle.std.proofs.lemmas.Bool.Decides.{nat_tests}
use Rattle.std.proofs.lemmas.Str.{IsUtf8-take, IsUtf8-drop, IsUtf8-append, IsUtf8-from_ascii, IsCharBoundary-before_ascii, IsCharBoundary-after_ascii}
use Rattle.std.proofs.Math.Seq.{get_or-append_seam}
use Rattle.query_lang.specs.Quoted.{Escape, decodes, cut, wrong, escape, escape_code, escape_second, escape_high, escape_low, unescaped_byte, byte_of_escape}

-- which way a test goes
pub tested : (t : Bool) → (t ≡ true) ⊎ (t ≡ false)
tested true = inl refl
tested false = inr refl

-- a text is UTF-8 on both sides of an ASCII byte
pub IsUtf8-split : (prefix rest : List ℕ) (b : ℕ) → b < 128 → IsUtf8 (prefix ++ b ∷ rest) → IsUtf8 prefix × IsUtf8 rest
IsUtf8-split prefix rest b ascii utf8 =
    let here : get_or (prefix ++ b ∷ rest) (length prefix) 0 < 128 = rw (get_or-append_seam prefix b rest 0) ascii in
    let below : length prefix < length (prefix ++ b ∷ rest) = omega (arith, length-append prefix (b ∷ rest)) in
    let behind : drop (length prefix + 1) (prefix ++ b ∷ rest) ≡ rest =
    ap (drop (length prefix + 1)) (sym (append_assoc prefix (b ∷ []) rest)) ∙ drop_at (prefix ++ b ∷ []) rest (length prefix + 1) (length-append prefix (b ∷ [])) in (
      subst IsUtf8 (take_at prefix (b ∷ rest) (length prefix) refl) (IsUtf8-take _ _ utf8 (IsCharBoundary-before_ascii _ _ below here)),
      subst IsUtf8 behind (IsUtf8-drop _ _ utf8 (IsCharBoundary-after_ascii _ _ utf8 below here)),
    )

ascii_at : (b i : ℕ) → b < 128 → get_or (b ∷ []) i 0 < 128
ascii_at b zero ascii = ascii
ascii_at b (suc i) ascii = lit< tt

-- one ASCII byte
ascii_byte : (b : ℕ) → b < 128 → IsUtf8 (b ∷ [])
ascii_byte b ascii = IsUtf8-from_ascii (b ∷ []) (λ i. ascii_at b i ascii)

-- an ASCII byte between two texts
pub IsUtf8-join : (prefix rest : List ℕ) (b : ℕ) → b < 128 → IsUtf8 prefix → IsUtf8 rest → IsUtf8 (prefix ++ b ∷ rest)
IsUtf8-join prefix rest b ascii before after = IsUtf8-append prefix (b ∷ rest) before (IsUtf8-append (b ∷ []) rest (ascii_byte b ascii) after)

low_decodes : (high : ℕ) (bs : List ℕ) (byte n : ℕ) → high ≤ 16 → escape_low high bs ≡ decodes byte n → (byte < 128) × (n ≡ 5) × (1 ≤ length bs) × (get_or bs 0 0 < 128)
low_decodes high [] byte n small e = cc
low_decodes high (b ∷ bs) byte n small e = (grind (arith, nat_tests), grind (arith, nat_tests), omega arith, grind (arith, nat_tests))

high_decodes : (bs : List ℕ) (byte n : ℕ) → escape_high bs ≡ decodes byte n → (byte < 128) × (n ≡ 5) × (2 ≤ length bs) × (get_or bs 1 0 < 128)
high_decodes [] byte n e = cc
high_decodes (b ∷ bs) byte n e =
    elim (tested (b == 48)) [
      | inl hit ↦ (let r = low_decodes 0 bs byte n (omega arith) (rw hit at e) in (r.0, r.1, omega (arith, r.2), r.3))
      | inr other ↦ elim (tested (b == 49)) [
        | inl hit ↦ (let r = low_decodes 16 bs byte n (omega arith) (rw (other, hit) at e) in (r.0, r.1, omega (arith, r.2), r.3))
        | inr none ↦ (let no = rw (other, none) at e in cc)
      ]
    ]

second_decodes : (bs : List ℕ) (byte n : ℕ) → escape_second bs ≡ decodes byte n → (byte < 128) × (n ≡ 5) × (3 ≤ length bs) × (get_or bs 2 0 < 128)
second_decodes [] byte n e = cc
second_decodes (b ∷ bs) byte n e =
    elim (tested (b == 48)) [
      | inl hit ↦ (let r = high_decodes bs byte n (rw hit at e) in (r.0, r.1, omega (arith, r.2), r.3))
      | inr none ↦ (let no = rw none at e in cc)
    ]

code_decodes : (bs : List ℕ) (byte n : ℕ) → escape_code bs ≡ decodes byte n → (byte < 128) × (n ≡ 5) × (4 ≤ length bs) × (get_or bs 3 0 < 128)
code_decodes [] byte n e = cc
code_decodes (b ∷ bs) byte n e =
    elim (tested (b == 48)) [
      | inl hit ↦ (let r = second_decodes bs byte n (rw hit at e) in (r.0, r.1, omega (arith, r.2), r.3))
      | inr none ↦ (let no = rw none at e in cc)
    ]

-- what an escape decodes to is ASCII, and so is its last byte
pub escape_decodes : (bs : List ℕ) (byte n : ℕ) → escape bs ≡ decodes byte n → (byte < 128) × (0 < n) × (n ≤ length bs) × (get_or bs (n - 1) 0 < 128)
escape_decodes [] byte n e = cc
escape_decodes (b ∷ bs) byte n e =
    elim (tested (b == 34 || b == 92)) [
      | inl hit ↦ (
          let short : decodes b 1 ≡ decodes byte n = rw hit at e in
          let byte_is : b ≡ byte = cc in
          let n_is : 1 ≡ n = cc in
          let ascii : b < 128 = grind (arith, nat_tests) in
          (omega arith, omega arith, omega arith, subst (λ k. get_or (b ∷ bs) (k - 1) 0 < 128) n_is ascii))
      | inr other ↦ elim (tested (b == 117)) [
        | inl hit ↦ (let r = code_decodes bs byte n (rw (other, hit) at e) in (r.0, omega (arith, r.1), omega (arith, r.1, r.2), rw r.1 r.3))
        | inr none ↦ (let no = rw (other, none) at e in cc)
      ]
    ]

-- after an escape the text continues as UTF-8
pub IsUtf8-after_escape : (bs : List ℕ) (byte n : ℕ) → IsUtf8 bs → escape bs ≡ decodes byte n → IsUtf8 (drop n bs)
IsUtf8-after_escape bs byte n utf8 e =
    let r = escape_decodes bs byte n e in
    let more : n - 1 + 1 ≡ n = omega (arith, r.1) in
    subst (λ k. IsUtf8 (drop k bs)) more (IsUtf8-drop bs (n - 1 + 1) utf8 (IsCharBoundary-after_ascii bs (n - 1) utf8 (omega (arith, r.1, r.2)) r.3))

-- the byte itself stays, and the rest with it
stays : (prefix : List ℕ) (b : ℕ) (bs : List ℕ) → IsUtf8 (prefix ++ b ∷ bs) → IsUtf8 ((prefix ++ b ∷ []) ++ drop 0 bs)
stays prefix b bs utf8 = subst IsUtf8 (sym (append_assoc prefix (b ∷ []) bs)) utf8

by_escape : (prefix : List ℕ) (b : ℕ) (bs : List ℕ) (e : Escape) → escape bs ≡ e → b < 128 → IsUtf8 (prefix ++ b ∷ bs)
    → IsUtf8 ((prefix ++ (byte_of_escape b e).0 ∷ []) ++ drop (byte_of_escape b e).1 bs)
by_escape prefix b bs (decodes byte n) found ascii utf8 =
    let parts = IsUtf8-split prefix bs b ascii utf8 in
    let small = (escape_decodes bs byte n found).0 in
    subst IsUtf8 (sym (append_assoc prefix (byte ∷ []) (drop n bs))) (IsUtf8-join prefix (drop n bs) byte small parts.0 (IsUtf8-after_escape bs byte n parts.1 found))
by_escape prefix b bs cut found ascii utf8 = stays prefix b bs utf8
by_escape prefix b bs wrong found ascii utf8 = stays prefix b bs utf8

-- a byte, or an escape, gives way to what it decodes to
pub IsUtf8-unescaped : (prefix : List ℕ) (b : ℕ) (bs : List ℕ) → IsUtf8 (prefix ++ b ∷ bs)
    → IsUtf8 ((prefix ++ (unescaped_byte b bs).0 ∷ []) ++ drop (unescaped_byte b bs).1 bs)
IsUtf8-unescaped prefix b bs utf8 =
    elim (tested (b == 92)) [
      | inl hit ↦ rw hit (by_escape prefix b bs (escape bs) refl (grind (arith, nat_tests)) utf8)
      | inr other ↦ rw other (stays prefix b bs utf8)
    ]
