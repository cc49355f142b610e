-- Unescaping, byte by byte.
use Rattle.std.proofs.Common.{◌≡◌, ℕ, zero, suc, ◌+◌, ◌-◌, ◌<◌, List, [], ◌∷◌, ◌++◌, length, get_or, take, drop, IsUtf8, refl, sym, ap, ◌∙◌, subst, arith, append_assoc, sub-one}
use Rattle.std.proofs.lemmas.List.{drop_more}
use Rattle.query_lang.specs.Quoted.{unescaped, unescaped_byte}
use Rattle.query_lang.proofs.QuotedLemmas.{slice_to_end}
use Rattle.query_lang.proofs.Utf8Lemmas.{IsUtf8-unescaped}

inside_read : (n b : ℕ) (bs : List ℕ) → 0 < n → unescaped n (b ∷ bs) ≡ unescaped (n - 1) bs
inside_read zero b bs some = absurd (omega arith)
inside_read (suc n) b bs some = rw sub-one refl

inside_rest : (n b : ℕ) (bs : List ℕ) → 0 < n → drop n (b ∷ bs) ≡ drop (n - 1) bs
inside_rest zero b bs some = absurd (omega arith)
inside_rest (suc n) b bs some = rw sub-one refl

-- a byte inside an escape is passed over
pub read_inside : (whole out xs : List ℕ) (i n m : ℕ) → i < length xs → 0 < n → m ≡ n - 1
    → whole ≡ out ++ unescaped n (drop i xs) → whole ≡ out ++ unescaped m (drop (i + 1) xs)
read_inside whole out xs i n m below some less before =
    before ∙ ap (λ r. out ++ r) (ap (unescaped n) (drop_more xs i 0 below) ∙ inside_read n (get_or xs i 0) (drop (i + 1) xs) some ∙ ap (λ k. unescaped k (drop (i + 1) xs)) (sym less))

-- what follows the escape stays
pub utf8_inside : (out xs : List ℕ) (i n m : ℕ) → i < length xs → 0 < n → m ≡ n - 1
    → IsUtf8 (out ++ drop n (drop i xs)) → IsUtf8 (out ++ drop m (drop (i + 1) xs))
utf8_inside out xs i n m below some less utf8 =
    subst (λ r. IsUtf8 (out ++ r)) (ap (drop n) (drop_more xs i 0 below) ∙ inside_rest n (get_or xs i 0) (drop (i + 1) xs) some ∙ ap (λ k. drop k (drop (i + 1) xs)) (sym less)) utf8

-- a byte that is read on its own
pub read_byte : (whole out xs : List ℕ) (i n : ℕ) → i < length xs → n ≡ 0
    → whole ≡ out ++ unescaped n (drop i xs)
    → let p = unescaped_byte (get_or xs i 0) (drop (i + 1) xs) in whole ≡ (out ++ p.0 ∷ []) ++ unescaped p.1 (drop (i + 1) xs)
read_byte whole out xs i n below none before =
    let p = unescaped_byte (get_or xs i 0) (drop (i + 1) xs) in
    before ∙ ap (λ k. out ++ unescaped k (drop i xs)) none ∙ ap (λ r. out ++ unescaped 0 r) (drop_more xs i 0 below) ∙ sym (append_assoc out (p.0 ∷ []) (unescaped p.1 (drop (i + 1) xs)))

-- keeps the text UTF-8
pub utf8_byte : (out xs : List ℕ) (i n : ℕ) → i < length xs → n ≡ 0
    → IsUtf8 (out ++ drop n (drop i xs))
    → let p = unescaped_byte (get_or xs i 0) (drop (i + 1) xs) in IsUtf8 ((out ++ p.0 ∷ []) ++ drop p.1 (drop (i + 1) xs))
utf8_byte out xs i n below none utf8 =
    IsUtf8-unescaped out (get_or xs i 0) (drop (i + 1) xs)
    (subst (λ r. IsUtf8 (out ++ r)) (ap (λ k. drop k (drop i xs)) none ∙ drop_more xs i 0 below) utf8)

-- the byte that was read, of a slice of the same bytes
byte_is : (xs ys : List ℕ) (i : ℕ) → ys ≡ xs → i < length xs
    → unescaped_byte (get_or ys i 0) (take (length ys - (i + 1)) (drop (i + 1) ys)) ≡ unescaped_byte (get_or xs i 0) (drop (i + 1) xs)
byte_is xs ys i same below =
    ap (λ zs. unescaped_byte (get_or zs i 0) (take (length zs - (i + 1)) (drop (i + 1) zs))) same
    ∙ ap (unescaped_byte (get_or xs i 0)) (slice_to_end xs xs (i + 1) (omega arith) refl)

-- the text so far, with the byte that was read
pub read_turn : (whole out new xs ys : List ℕ) (i n m : ℕ) (p : ℕ × ℕ) → i < length xs → n ≡ 0 → ys ≡ xs
    → p ≡ unescaped_byte (get_or ys i 0) (take (length ys - (i + 1)) (drop (i + 1) ys)) → new ≡ out ++ p.0 ∷ [] → m ≡ p.1
    → whole ≡ out ++ unescaped n (drop i xs) → whole ≡ new ++ unescaped m (drop (i + 1) xs)
read_turn whole out new xs ys i n m p below none same found grown inside before =
    let p_is = found ∙ byte_is xs ys i same below in
    rw (grown, inside, p_is) (read_byte whole out xs i n below none before)

-- is UTF-8 with what follows
pub utf8_turn : (out new xs ys : List ℕ) (i n m : ℕ) (p : ℕ × ℕ) → i < length xs → n ≡ 0 → ys ≡ xs
    → p ≡ unescaped_byte (get_or ys i 0) (take (length ys - (i + 1)) (drop (i + 1) ys)) → new ≡ out ++ p.0 ∷ [] → m ≡ p.1
    → IsUtf8 (out ++ drop n (drop i xs)) → IsUtf8 (new ++ drop m (drop (i + 1) xs))
utf8_turn out new xs ys i n m p below none same found grown inside utf8 =
    let p_is = found ∙ byte_is xs ys i same below in
    rw (grown, inside, p_is) (utf8_byte out xs i n below none utf8)
