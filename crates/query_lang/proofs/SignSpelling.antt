-- Signs are read as they are written, and written as they are read.
use Rattle.std.proofs.Common.{◌≡◌, ℕ, suc, Bool, true, false, not, ◌&&◌, ◌==◌, List, [], ◌∷◌, ◌++◌, length, take, drop, if◌then◌else◌, Option, Some, None, refl, sym, ap, ◌∙◌, subst, arith, eqb-true}
use Rattle.std.proofs.lemmas.Bool.{ne_eqb, and_parts}
use Rattle.query_core.specs.declared.operator.Op.TheVariants.{Equal, Unequal, Less, AtMost, Greater, AtLeast}
use Rattle.query_lang.specs.Lexing.{sign_at, lexeme_at}
use Rattle.query_lang.specs.Spelling.{sign_text, ends_before}
use Rattle.query_lang.specs.Tokens.{sign, found}
use Rattle.query_lang.specs.declared.token.Sign.{Sign}
use Rattle.query_lang.specs.declared.token.Sign.TheVariants.{Compare, Open, Close, OpenList, CloseList, Comma, Dot}
use Rattle.query_lang.proofs.WordSpelling.{first, not_true}

-- a text with a byte is not empty
pub some_byte : (n : ℕ) → (suc n == 0) ≡ false
some_byte n = ne_eqb (suc n) 0 (λ e. omega arith)

-- a sign and its number of bytes, or none
abbrev at : Sign → ℕ → Option (Sign × ℕ)
at s n = Some (s, n)

abbrev no_sign : Option (Sign × ℕ)
no_sign = None

-- a sign before a text is found
pub sign_read : (s : Sign) (rest : List ℕ) → ends_before (sign s) rest ≡ true
    → lexeme_at (sign_text s ++ rest) ≡ found (sign s) (length (sign_text s ++ rest)) (sign_text s) rest
sign_read (Compare Unequal) rest longest = rw (some_byte (suc (length rest))) refl
sign_read (Compare AtMost) rest longest = rw (some_byte (suc (length rest))) refl
sign_read (Compare Less) rest longest = rw (some_byte (length rest), not_true (first rest == 61) longest) refl
sign_read (Compare AtLeast) rest longest = rw (some_byte (suc (length rest))) refl
sign_read (Compare Greater) rest longest = rw (some_byte (length rest), not_true (first rest == 61) longest) refl
sign_read s rest longest = rw (some_byte (length rest)) refl

-- what a sign is read from
pub record SignIs (b : ℕ) (bs : List ℕ) (s : Sign) (n : ℕ) : Type 0 where
  pub spelling : take n (b ∷ bs) ≡ sign_text s
  pub longest : ends_before (sign s) (drop n (b ∷ bs)) ≡ true

-- two bytes
two_bytes : (b c : ℕ) (bs : List ℕ) → first bs ≡ suc c → take 2 (b ∷ bs) ≡ b ∷ suc c ∷ []
two_bytes b c [] e = cc
two_bytes b c (d ∷ bs) e = ap (λ x. b ∷ x ∷ []) e

and_second : (a b : Bool) → a ≡ true → (a && b) ≡ false → b ≡ false
and_second true b e h = h
and_second false b e h = cc

module _ (b : ℕ) (bs : List ℕ) where
  -- a sign of one byte, before a rest that does not make it longer
  one_byte : (c : ℕ) (t : Sign) → sign_text t ≡ c ∷ [] → ends_before (sign t) bs ≡ true → (b == c) ≡ true → SignIs b bs t 1
  one_byte c t text longest hit = record { spelling = ap (λ x. x ∷ []) (eqb-true b c hit) ∙ sym text; longest = longest }

  -- one that a `=` would make longer
  short_byte : (c : ℕ) (t : Sign) → sign_text t ≡ c ∷ [] → ends_before (sign t) bs ≡ not (first bs == 61) → (b == c && first bs == 61) ≡ false → (b == c) ≡ true → SignIs b bs t 1
  short_byte c t text longest before hit = one_byte c t text (longest ∙ ap not (and_second (b == c) (first bs == 61) hit before)) hit

  -- a sign that ends in `=`
  with_equal : (c : ℕ) (t : Sign) → sign_text t ≡ c ∷ 61 ∷ [] → ends_before (sign t) (drop 2 (b ∷ bs)) ≡ true → (b == c && first bs == 61) ≡ true → SignIs b bs t 2
  with_equal c t text longest hit =
      let (one, two) = and_parts (b == c) (first bs == 61) hit in
      record { spelling = two_bytes b 60 bs (eqb-true (first bs) 61 two) ∙ ap (λ x. x ∷ 61 ∷ []) (eqb-true b c one) ∙ sym text; longest = longest }

  module _ (s : Sign) (n : ℕ) where
    sign_of : (t : Sign) (k : ℕ) → at t k ≡ at s n → SignIs b bs t k → SignIs b bs s n
    sign_of t k e is =
        let pair : ◌≡◌ {A = Sign × ℕ} (t, k) (s, n) = cc in
        let same : t ≡ s = ap (λ p. p.0) pair in
        let len : k ≡ n = ap (λ p. p.1) pair in
        subst (λ x. SignIs b bs x n) same (subst (λ x. SignIs b bs t x) len is)

    -- a test finds this sign, or the next test may find another
    by_test : (test : Bool) (t : Sign) (k : ℕ) (more : Option (Sign × ℕ)) → (if test then at t k else more) ≡ at s n → (test ≡ true → SignIs b bs t k)
        → (test ≡ false → more ≡ at s n → SignIs b bs s n) → SignIs b bs s n
    by_test true t k more e hit other = sign_of t k e (hit refl)
    by_test false t k more e hit other = other refl e

    -- what is read as a sign is written so
    pub sign_is : sign_at b (first bs) ≡ at s n → SignIs b bs s n
    sign_is e =
        by_test (b == 61) (Compare Equal) 1 _ e (one_byte 61 (Compare Equal) refl refl) (λ no e.
        by_test (b == 33 && first bs == 61) (Compare Unequal) 2 _ e (with_equal 33 (Compare Unequal) refl refl) (λ no e.
        by_test (b == 60 && first bs == 61) (Compare AtMost) 2 _ e (with_equal 60 (Compare AtMost) refl refl) (λ no e.
        by_test (b == 60) (Compare Less) 1 _ e (short_byte 60 (Compare Less) refl refl no) (λ no e.
        by_test (b == 62 && first bs == 61) (Compare AtLeast) 2 _ e (with_equal 62 (Compare AtLeast) refl refl) (λ no e.
        by_test (b == 62) (Compare Greater) 1 _ e (short_byte 62 (Compare Greater) refl refl no) (λ no e.
        by_test (b == 40) Open 1 _ e (one_byte 40 Open refl refl) (λ no e.
        by_test (b == 41) Close 1 _ e (one_byte 41 Close refl refl) (λ no e.
        by_test (b == 91) OpenList 1 _ e (one_byte 91 OpenList refl refl) (λ no e.
        by_test (b == 93) CloseList 1 _ e (one_byte 93 CloseList refl refl) (λ no e.
        by_test (b == 44) Comma 1 _ e (one_byte 44 Comma refl refl) (λ no e.
        by_test (b == 46) Dot 1 no_sign e (one_byte 46 Dot refl refl) (λ no e. cc))))))))))))
