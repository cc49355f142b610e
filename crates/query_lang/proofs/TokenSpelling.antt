-- What comes next in a text is a token as it is written, and the other way round.
use Rattle.std.proofs.Common.{◌≡◌, ℕ, zero, suc, ◌+◌, ◌<◌, Bool, true, false, not, ◌&&◌, ◌||◌, ◌==◌, List, [], ◌∷◌, ◌++◌, ◌⊎◌, ◌^◌, nat_lt, ltb-true, length, get_or, take, drop, ℤ, pos, Option, Some, None, refl, sym, ap, ◌∙◌, subst, inl, inr, arith, append_assoc, length-append, drop-drop, take_at, drop_at, eqb-true}
use Rattle.std.proofs.lemmas.Bool.Decides.{nat_tests}
use Rattle.std.proofs.lemmas.List.{take-append-drop}
use Rattle.std.specs.List.{prefix_len, list_all, flat_map}
use Rattle.std.proofs.lemmas.Fmt.{decimal_is_IsNumeral}
use Rattle.std.specs.Fmt.{decimal}
use Rattle.std.specs.Str.Parse.{IsNumeral, without_leading_sign, signed_digits_value}
use Rattle.query_core.specs.Print.{starts_word, quoted_byte, quoted as quoted_text}
use Rattle.query_core.specs.declared.operator.Op.TheVariants.{Equal}
use Rattle.query_lang.specs.Bytes.{is_blank, is_letter, is_digit, is_word_byte, after_blanks}
use Rattle.query_lang.specs.Lexing.{lexeme, lexeme_at, word_token, number_of_digits, number_token, minus_len, quoted_at, by_scan, by_sign, sign_at, fits}
use Rattle.query_lang.specs.Quoted.{QuotedScan, closed, open_end, bad, scan, unescaped}
use Rattle.query_lang.specs.Spelling.{spelled, word_text, IsToken, ends_before, Begins}
use Rattle.query_lang.specs.Tokens.{Token, word, name, quoted, number, bad_number, sign, found}
use Rattle.query_lang.specs.declared.token.Reserved.TheVariants.{And}
use Rattle.query_lang.specs.declared.token.Sign.{Sign}
use Rattle.query_lang.specs.declared.token.Sign.TheVariants.{Compare}
use Rattle.query_lang.proofs.NumberSpelling.{number_read, numeral_written, first_digit, first_append, at_number}
use Rattle.query_lang.proofs.NumeralLemmas.{numeral_run}
use Rattle.query_lang.proofs.QuotedSpelling.{scan_spelled, unescape_spelled, scan_written}
use Rattle.query_lang.proofs.QuotedLemmas.{scan_parts}
use Rattle.query_lang.proofs.SignSpelling.{sign_read, sign_is, some_byte}
use Rattle.query_lang.proofs.Utf8Lemmas.{tested}
use Rattle.query_lang.proofs.WordSpelling.{first, prefix_len-run, run_passes, run_stops, word_lexeme, at_word, word_read, word_starts, word_bytes, name_read, not_true, word_is, reserved_word, other_word}

-- ---- a token before a text

pub at_quote : (bs : List ℕ) → lexeme_at (34 ∷ bs) ≡ quoted_at (34 ∷ bs)
at_quote bs = rw (some_byte (length bs)) refl

-- a text in quotes
quoted_read : (s rest : List ℕ) → lexeme_at (quoted_text s ++ rest) ≡ found (quoted s) (length (quoted_text s ++ rest)) (quoted_text s) rest
quoted_read s rest =
    let body = flat_map quoted_byte s in
    let bytes = quoted_text s ++ rest in
    let behind : drop 1 bytes ≡ body ++ 34 ∷ rest = append_assoc body (34 ∷ []) rest in
    let closes : scan 0 (drop 1 bytes) ≡ closed body = ap (scan 0) behind ∙ scan_spelled s rest in
    let len : length (quoted_text s) ≡ length body + 2 = omega (arith, length-append body (34 ∷ [])) in
    let prefix : take (length body + 2) bytes ≡ quoted_text s = take_at (quoted_text s) rest (length body + 2) len in
    let left : drop (length body + 2) bytes ≡ rest = drop_at (quoted_text s) rest (length body + 2) len in
    at_quote ((body ++ 34 ∷ []) ++ rest) ∙ ap (by_scan bytes) closes
    ∙ ap (λ k. found (quoted k) (length bytes) (take (length body + 2) bytes) (drop (length body + 2) bytes)) (unescape_spelled s)
    ∙ ap (λ x. found (quoted s) (length bytes) x (drop (length body + 2) bytes)) prefix ∙ ap (found (quoted s) (length bytes) (quoted_text s)) left

-- the token is found before a text that it ends before
pub token_read : (t : Token) (rest : List ℕ) → IsToken t → ends_before t rest ≡ true → lexeme_at (spelled t ++ rest) ≡ found t (length (spelled t ++ rest)) (spelled t) rest
token_read (word r) rest is longest =
    word_lexeme (word_text r) rest (word_starts r) (word_bytes r) (not_true (is_word_byte (first rest)) longest) ∙ ap (λ t. found t (length (word_text r ++ rest)) (word_text r) rest) (word_read r)
token_read (name s) rest is longest =
    let (read, starts, all) = name_read s is in
    word_lexeme s rest starts all (not_true (is_word_byte (first rest)) longest) ∙ ap (λ t. found t (length (s ++ rest)) s rest) read
token_read (quoted s) rest is longest = quoted_read s rest
token_read (number z) rest is longest = number_read z rest is (not_true (is_digit (first rest)) longest)
token_read bad_number rest is longest = absurd is
token_read (sign s) rest is longest = sign_read s rest longest

-- ---- and back

-- the text begins with the token as it is written
pub record StartsWith (bytes rest : List ℕ) (t : Token) : Type 0 where
  pub parts : bytes ≡ spelled t ++ rest
  pub is_token : IsToken t
  pub longest : ends_before t rest ≡ true

not_false : (b : Bool) → b ≡ false → not b ≡ true
not_false b e = ap not e

word_begins : (b : ℕ) (bs : List ℕ) → is_letter b ≡ true → StartsWith (b ∷ bs) (drop (prefix_len is_word_byte (b ∷ bs)) (b ∷ bs)) (word_token (take (prefix_len is_word_byte (b ∷ bs)) (b ∷ bs)))
word_begins b bs letter =
    let bytes = b ∷ bs in
    let n = prefix_len is_word_byte bytes in
    let s = take n bytes in
    let passes : is_word_byte b ≡ true = rw letter refl in
    let more : 1 + prefix_len is_word_byte bs ≡ suc (prefix_len is_word_byte bs) = omega arith in
    let count : n ≡ suc (prefix_len is_word_byte bs) = rw passes more in
    let starts : starts_word s ≡ true = ap (λ k. starts_word (take k bytes)) count ∙ letter in
    let stops : is_word_byte (first (drop n bytes)) ≡ false = run_stops is_word_byte bytes refl in
    elim (word_is s starts (run_passes is_word_byte bytes)) [
      | reserved_word r token spelling ↦ subst (StartsWith bytes (drop n bytes)) (sym token) (record {
        parts = sym (take-append-drop n bytes) ∙ ap (λ x. x ++ drop n bytes) spelling;
        is_token = tt;
        longest = not_false (is_word_byte (first (drop n bytes))) stops;
      })
      | other_word token bare ↦ subst (StartsWith bytes (drop n bytes)) (sym token) (record {
        parts = sym (take-append-drop n bytes);
        is_token = bare;
        longest = not_false (is_word_byte (first (drop n bytes))) stops;
      })
    ]

-- a numeral is a number or is refused
number_or_bad : (span : List ℕ) → ((z : ℤ) × (number_token span ≡ number z)) ⊎ (number_token span ≡ bad_number)
number_or_bad span =
    elim (tested (nat_lt 1 (length span) && get_or span (minus_len span) 0 == 48)) [
      | inl zeros ↦ inr (rw zeros refl)
      | inr plain ↦ elim (tested (fits (signed_digits_value 10 span))) [
        | inl within ↦ inl (signed_digits_value 10 span, rw (plain, within) refl)
        | inr outside ↦ inr (rw (plain, outside) refl)
      ]
    ]

first_take : (n : ℕ) (bytes : List ℕ) → 0 < n → first (take n bytes) ≡ first bytes
first_take zero bytes some = absurd (omega arith)
first_take (suc n) [] some = refl
first_take (suc n) (b ∷ bs) some = refl

drop_sum : (m n : ℕ) (bytes : List ℕ) → drop (m + n) bytes ≡ drop n (drop m bytes)
drop_sum m n bytes = sym (drop-drop n m bytes)

number_begins : (bytes : List ℕ) (count : ℕ) → prefix_len is_digit (drop (minus_len bytes) bytes) ≡ count → 0 < count → (is_digit (first bytes) || first bytes == 45) ≡ true
    → (number_token (take (minus_len bytes + count) bytes) ≡ bad_number → ⊥) → StartsWith bytes (drop (minus_len bytes + count) bytes) (number_token (take (minus_len bytes + count) bytes))
number_begins bytes count is some starts good =
    let m = minus_len bytes in
    let span = take (m + count) bytes in
    let rest = drop (m + count) bytes in
    let numeral : IsNumeral 10 (without_leading_sign span) = subst (λ k. IsNumeral 10 (without_leading_sign (take (m + k) bytes))) is (numeral_run bytes (omega arith)) in
    let first_is : first span ≡ first bytes = first_take (m + count) bytes (omega arith) in
    let starts_span : (is_digit (first span) || first span == 45) ≡ true = ap (λ b. is_digit b || b == 45) first_is ∙ starts in
    let behind : rest ≡ drop count (drop m bytes) = drop_sum m count bytes in
    let stops : is_digit (first rest) ≡ false = ap (λ r. is_digit (first r)) behind ∙ ap (λ k. is_digit (first (drop k (drop m bytes)))) (sym is) ∙ run_stops is_digit (drop m bytes) refl in
    elim (number_or_bad span) [
      | inl determined ↦ (
          let (spelling, within) = numeral_written span determined.0 numeral starts_span determined.1 in
          subst (StartsWith bytes rest) (sym determined.1) (record {
            parts = sym (take-append-drop (m + count) bytes) ∙ ap (λ x. x ++ rest) spelling;
            is_token = within;
            longest = not_false (is_digit (first rest)) stops;
          }))
      | inr bad_one ↦ absurd (good bad_one)
    ]

quoted_begins : (bs body : List ℕ) → scan 0 bs ≡ closed body → StartsWith (34 ∷ bs) (drop (length body + 2) (34 ∷ bs)) (quoted (unescaped 0 body))
quoted_begins bs body closes =
    let w = scan_written 0 bs body closes in
    let (rest, parts) = scan_parts 0 bs body closes in
    let whole : 34 ∷ bs ≡ (34 ∷ body ++ 34 ∷ []) ++ rest = ap (λ r. 34 ∷ r) (parts ∙ sym (append_assoc body (34 ∷ []) rest)) in
    let behind : drop (length body + 2) (34 ∷ bs) ≡ rest = ap (drop (length body + 2)) whole ∙ drop_at (34 ∷ body ++ 34 ∷ []) rest (length body + 2) (omega (arith, length-append body (34 ∷ []))) in
    record {
      parts = whole ∙ ap (λ x. (34 ∷ x ++ 34 ∷ []) ++ rest) w.rest ∙ ap (λ r. quoted_text (unescaped 0 body) ++ r) (sym behind);
      is_token = tt;
      longest = refl;
    }

sign_begins : (b : ℕ) (bs : List ℕ) (s : Sign) (n : ℕ) → sign_at b (first bs) ≡ Some (s, n) → StartsWith (b ∷ bs) (drop n (b ∷ bs)) (sign s)
sign_begins b bs s n e =
    let is = sign_is b bs s n e in
    record {
      parts = sym (take-append-drop n (b ∷ bs)) ∙ ap (λ x. x ++ drop n (b ∷ bs)) is.spelling;
      is_token = tt;
      longest = is.longest;
    }

pub at_sign : (b : ℕ) (bs : List ℕ) → is_letter b ≡ false → (is_digit b || b == 45) ≡ false → (b == 34) ≡ false → lexeme_at (b ∷ bs) ≡ by_sign (b ∷ bs) (sign_at b (first bs))
at_sign b bs letter digit quote = rw (some_byte (length bs), letter, digit, quote) refl

module _ (t : Token) (left : ℕ) (span rest : List ℕ) where
  found_is : {t' : Token} {left' : ℕ} {span' rest' : List ℕ} (bytes : List ℕ) → found t' left' span' rest' ≡ found t left span rest → StartsWith bytes rest' t' → StartsWith bytes rest t
  found_is {t'} {left'} {span'} {rest'} bytes e f =
      let same : t' ≡ t = cc in
      let behind : rest' ≡ rest = cc in
      subst (λ r. StartsWith bytes r t) behind (subst (StartsWith bytes rest') same f)

  by_sign_begins : (b : ℕ) (bs : List ℕ) (o : Option (Sign × ℕ)) → sign_at b (first bs) ≡ o → by_sign (b ∷ bs) o ≡ found t left span rest → StartsWith (b ∷ bs) rest t
  by_sign_begins b bs (Some p) is e = found_is (b ∷ bs) e (sign_begins b bs p.0 p.1 is)
  by_sign_begins b bs None is e =
      elim (tested (b == 33 && length (b ∷ bs) == 1)) [
        | inl cut_off ↦ (let no = rw cut_off at e in cc)
        | inr other ↦ (let no = rw other at e in cc)
      ]

  by_scan_begins : (bs : List ℕ) (x : QuotedScan) → scan 0 bs ≡ x → by_scan (34 ∷ bs) x ≡ found t left span rest → StartsWith (34 ∷ bs) rest t
  by_scan_begins bs (closed body) is e = found_is (34 ∷ bs) e (quoted_begins bs body is)
  by_scan_begins bs open_end is e = cc
  by_scan_begins bs (bad at) is e = cc

  by_digits_begins : (bytes : List ℕ) (count : ℕ) → prefix_len is_digit (drop (minus_len bytes) bytes) ≡ count → (is_digit (first bytes) || first bytes == 45) ≡ true
      → number_of_digits bytes count ≡ found t left span rest → (t ≡ bad_number → ⊥) → StartsWith bytes rest t
  by_digits_begins bytes count is starts e good =
      elim (tested (nat_lt 0 count)) [
        | inl some ↦ (
            let token = number_token (take (minus_len bytes + count) bytes) in
            let got : found token (length bytes) (take (minus_len bytes + count) bytes) (drop (minus_len bytes + count) bytes) ≡ found t left span rest = rw some at e in
            let same : token ≡ t = cc in
            found_is bytes got (number_begins bytes count is (ltb-true 0 count some) starts (λ b. good (sym same ∙ b))))
        | inr none ↦ elim (tested (length (drop (minus_len bytes) bytes) == 0)) [
          | inl cut_off ↦ (let no = rw (none, cut_off) at e in cc)
          | inr other ↦ (let no = rw (none, other) at e in cc)
        ]
      ]

  -- what is found in a text is written there
  pub token_written : (bytes : List ℕ) → lexeme_at bytes ≡ found t left span rest → (t ≡ bad_number → ⊥) → StartsWith bytes rest t
  token_written [] e good = cc
  token_written (b ∷ bs) e good =
      elim (tested (is_letter b)) [
        | inl letter ↦ found_is (b ∷ bs) (sym (at_word (b ∷ bs) (some_byte (length bs)) letter) ∙ e) (word_begins b bs letter)
        | inr no_word ↦ elim (tested (is_digit b || b == 45)) [
          | inl starts ↦ by_digits_begins (b ∷ bs) _ refl starts (sym (at_number b bs no_word starts) ∙ e) good
          | inr no_number ↦ elim (tested (b == 34)) [
            | inl quote ↦ subst (λ x. StartsWith (x ∷ bs) rest t) (sym (eqb-true b 34 quote))
                (by_scan_begins bs (scan 0 bs) refl (sym (at_quote bs) ∙ subst (λ x. lexeme_at (x ∷ bs) ≡ found t left span rest) (eqb-true b 34 quote) e))
            | inr no_quote ↦ by_sign_begins b bs (sign_at b (first bs)) refl (sym (at_sign b bs no_word no_number no_quote) ∙ e)
          ]
        ]
      ]

-- ---- blanks

blank_letter : (b : ℕ) → is_letter b ≡ true → is_blank b ≡ false
blank_letter b letter = grind (arith, nat_tests)

blank_digit : (b : ℕ) → is_digit b ≡ true → is_blank b ≡ false
blank_digit b digit = grind (arith, nat_tests)

-- no token begins with a blank
pub no_blank : (t : Token) (rest : List ℕ) → IsToken t → is_blank (first (spelled t ++ rest)) ≡ false
no_blank (word And) rest is = refl
no_blank (name []) rest is = let bare = name_read [] is in let no : false ≡ true = bare.1 in cc
no_blank (name (b ∷ bs)) rest is = blank_letter b (name_read (b ∷ bs) is).1
no_blank (number (pos n)) rest is =
    let low = ltb-true n (2 ^ 63) is in
    let (numeral, value) = decimal_is_IsNumeral n (omega arith) in
    ap is_blank (first_append (decimal n) rest numeral.0) ∙ blank_digit (first (decimal n)) (first_digit (decimal n) numeral.1 numeral.0)
no_blank bad_number rest is = absurd is
no_blank (sign (Compare Equal)) rest is = refl
no_blank t rest is = refl

-- blanks before a token are passed over
pub blanks_passed : (blanks : List ℕ) (t : Token) (rest : List ℕ) → list_all is_blank blanks ≡ true → IsToken t → after_blanks (blanks ++ (spelled t ++ rest)) ≡ spelled t ++ rest
blanks_passed blanks t rest blank is =
    let more = spelled t ++ rest in
    ap (λ k. drop k (blanks ++ more)) (prefix_len-run is_blank blanks more blank (no_blank t rest is)) ∙ drop_at blanks more (length blanks) refl

-- what comes next after blanks
pub next_read : (text blanks rest : List ℕ) (t : Token) → Begins text blanks rest t → lexeme text ≡ found t (length (spelled t ++ rest)) (spelled t) rest
unfolding lexeme
next_read text blanks rest t b =
    ap (λ x. lexeme_at (after_blanks x)) b.parts ∙ ap lexeme_at (blanks_passed blanks t rest b.blank b.is_token) ∙ token_read t rest b.is_token b.longest

pub next_written : (text : List ℕ) (t : Token) (left : ℕ) (span rest : List ℕ) → lexeme text ≡ found t left span rest → (t ≡ bad_number → ⊥) → (blanks : List ℕ) × Begins text blanks rest t
unfolding lexeme
next_written text t left span rest e good =
    let n = prefix_len is_blank text in
    let f = token_written t left span rest (after_blanks text) e good in (
      take n text,
      record {
        blank = run_passes is_blank text;
        parts = sym (take-append-drop n text) ∙ ap (λ r. take n text ++ r) f.parts;
        is_token = f.is_token;
        longest = f.longest;
      },
    )
