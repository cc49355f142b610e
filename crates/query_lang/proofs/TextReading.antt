-- Texts and lists of tokens.
use Rattle.std.proofs.Common.{◌≡◌, ℕ, zero, suc, ◌<◌, true, false, ◌&&◌, ◌||◌, ◌==◌, nat_lt, List, [], ◌∷◌, ◌++◌, length, take, drop, Option, Some, None, refl, sym, ap, ◌∙◌, subst, inl, inr, arith, length-append, length-drop, append-nil, eqb-true}
use Rattle.std.proofs.lemmas.List.{take-append-drop}
use Rattle.std.specs.List.{prefix_len, list_all}
use Rattle.query_lang.specs.Bytes.{is_blank, is_letter, is_digit, after_blanks}
use Rattle.query_lang.specs.Lexing.{lexeme, lexeme_at, number_of_digits, minus_len, by_scan, by_sign, sign_at}
use Rattle.query_lang.specs.Quoted.{QuotedScan, closed, open_end, bad, scan}
use Rattle.query_lang.specs.Spelling.{spelled, IsToken, Begins, Tokenizes}
use Rattle.query_lang.specs.Tokens.{Token, bad_number, Lexeme, ends, found, unfinished, bad_text, unknown}
use Rattle.query_lang.specs.Reading.{Tokens, done, next, inside, stuck, none, by_lexeme, tokens_in}
use Rattle.query_lang.specs.declared.token.Sign.{Sign}
use Rattle.query_lang.proofs.NumberSpelling.{at_number}
use Rattle.query_lang.proofs.SignSpelling.{some_byte}
use Rattle.query_lang.proofs.TokenSpelling.{next_read, next_written, no_blank, at_quote, at_sign}
use Rattle.query_lang.proofs.Utf8Lemmas.{tested}
use Rattle.query_lang.proofs.WordSpelling.{first, prefix_len-run, run_passes, at_word}

-- what was read of a text is these tokens and its end
abbrev pub Reads : Tokens → List Token → Type 0
Reads done [] = Unit {0}
Reads (next left t more) (u ∷ us) = (t ≡ u) × Reads more us
Reads done (u ∷ us) = ⊥
Reads (next left t more) [] = ⊥
Reads (inside what left) us = ⊥
Reads (stuck left there) us = ⊥
Reads (none left) us = ⊥

-- no number is refused
abbrev pub NoBad : List Token → Type 0
NoBad [] = Unit {0}
NoBad (t ∷ ts) = (t ≡ bad_number → ⊥) × NoBad ts

-- ---- a written text is read

no_byte : (bytes : List ℕ) → length bytes ≡ 0 → lexeme_at bytes ≡ ends
no_byte [] e = refl
no_byte (b ∷ bs) e = absurd (omega arith)

-- blanks alone have no token
blanks_end : (bytes : List ℕ) → list_all is_blank bytes ≡ true → lexeme bytes ≡ ends
unfolding lexeme
blanks_end bytes blank =
    let count : prefix_len is_blank bytes ≡ length bytes = ap (prefix_len is_blank) (sym (append-nil bytes)) ∙ prefix_len-run is_blank bytes [] blank refl in
    no_byte (after_blanks bytes) (omega (arith, length-drop (prefix_len is_blank bytes) bytes))

pub spelled_some : (t : Token) → IsToken t → 0 < length (spelled t)
spelled_some t is = not_empty (spelled t) (no_blank t (32 ∷ []) is) where
  not_empty : (bytes : List ℕ) → is_blank (first (bytes ++ 32 ∷ [])) ≡ false → 0 < length bytes
  not_empty [] e = cc
  not_empty (b ∷ bs) e = omega arith

begins_shorter : (text blanks rest : List ℕ) (t : Token) → Begins text blanks rest t → length rest < length text
begins_shorter text blanks rest t b =
    omega (arith, spelled_some t b.is_token, ap length b.parts, length-append blanks (spelled t ++ rest), length-append (spelled t) rest)

pub spelled_read : (ts : List Token) (n : ℕ) (text : List ℕ) → Tokenizes text ts → length text < n → Reads (tokens_in n text) ts
spelled_read ts zero text tokenizes below = absurd (omega arith)
spelled_read [] (suc n) text tokenizes below = subst (λ x. Reads (by_lexeme (tokens_in n) x) []) (sym (blanks_end text tokenizes)) tt
spelled_read (t ∷ ts) (suc n) text (blanks, rest, begins, more) below =
    subst (λ x. Reads (by_lexeme (tokens_in n) x) (t ∷ ts)) (sym (next_read text blanks rest t begins))
    (refl, spelled_read ts n rest more (omega (arith, begins_shorter text blanks rest t begins)))

-- ---- a text that is read is written

digits_no_end : (bytes : List ℕ) (count : ℕ) → number_of_digits bytes count ≡ ends → ⊥
digits_no_end bytes count e =
    elim (tested (nat_lt 0 count)) [
      | inl some ↦ (let no = rw some at e in cc)
      | inr empty ↦ elim (tested (length (drop (minus_len bytes) bytes) == 0)) [
        | inl cut_off ↦ (let no = rw (empty, cut_off) at e in cc)
        | inr other ↦ (let no = rw (empty, other) at e in cc)
      ]
    ]

scan_no_end : (bytes : List ℕ) (x : QuotedScan) → by_scan bytes x ≡ ends → ⊥
scan_no_end bytes (closed body) e = cc
scan_no_end bytes open_end e = cc
scan_no_end bytes (bad at) e = cc

sign_no_end : (bytes : List ℕ) (o : Option (Sign × ℕ)) → by_sign bytes o ≡ ends → ⊥
sign_no_end bytes (Some p) e = cc
sign_no_end bytes None e =
    elim (tested (first bytes == 33 && length bytes == 1)) [
      | inl cut_off ↦ (let no = rw cut_off at e in cc)
      | inr other ↦ (let no = rw other at e in cc)
    ]

-- a text with a byte that is no blank does not end
pub no_end : (b : ℕ) (bs : List ℕ) → lexeme_at (b ∷ bs) ≡ ends → ⊥
no_end b bs e =
    elim (tested (is_letter b)) [
      | inl letter ↦ (let no = sym (at_word (b ∷ bs) (some_byte (length bs)) letter) ∙ e in cc)
      | inr no_word ↦ elim (tested (is_digit b || b == 45)) [
        | inl starts ↦ digits_no_end (b ∷ bs) _ (sym (at_number b bs no_word starts) ∙ e)
        | inr no_number ↦ elim (tested (b == 34)) [
          | inl quote ↦ scan_no_end (34 ∷ bs) (scan 0 bs) (sym (at_quote bs) ∙ subst (λ x. lexeme_at (x ∷ bs) ≡ ends) (eqb-true b 34 quote) e)
          | inr no_quote ↦ sign_no_end (b ∷ bs) (sign_at b (first bs)) (sym (at_sign b bs no_word no_number no_quote) ∙ e)
        ]
      ]
    ]

end_blanks : (text bytes : List ℕ) → after_blanks text ≡ bytes → lexeme_at bytes ≡ ends → list_all is_blank text ≡ true
end_blanks text [] is e =
    ap (list_all is_blank) (sym (take-append-drop (prefix_len is_blank text) text) ∙ ap (λ r. take (prefix_len is_blank text) text ++ r) is ∙ append-nil (take (prefix_len is_blank text) text))
    ∙ run_passes is_blank text
end_blanks text (b ∷ bs) is e = absurd (no_end b bs e)

ends_blank : (text : List ℕ) → lexeme text ≡ ends → list_all is_blank text ≡ true
unfolding lexeme
ends_blank text e = end_blanks text (after_blanks text) refl e

pub read_spelled : (n : ℕ) (text : List ℕ) (ts : List Token) → length text < n → Reads (tokens_in n text) ts → NoBad ts → Tokenizes text ts
read_spelled zero text ts below reads good = absurd (omega arith)
read_spelled (suc n) text ts below reads good = by_next n text ts (lexeme text) refl below reads good (λ rest us less r g. read_spelled n rest us less r g) where
  by_next : (n : ℕ) (text : List ℕ) (ts : List Token) (x : Lexeme) → lexeme text ≡ x → length text < suc n → Reads (by_lexeme (tokens_in n) x) ts → NoBad ts
      → ((rest : List ℕ) (us : List Token) → length rest < n → Reads (tokens_in n rest) us → NoBad us → Tokenizes rest us) → Tokenizes text ts
  by_next n text [] ends is below reads good more = ends_blank text is
  by_next n text (u ∷ us) ends is below reads good more = absurd reads
  by_next n text [] (found t left span rest) is below reads good more = absurd reads
  by_next n text (u ∷ us) (found t left span rest) is below reads good more =
      let (blanks, begins) = next_written text t left span rest is (λ b. good.0 (sym reads.0 ∙ b)) in
      subst (λ v. Tokenizes text (v ∷ us)) reads.0 (blanks, rest, begins, more rest us (omega (arith, begins_shorter text blanks rest t begins)) reads.1 good.1)
  by_next n text ts (unfinished what left) is below reads good more = absurd reads
  by_next n text ts (bad_text left there) is below reads good more = absurd reads
  by_next n text ts (unknown left) is below reads good more = absurd reads
