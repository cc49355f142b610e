-- Words, numbers and signs are read as they are written, and written as they are read.
use Rattle.std.proofs.Common.{◌≡◌, ℕ, suc, ◌+◌, Bool, true, false, not, cond, ◌&&◌, ◌==◌, List, [], ◌∷◌, ◌++◌, length, map, get_or, take, drop, Option, Some, None, refl, sym, ap, ◌∙◌, inl, inr, arith, take_at, drop_at, codes}
use Rattle.std.proofs.lemmas.Bool.{ne_eqb, and_parts}
use Rattle.std.proofs.lemmas.Slice.Eq.{bytes_eq-Decides}
use Rattle.std.specs.List.{prefix_len, list_all, list_any}
use Rattle.std.specs.Str.{bytes_eq}
use Rattle.query_core.specs.Print.{is_bare, starts_word, reserved}
use Rattle.query_lang.specs.Bytes.{is_letter, is_word_byte}
use Rattle.query_lang.specs.Lexing.{reserved_of, token_of_word, word_token, lexeme_at}
use Rattle.query_lang.specs.Spelling.{word_text}
use Rattle.query_lang.specs.Tokens.{Token, word, name, found}
use Rattle.query_lang.specs.declared.token.Reserved.{Reserved}
use Rattle.query_lang.specs.declared.token.Reserved.TheVariants.{And, Or, Not, In, Has, Exists, True, False, Null, Asc, Desc}
use Rattle.query_lang.proofs.Utf8Lemmas.{tested}

-- ---- runs

abbrev pub first : List ℕ → ℕ
first bytes = get_or bytes 0 0

-- a run is found again before a byte that does not pass
pub prefix_len-run : (p : ℕ → Bool) (run rest : List ℕ) → list_all p run ≡ true → p (first rest) ≡ false → prefix_len p (run ++ rest) ≡ length run
prefix_len-run p [] [] all stop = refl
prefix_len-run p [] (c ∷ rest) all stop = rw stop refl
prefix_len-run p (c ∷ run) rest all stop =
    let (here, more) = and_parts (p c) (list_all p run) all in
    rw here (omega (arith, prefix_len-run p run rest more stop))

-- the bytes of a run pass
pub run_passes : (p : ℕ → Bool) (bytes : List ℕ) → list_all p (take (prefix_len p bytes) bytes) ≡ true
run_passes p [] = refl
run_passes p (b ∷ bs) =
    elim (tested (p b)) [
      | inl pass ↦ (
          let more : 1 + prefix_len p bs ≡ suc (prefix_len p bs) = omega arith in
          let n : prefix_len p (b ∷ bs) ≡ suc (prefix_len p bs) = rw pass more in
          ap (λ k. list_all p (take k (b ∷ bs))) n ∙ rw pass (run_passes p bs))
      | inr stop ↦ ap (λ k. list_all p (take k (b ∷ bs))) (let none : prefix_len p (b ∷ bs) ≡ 0 = rw stop refl in none)
    ]

-- the byte after a run does not
pub run_stops : (p : ℕ → Bool) (bytes : List ℕ) → p 0 ≡ false → p (first (drop (prefix_len p bytes) bytes)) ≡ false
run_stops p [] none = none
run_stops p (b ∷ bs) none =
    elim (tested (p b)) [
      | inl pass ↦ (
          let more : 1 + prefix_len p bs ≡ suc (prefix_len p bs) = omega arith in
          let n : prefix_len p (b ∷ bs) ≡ suc (prefix_len p bs) = rw pass more in
          ap (λ k. p (first (drop k (b ∷ bs)))) n ∙ run_stops p bs none)
      | inr stop ↦ ap (λ k. p (first (drop k (b ∷ bs)))) (let zero_is : prefix_len p (b ∷ bs) ≡ 0 = rw stop refl in zero_is) ∙ stop
    ]

-- ---- reserved words

-- the table of them
abbrev table : List (List ℕ × Reserved)
table = (codes "and", And) ∷ (codes "or", Or) ∷ (codes "not", Not) ∷ (codes "in", In) ∷ (codes "has", Has) ∷ (codes "exists", Exists) ∷ (codes "true", True) ∷ (codes "false", False) ∷ (codes "null", Null) ∷ (codes "asc", Asc) ∷ (codes "desc", Desc) ∷ []

abbrev looked_up : List (List ℕ × Reserved) → List ℕ → Option Reserved
looked_up [] s = None
looked_up (p ∷ ps) s = cond (bytes_eq s p.0) (Some p.1) (looked_up ps s)

abbrev Right : List (List ℕ × Reserved) → Type 0
Right [] = Unit {0}
Right (p ∷ ps) = (p.0 ≡ word_text p.1) × Right ps

looked_up_is : (ps : List (List ℕ × Reserved)) → Right ps → (s : List ℕ) (r : Reserved) → looked_up ps s ≡ Some r → s ≡ word_text r
looked_up_is [] right s r e = cc
looked_up_is (p ∷ ps) right s r e =
    elim (tested (bytes_eq s p.0)) [
      | inl same ↦ (
          let got : Some p.1 ≡ Some r = rw same at e in
          let r_is : p.1 ≡ r = cc in
          (bytes_eq-Decides s p.0).0 same ∙ right.0 ∙ ap word_text r_is)
      | inr other ↦ looked_up_is ps right.1 s r (rw other at e)
    ]

looked_up_none : (ps : List (List ℕ × Reserved)) (s : List ℕ) → list_any (bytes_eq s) (map (λ p. p.0) ps) ≡ false → looked_up ps s ≡ None
looked_up_none [] s e = refl
looked_up_none (p ∷ ps) s e =
    elim (tested (bytes_eq s p.0)) [
      | inl same ↦ (let no : true ≡ false = rw same at e in cc)
      | inr other ↦ rw other (looked_up_none ps s (rw other at e))
    ]

none_looked_up : (ps : List (List ℕ × Reserved)) (s : List ℕ) → looked_up ps s ≡ None → list_any (bytes_eq s) (map (λ p. p.0) ps) ≡ false
none_looked_up [] s e = refl
none_looked_up (p ∷ ps) s e =
    elim (tested (bytes_eq s p.0)) [
      | inl same ↦ (let no = rw same at e in cc)
      | inr other ↦ rw other (none_looked_up ps s (rw other at e))
    ]

reserved_table : (s : List ℕ) → reserved_of s ≡ looked_up table s
reserved_table s = refl

-- a reserved word is what it is read as
pub reserved_is : (s : List ℕ) (r : Reserved) → reserved_of s ≡ Some r → s ≡ word_text r
reserved_is s r e = looked_up_is table (refl, (refl, (refl, (refl, (refl, (refl, (refl, (refl, (refl, (refl, (refl, tt))))))))))) s r e

pub not_reserved : (s : List ℕ) → list_any (bytes_eq s) reserved ≡ false → reserved_of s ≡ None
not_reserved s e = looked_up_none table s e

pub none_reserved : (s : List ℕ) → reserved_of s ≡ None → list_any (bytes_eq s) reserved ≡ false
none_reserved s e = none_looked_up table s e

-- each reserved word is read as itself
pub word_read : (r : Reserved) → word_token (word_text r) ≡ word r
word_read And = refl
word_read Or = refl
word_read Not = refl
word_read In = refl
word_read Has = refl
word_read Exists = refl
word_read True = refl
word_read False = refl
word_read Null = refl
word_read Asc = refl
word_read Desc = refl

-- and is a word
pub word_starts : (r : Reserved) → starts_word (word_text r) ≡ true
word_starts And = refl
word_starts Or = refl
word_starts Not = refl
word_starts In = refl
word_starts Has = refl
word_starts Exists = refl
word_starts True = refl
word_starts False = refl
word_starts Null = refl
word_starts Asc = refl
word_starts Desc = refl

pub word_bytes : (r : Reserved) → list_all is_word_byte (word_text r) ≡ true
word_bytes And = refl
word_bytes Or = refl
word_bytes Not = refl
word_bytes In = refl
word_bytes Has = refl
word_bytes Exists = refl
word_bytes True = refl
word_bytes False = refl
word_bytes Null = refl
word_bytes Asc = refl
word_bytes Desc = refl

-- ---- words

pub at_word : (bytes : List ℕ) → (length bytes == 0) ≡ false → is_letter (first bytes) ≡ true
    → lexeme_at bytes ≡ found (word_token (take (prefix_len is_word_byte bytes) bytes)) (length bytes) (take (prefix_len is_word_byte bytes) bytes) (drop (prefix_len is_word_byte bytes) bytes)
at_word bytes some letter = rw (some, letter) refl

-- a word at the beginning of a text
pub word_lexeme : (s rest : List ℕ) → starts_word s ≡ true → list_all is_word_byte s ≡ true → is_word_byte (first rest) ≡ false
    → lexeme_at (s ++ rest) ≡ found (word_token s) (length (s ++ rest)) s rest
word_lexeme [] rest starts all stop = cc
word_lexeme (b ∷ bs) rest starts all stop =
    let n : prefix_len is_word_byte ((b ∷ bs) ++ rest) ≡ length (b ∷ bs) = prefix_len-run is_word_byte (b ∷ bs) rest all stop in
    let some : (length ((b ∷ bs) ++ rest) == 0) ≡ false = ne_eqb (suc (length (bs ++ rest))) 0 (λ e. omega arith) in
    let prefix : take (prefix_len is_word_byte ((b ∷ bs) ++ rest)) ((b ∷ bs) ++ rest) ≡ b ∷ bs = ap (λ k. take k ((b ∷ bs) ++ rest)) n ∙ take_at (b ∷ bs) rest (length (b ∷ bs)) refl in
    let behind : drop (prefix_len is_word_byte ((b ∷ bs) ++ rest)) ((b ∷ bs) ++ rest) ≡ rest = ap (λ k. drop k ((b ∷ bs) ++ rest)) n ∙ drop_at (b ∷ bs) rest (length (b ∷ bs)) refl in
    at_word ((b ∷ bs) ++ rest) some starts ∙ ap (λ x. found (word_token x) (length ((b ∷ bs) ++ rest)) x (drop (prefix_len is_word_byte ((b ∷ bs) ++ rest)) ((b ∷ bs) ++ rest))) prefix
    ∙ ap (found (word_token (b ∷ bs)) (length ((b ∷ bs) ++ rest)) (b ∷ bs)) behind

pub not_true : (b : Bool) → not b ≡ true → b ≡ false
not_true true e = sym e
not_true false e = refl

-- a name is read as itself
pub name_read : (s : List ℕ) → is_bare s ≡ true → (word_token s ≡ name s) × (starts_word s ≡ true) × (list_all is_word_byte s ≡ true)
name_read s bare =
    let (word_like, other) = and_parts (starts_word s && list_all is_word_byte s) (not (list_any (bytes_eq s) reserved)) bare in
    let (starts, all) = and_parts (starts_word s) (list_all is_word_byte s) word_like in
    (ap (token_of_word s) (not_reserved s (not_true (list_any (bytes_eq s) reserved) other)), starts, all)

-- what a word is read as
pub data WordIs (s : List ℕ) (t : Token) : Type 0 where
  reserved_word : (r : Reserved) → t ≡ word r → s ≡ word_text r → WordIs s t
  other_word : t ≡ name s → is_bare s ≡ true → WordIs s t

pub word_is : (s : List ℕ) → starts_word s ≡ true → list_all is_word_byte s ≡ true → WordIs s (word_token s)
word_is s starts all = go (reserved_of s) refl where
  go : (o : Option Reserved) → reserved_of s ≡ o → WordIs s (token_of_word s (reserved_of s))
  go (Some r) is = reserved_word r (ap (token_of_word s) is) (reserved_is s r is)
  go None is = other_word (ap (token_of_word s) is) (rw (starts, all, none_reserved s is) refl)
