-- A word of a text, as a number, takes no more bytes than the lexer passes over for it.
use Rattle.std.proofs.Common.{◌≡◌, ℕ, zero, suc, ◌+◌, ◌-◌, ◌≤◌, Bool, true, false, cond, ◌&&◌, ◌||◌, ◌==◌, nat_le, nat_eq, List, [], ◌∷◌, length, take, drop, Option, Some, None, option_and_then, inl, inr, refl, sym, ap, ◌∙◌, subst, arith, length-take, leb-true}
use Rattle.std.specs.Prelude.{⊤}
use Rattle.std.specs.List.{prefix_len, starts_with}
use Rattle.std.specs.Cmp.Lexicographic.{pointwise}
use Rattle.std.specs.Char.{is_ascii_digit}
use Rattle.std.proofs.lemmas.Bool.{false≢true, ne_eqb, eqb-true, and_parts, or_cases}
use Rattle.json.specs.Token.{Token, number, boolean, null, bad}
use Rattle.json.specs.Word.{is_operator, is_space, head, ends_word, after_digits, after_minus, after_sign, after_whole, after_fraction, after_exponent, after_number, number_before, literal, word}
use Rattle.json.specs.Lex.{Class, quote, backslash, operator, space, other, class}
use Rattle.json.specs.Print.{token_text}
use Rattle.json.specs.Ascii as ascii

-- whether a word goes on over a byte of this class
abbrev pub goes_on : Class → Bool
goes_on quote = true
goes_on backslash = true
goes_on operator = false
goes_on space = false
goes_on other = true

-- how many bytes a word goes on over
abbrev pub word_len : List ℕ → ℕ
word_len [] = 0
word_len (x ∷ xs) = cond (goes_on (class x)) (1 + word_len xs) 0

-- from the first text to the second, all bytes are of a word
abbrev Passes : List ℕ → List ℕ → Type 0
Passes t r = length t + word_len r ≤ length r + word_len t

abbrev PassesTo : List ℕ → Option (List ℕ) → Type 0
PassesTo t None = ⊤
PassesTo t (Some r) = Passes t r

pass_byte : (x : ℕ) (xs : List ℕ) → goes_on (class x) ≡ true → Passes (x ∷ xs) xs
pass_byte x xs h =
    let e : word_len (x ∷ xs) ≡ 1 + word_len xs = ap (λ b. cond b (1 + word_len xs) 0) h in
    omega arith

class_goes : (a b o s : Bool) → o ≡ false → s ≡ false → goes_on (cond a quote (cond b backslash (cond o operator (cond s space other)))) ≡ true
class_goes true b o s e f = refl
class_goes false true o s e f = refl
class_goes false false true s e f = absurd (false≢true (sym e))
class_goes false false false true e f = absurd (false≢true (sym f))
class_goes false false false false e f = refl

digit_goes : (x : ℕ) → is_ascii_digit x ≡ true → goes_on (class x) ≡ true
digit_goes x h =
    let low : 48 ≤ x = leb-true 48 x (and_parts (nat_le 48 x) (nat_le x 57) h).0 in
    let high : x ≤ 57 = leb-true x 57 (and_parts (nat_le 48 x) (nat_le x 57) h).1 in
    class_goes (x == 34) (x == 92) (is_operator x) (is_space x)
    (rw (ne_eqb x 123 (λ e. omega arith), ne_eqb x 125 (λ e. omega arith), ne_eqb x 91 (λ e. omega arith), ne_eqb x 93 (λ e. omega arith), ne_eqb x 58 (λ e. omega arith), ne_eqb x 44 (λ e. omega arith)))
    (rw (ne_eqb x 32 (λ e. omega arith), ne_eqb x 9 (λ e. omega arith), ne_eqb x 10 (λ e. omega arith), ne_eqb x 13 (λ e. omega arith)))

-- ---- the parts of a number

digits_byte : (b : Bool) (x n : ℕ) (xs : List ℕ) → is_ascii_digit x ≡ b → Passes xs (drop n xs) → Passes (x ∷ xs) (drop (cond b (1 + n) 0) (x ∷ xs))
digits_byte true x n xs e h =
    let next : suc n ≡ 1 + n = omega arith in
    let first : Passes (x ∷ xs) xs = pass_byte x xs (digit_goes x e) in
    let all : Passes (x ∷ xs) (drop n xs) = omega arith in
    subst (λ (k : ℕ). Passes (x ∷ xs) (drop k (x ∷ xs))) next all
digits_byte false x n xs e h = omega arith

digits_pass : (t : List ℕ) → Passes t (drop (prefix_len is_ascii_digit t) t)
digits_pass [] = omega arith
digits_pass (x ∷ xs) = digits_byte (is_ascii_digit x) x (prefix_len is_ascii_digit xs) xs refl (digits_pass xs)

head_pass : (t : List ℕ) (c : ℕ) → goes_on (class c) ≡ true → (head t == c) ≡ true → Passes t (drop 1 t)
head_pass [] c goes h = omega arith
head_pass (x ∷ xs) c goes h = pass_byte x xs (subst (λ (y : ℕ). goes_on (class y) ≡ true) (sym (eqb-true x c h)) goes)

either : (t : List ℕ) (b : Bool) (x y : Option (List ℕ)) → (b ≡ true → PassesTo t x) → PassesTo t y → PassesTo t (cond b x y)
either t true x y f g = f refl
either t false x y f g = g

either_text : (t : List ℕ) (b : Bool) (x : List ℕ) → (b ≡ true → Passes t x) → Passes t (cond b x t)
either_text t true x f = f refl
either_text t false x f = omega arith

-- what follows goes on from there
on_from : (t s : List ℕ) (o : Option (List ℕ)) → Passes t s → PassesTo s o → PassesTo t o
on_from t s None h g = tt
on_from t s (Some r) h g = omega arith

after_digits_pass : (t : List ℕ) → PassesTo t (after_digits t)
after_digits_pass t = either t (prefix_len is_ascii_digit t == 0) None (Some (drop (prefix_len is_ascii_digit t) t)) (λ e. tt) (digits_pass t)

after_minus_pass : (t : List ℕ) → Passes t (after_minus t)
after_minus_pass t = either_text t (head t == 45) (drop 1 t) (head_pass t 45 refl)

after_sign_pass : (t : List ℕ) → Passes t (after_sign t)
after_sign_pass t =
    either_text t ((head t == 45) || (head t == 43)) (drop 1 t)
    (λ e. elim (or_cases (head t == 45) (head t == 43) e) [ inl f ↦ head_pass t 45 refl f | inr f ↦ head_pass t 43 refl f ])

after_whole_pass : (t : List ℕ) → PassesTo t (after_whole t)
after_whole_pass t = either t (head t == 48) (Some (drop 1 t)) (after_digits t) (head_pass t 48 refl) (after_digits_pass t)

after_fraction_pass : (t : List ℕ) → PassesTo t (after_fraction t)
after_fraction_pass t =
    either t (head t == 46) (after_digits (drop 1 t)) (Some t)
    (λ e. on_from t (drop 1 t) (after_digits (drop 1 t)) (head_pass t 46 refl e) (after_digits_pass (drop 1 t))) (omega arith)

exponent_from : (t : List ℕ) → Passes t (drop 1 t) → PassesTo t (after_digits (after_sign (drop 1 t)))
exponent_from t h =
    let sign = after_sign_pass (drop 1 t) in
    on_from t (after_sign (drop 1 t)) (after_digits (after_sign (drop 1 t))) (omega arith) (after_digits_pass (after_sign (drop 1 t)))

after_exponent_pass : (t : List ℕ) → PassesTo t (after_exponent t)
after_exponent_pass t =
    either t ((head t == 101) || (head t == 69)) (after_digits (after_sign (drop 1 t))) (Some t)
    (λ e. elim (or_cases (head t == 101) (head t == 69) e) [ inl f ↦ exponent_from t (head_pass t 101 refl f) | inr f ↦ exponent_from t (head_pass t 69 refl f) ])
    (omega arith)

then : (t : List ℕ) (f : List ℕ → Option (List ℕ)) (o : Option (List ℕ)) → ((s : List ℕ) → PassesTo s (f s)) → PassesTo t o → PassesTo t (option_and_then f o)
then t f None h g = tt
then t f (Some s) h g = on_from t s (f s) g (h s)

after_number_pass : (t : List ℕ) → PassesTo t (after_number t)
unfolding after_number
after_number_pass t =
    then t after_exponent (option_and_then after_fraction (after_whole (after_minus t))) after_exponent_pass
    (then t after_fraction (after_whole (after_minus t)) after_fraction_pass
    (on_from t (after_minus t) (after_whole (after_minus t)) (after_minus_pass t) (after_whole_pass (after_minus t))))

-- ---- words

-- the token takes no more than the word that the text begins with
abbrev Sized : List ℕ → Token → Type 0
Sized t k = length (token_text k) ≤ word_len t

pick : (t : List ℕ) (b : Bool) (k l : Token) → (b ≡ true → Sized t k) → Sized t l → Sized t (cond b k l)
pick t true k l f g = f refl
pick t false k l f g = g

-- a word goes on over each byte
abbrev AllGo : List ℕ → Type 0
AllGo [] = ⊤
AllGo (c ∷ cs) = (goes_on (class c) ≡ true) × AllGo cs

name_pass : (name t : List ℕ) → AllGo name → pointwise nat_eq name (take (length name) t) ≡ true → length name ≤ word_len t
name_pass [] t h e = omega arith
name_pass (c ∷ cs) [] h e = absurd (false≢true e)
name_pass (c ∷ cs) (x ∷ xs) h e =
    let parts = and_parts (c == x) (pointwise nat_eq cs (take (length cs) xs)) e in
    let goes : goes_on (class x) ≡ true = subst (λ (y : ℕ). goes_on (class y) ≡ true) (eqb-true c x parts.0) h.0 in
    let first : word_len (x ∷ xs) ≡ 1 + word_len xs = ap (λ b. cond b (1 + word_len xs) 0) goes in
    omega (arith, name_pass cs xs h.1 parts.1)

literal_size : (name : List ℕ) (k : Token) (t : List ℕ) → AllGo name → length (token_text k) ≡ length name → Sized t (literal name k t)
literal_size name k t h same =
    pick t (starts_with nat_eq t name && ends_word (drop (length name) t)) k bad
    (λ e. omega (arith, name_pass name t h (and_parts (starts_with nat_eq t name) (ends_word (drop (length name) t)) e).0, same)) (omega arith)

number_size : (t : List ℕ) (o : Option (List ℕ)) → PassesTo t o → Sized t (number_before t o)
number_size t None h = omega arith
number_size t (Some r) h = pick t (ends_word r) (number (take (length t - length r) t)) bad (λ e. omega (arith, length-take (length t - length r) t)) (omega arith)

-- a word's token takes no more than the word
pub word_size : (t : List ℕ) → Sized t (word t)
unfolding word
word_size t =
    pick t (head t == 116) _ _ (λ e. literal_size ascii.true_text (boolean true) t (refl, (refl, (refl, (refl, tt)))) refl)
    (pick t (head t == 102) _ _ (λ e. literal_size ascii.false_text (boolean false) t (refl, (refl, (refl, (refl, (refl, tt))))) refl)
    (pick t (head t == 110) _ _ (λ e. literal_size ascii.null_text null t (refl, (refl, (refl, (refl, tt)))) refl) (number_size t (after_number t) (after_number_pass t))))
