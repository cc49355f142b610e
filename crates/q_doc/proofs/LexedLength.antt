-- The tokens that a lexer finds in a text take no more bytes, printed, than the text has.
use Rattle.std.proofs.Common.{◌≡◌, ℕ, zero, suc, max, ◌+◌, ◌-◌, ◌*◌, ◌/◌, ◌%◌, ◌<◌, ◌≤◌, Bool, true, false, cond, ◌&&◌, ◌||◌, ◌==◌, nat_lt, List, [], ◌∷◌, ◌++◌, length, Option, Some, None, option_and_then, inl, inr, refl, sym, ap, ◌∙◌, subst, arith, append_assoc, length-append}
use Rattle.std.specs.Prelude.{⊤}
use Rattle.std.proofs.lemmas.Bool.{false≢true, eqb-true, eqb-false, ltb-false, and_parts, or_cases}
use Rattle.std.specs.Char.{is_digit, encode_utf8}
use Rattle.json.specs.Token.{Token, begin_object, end_object, begin_array, end_array, string, bad}
use Rattle.json.specs.Text.{code_unit, short_escape, is_high_surrogate, is_low_surrogate, surrogate_pair, Within, plain, after_backslash, after_u, after_high, prepend, content}
use Rattle.json.specs.Word.{is_operator, is_space, word}
use Rattle.json.specs.Lex.{Lexeme, token, comma, colon, Class, quote, backslash, operator, space, other, class, operator_lexeme, string_token, Mode, between, in_word, in_string, in_escape, lex_byte, lex}
use Rattle.json.specs.Print.{escape_letter, escape_byte, escape, quoted, token_text}
use Rattle.json.proofs.Printed.Strings.{escape_byte_plain}
use Rattle.q_doc.proofs.WordLength.{goes_on, word_len, word_size}

-- ---- what lexemes take

-- the bytes that a lexeme takes when it is printed, and one at least
abbrev pub lexeme_size : Lexeme → ℕ
lexeme_size (token t) = max 1 (length (token_text t))
lexeme_size comma = 1
lexeme_size colon = 1

-- the bytes of all
abbrev pub size : List Lexeme → ℕ
size [] = 0
size (l ∷ ls) = lexeme_size l + size ls

operator_one : (a b c d e : Bool) → lexeme_size (cond a (token begin_object) (cond b (token end_object) (cond c (token begin_array) (cond d (token end_array) (cond e comma colon))))) ≡ 1
operator_one true b c d e = refl
operator_one false true c d e = refl
operator_one false false true d e = refl
operator_one false false false true e = refl
operator_one false false false false true = refl
operator_one false false false false false = refl

operator_size : (x : ℕ) → lexeme_size (operator_lexeme x) ≡ 1
operator_size x = operator_one (x == 123) (x == 125) (x == 91) (x == 93) (x == 44)

-- ---- escapes

-- the escape of a byte that needs none
plain_byte : (x : ℕ) → (x == 34) ≡ false → (x == 92) ≡ false → nat_lt x 32 ≡ false → length (escape_byte x) ≡ 1
plain_byte x q b l = ap length (escape_byte_plain x (eqb-false x 34 q) (eqb-false x 92 b) (ltb-false x 32 l))

high_byte : (x : ℕ) → 128 ≤ x → length (escape_byte x) ≡ 1
high_byte x h = ap length (escape_byte_plain x (λ e. omega arith) (λ e. omega arith) (omega arith))

escape_shape : (a b : Bool) (p q r : List ℕ) → length p ≡ 2 → length q ≡ 6 → length r ≡ 1 → length (cond a p (cond b q r)) ≤ 6
escape_shape true b p q r f g h = omega arith
escape_shape false true p q r f g h = omega arith
escape_shape false false p q r f g h = omega arith

-- no escape has more than six bytes
byte_size : (x : ℕ) → length (escape_byte x) ≤ 6
unfolding escape_byte
byte_size x = escape_shape (nat_lt 0 (escape_letter x)) (nat_lt x 32) _ _ _ refl refl refl

escape-append : (xs ys : List ℕ) → length (escape (xs ++ ys)) ≡ length (escape xs) + length (escape ys)
escape-append [] ys = omega arith
escape-append (x ∷ xs) ys = omega (arith, length-append (escape_byte x) (escape (xs ++ ys)), length-append (escape_byte x) (escape xs), escape-append xs ys)

one_byte : (x : ℕ) → length (escape (x ∷ [])) ≡ length (escape_byte x)
one_byte x = omega (arith, length-append (escape_byte x) [])

-- a character that is escaped has no more bytes than `\u` and four digits
abbrev Six : List ℕ → Type 0
Six xs = length (escape xs) ≤ 6

encoded : (a b c : Bool) (x p q r s t u v w y : ℕ) → 128 ≤ p → 128 ≤ q → 128 ≤ r → 128 ≤ s → 128 ≤ t → 128 ≤ u → 128 ≤ v → 128 ≤ w → 128 ≤ y
    → Six (cond a (x ∷ []) (cond b (p ∷ q ∷ []) (cond c (r ∷ s ∷ t ∷ []) (u ∷ v ∷ w ∷ y ∷ []))))
encoded true b c x p q r s t u v w y hp hq hr hs ht hu hv hw hy = omega (arith, one_byte x, byte_size x)
encoded false true c x p q r s t u v w y hp hq hr hs ht hu hv hw hy =
    omega (arith, escape-append (p ∷ []) (q ∷ []), one_byte p, one_byte q, high_byte p hp, high_byte q hq)
encoded false false true x p q r s t u v w y hp hq hr hs ht hu hv hw hy =
    omega (arith, escape-append (r ∷ []) (s ∷ t ∷ []), escape-append (s ∷ []) (t ∷ []), one_byte r, one_byte s, one_byte t, high_byte r hr, high_byte s hs, high_byte t ht)
encoded false false false x p q r s t u v w y hp hq hr hs ht hu hv hw hy =
    omega (
      arith,
      escape-append (u ∷ []) (v ∷ w ∷ y ∷ []),
      escape-append (v ∷ []) (w ∷ y ∷ []),
      escape-append (w ∷ []) (y ∷ []),
      one_byte u,
      one_byte v,
      one_byte w,
      one_byte y,
      high_byte u hu,
      high_byte v hv,
      high_byte w hw,
      high_byte y hy,
    )

character_size : (c : ℕ) → length (escape (encode_utf8 c)) ≤ 6
unfolding encode_utf8
character_size c =
    encoded (nat_lt c 128) (nat_lt c 2048) (nat_lt c 65536) c _ _ _ _ _ _ _ _ _ (omega arith) (omega arith) (omega arith) (omega arith) (omega arith) (omega arith) (omega arith) (omega arith) (omega arith)

-- ---- what a string's text leaves

-- the content, escaped again, and what is behind it take no more than there is
abbrev Fits : ℕ → ℕ → Option (List ℕ) → Type 0
Fits behind n None = ⊤
Fits behind n (Some s) = length (escape s) + behind ≤ n

either : (behind n : ℕ) (b : Bool) (x y : Option (List ℕ)) → (b ≡ true → Fits behind n x) → (b ≡ false → Fits behind n y) → Fits behind n (cond b x y)
either behind n true x y f g = f refl
either behind n false x y f g = g refl

abbrev is_found : Option ℕ → Bool
is_found None = false
is_found (Some u) = true

then : (behind n : ℕ) (f : ℕ → Option (List ℕ)) (o : Option ℕ) → ((u : ℕ) → o ≡ Some u → Fits behind n (f u)) → Fits behind n (option_and_then f o)
then behind n f None h = tt
then behind n f (Some u) h = h u refl

more : (behind n now m : ℕ) (r : Option (List ℕ)) → Fits now m r → behind + m ≤ n + now → Fits behind n r
more behind n now m None h le = tt
more behind n now m (Some s) h le = omega arith

longer : (behind n now m : ℕ) (a : List ℕ) (r : Option (List ℕ)) → Fits now m r → length (escape a) + behind + m ≤ n + now → Fits behind n (prepend a r)
longer behind n now m a None h le = tt
longer behind n now m a (Some s) h le = omega (arith, escape-append a s)

-- the byte of a backslash escape takes two bytes at most
abbrev Two : Option ℕ → Type 0
Two None = ⊤
Two (Some c) = length (escape_byte c) ≤ 2

choose : (b : Bool) (x y : Option ℕ) → (b ≡ true → Two x) → Two y → Two (cond b x y)
choose true x y f g = f refl
choose false x y f g = g

this : (x c : ℕ) → (x == c) ≡ true → length (escape_byte c) ≤ 2 → length (escape_byte x) ≤ 2
this x c e h = subst (λ (y : ℕ). length (escape_byte y) ≤ 2) (sym (eqb-true x c e)) h

itself : (x : ℕ) → ((x == 34) || (x == 92) || (x == 47)) ≡ true → length (escape_byte x) ≤ 2
unfolding escape_byte
itself x e =
    elim (or_cases ((x == 34) || (x == 92)) (x == 47) e) [
      | inl f ↦ elim (or_cases (x == 34) (x == 92) f) [ inl g ↦ this x 34 g (omega arith) | inr g ↦ this x 92 g (omega arith) ]
      | inr f ↦ this x 47 f (omega arith)
    ]

short_size : (x : ℕ) → Two (short_escape x)
unfolding short_escape escape_byte
short_size x =
    choose ((x == 34) || (x == 92) || (x == 47)) _ _ (itself x)
    (choose (x == 98) _ _ (λ e. omega arith) (choose (x == 102) _ _ (λ e. omega arith) (choose (x == 110) _ _ (λ e. omega arith) (choose (x == 114) _ _ (λ e. omega arith) (choose (x == 116) _ _ (λ e. omega arith) tt)))))

two_of : (o : Option ℕ) (c : ℕ) → Two o → o ≡ Some c → length (escape_byte c) ≤ 2
two_of o c h e = subst Two e h

-- ---- the lexer inside a string

stays : (o s : Bool) (x : ℕ) (xs : List ℕ) (k : Mode → List Lexeme) → lex_byte in_string (cond o operator (cond s space other)) x xs k ≡ k in_string
stays true s x xs k = refl
stays false true x xs k = refl
stays false false x xs k = refl

lex_plain : (x : ℕ) (xs : List ℕ) → (x == 34) ≡ false → (x == 92) ≡ false → lex in_string (x ∷ xs) ≡ lex in_string xs
unfolding lex
lex_plain x xs q b =
    (λ i. lex_byte in_string (cond (q i) quote (cond (b i) backslash (cond (is_operator x) operator (cond (is_space x) space other)))) x xs (λ m. lex m xs))
    ∙ stays (is_operator x) (is_space x) x xs (λ m. lex m xs)

lex_quote : (x : ℕ) (xs : List ℕ) → (x == 34) ≡ true → lex in_string (x ∷ xs) ≡ lex between xs
unfolding lex
lex_quote x xs q = ap (λ y. lex in_string (y ∷ xs)) (eqb-true x 34 q)

lex_backslash : (x : ℕ) (xs : List ℕ) → (x == 92) ≡ true → lex in_string (x ∷ xs) ≡ lex in_escape xs
unfolding lex
lex_backslash x xs b = ap (λ y. lex in_string (y ∷ xs)) (eqb-true x 92 b)

lex_escape : (x : ℕ) (xs : List ℕ) → lex in_escape (x ∷ xs) ≡ lex in_string xs
unfolding lex
lex_escape x xs = refl

not_this : (c x : ℕ) (t : Bool) → (t ≡ true → x ≡ c) → is_digit c 16 ≡ false → is_digit x 16 ≡ true → t ≡ false
not_this c x false e never h = refl
not_this c x true e never h = absurd (false≢true (sym never ∙ ap (λ y. is_digit y 16) (sym (e refl)) ∙ h))

lex_hex : (x : ℕ) (xs : List ℕ) → is_digit x 16 ≡ true → lex in_string (x ∷ xs) ≡ lex in_string xs
lex_hex x xs h = lex_plain x xs (not_this 34 x (x == 34) (eqb-true x 34) refl h) (not_this 92 x (x == 92) (eqb-true x 92) refl h)

some_hex : (b : Bool) (v u : ℕ) → cond b (Some v) None ≡ Some u → b ≡ true
some_hex true v u h = refl
some_hex false v u h = absurd (let e = ap is_found h in false≢true e)

lex_unit : (a b c d u : ℕ) (xs : List ℕ) → code_unit a b c d ≡ Some u → lex in_string (a ∷ b ∷ c ∷ d ∷ xs) ≡ lex in_string xs
unfolding code_unit
lex_unit a b c d u xs h =
    let p = and_parts (is_digit a 16 && is_digit b 16 && is_digit c 16) (is_digit d 16) (some_hex _ _ _ h) in
    let q = and_parts (is_digit a 16 && is_digit b 16) (is_digit c 16) p.0 in
    let r = and_parts (is_digit a 16) (is_digit b 16) q.0 in
    lex_hex a (b ∷ c ∷ d ∷ xs) r.0 ∙ lex_hex b (c ∷ d ∷ xs) r.1 ∙ lex_hex c (d ∷ xs) q.1 ∙ lex_hex d xs p.1

-- ---- all together

-- how the lexer goes on inside a string
abbrev mode : Within → Mode
mode plain = in_string
mode after_backslash = in_escape
mode after_u = in_string
mode (after_high h) = in_string

-- how many bytes of an escape were passed
abbrev passed : Within → ℕ
passed plain = 0
passed after_backslash = 1
passed after_u = 2
passed (after_high h) = 6

string_lexeme : (behind n : ℕ) (o : Option (List ℕ)) → Fits (1 + behind) (0 + n) o → behind ≤ n → lexeme_size (token (string_token o)) + behind ≤ suc n
string_lexeme behind n None h le = omega arith
string_lexeme behind n (Some s) h le = omega (arith, length-append (escape s) (34 ∷ []))

between_byte : (c : Class) (x : ℕ) (xs : List ℕ) (k : Mode → List Lexeme) → class x ≡ c → size (k between) ≤ length xs → size (k in_word) + word_len xs ≤ length xs → size (k in_string) ≤ length xs
    → Fits (1 + size (k in_string)) (0 + length xs) (content plain xs) → size (lex_byte between c x xs k) ≤ suc (length xs)
between_byte quote x xs k e free word_end inside text = string_lexeme (size (k in_string)) (length xs) (content plain xs) text inside
between_byte backslash x xs k e free word_end inside text = omega arith
between_byte operator x xs k e free word_end inside text = omega (arith, operator_size x)
between_byte space x xs k e free word_end inside text = omega arith
between_byte other x xs k e free word_end inside text =
    let goes : word_len (x ∷ xs) ≡ 1 + word_len xs = ap (λ (d : Class). cond (goes_on d) (1 + word_len xs) 0) e in
    omega (arith, word_size (x ∷ xs))

word_byte : (c : Class) (x n w : ℕ) (xs : List ℕ) (k : Mode → List Lexeme) → size (k between) ≤ n → size (k in_word) + w ≤ n → size (lex_byte in_word c x xs k) + cond (goes_on c) (1 + w) 0 ≤ suc n
word_byte quote x n w xs k free word_end = omega arith
word_byte backslash x n w xs k free word_end = omega arith
word_byte operator x n w xs k free word_end = omega (arith, operator_size x)
word_byte space x n w xs k free word_end = omega arith
word_byte other x n w xs k free word_end = omega arith

string_byte : (c : Class) (x n : ℕ) (xs : List ℕ) (k : Mode → List Lexeme) → size (k between) ≤ n → size (k in_string) ≤ n → size (k in_escape) ≤ n → size (lex_byte in_string c x xs k) ≤ suc n
string_byte quote x n xs k free inside after = omega arith
string_byte backslash x n xs k free inside after = omega arith
string_byte operator x n xs k free inside after = omega arith
string_byte space x n xs k free inside after = omega arith
string_byte other x n xs k free inside after = omega arith

mutual
  unfolding lex content

  -- the lexemes of a text
  pub size-lex : (xs : List ℕ) → size (lex between xs) ≤ length xs
  size-lex [] = omega arith
  size-lex (x ∷ xs) = between_byte (class x) x xs (λ m. lex m xs) refl (size-lex xs) (size-word xs) (size-string xs) (size-content plain xs)

  size-word : (xs : List ℕ) → size (lex in_word xs) + word_len xs ≤ length xs
  size-word [] = omega arith
  size-word (x ∷ xs) = word_byte (class x) x (length xs) (word_len xs) xs (λ m. lex m xs) (size-lex xs) (size-word xs)

  size-string : (xs : List ℕ) → size (lex in_string xs) ≤ length xs
  size-string [] = omega arith
  size-string (x ∷ xs) = string_byte (class x) x (length xs) xs (λ m. lex m xs) (size-lex xs) (size-string xs) (size-escape xs)

  size-escape : (xs : List ℕ) → size (lex in_escape xs) ≤ length xs
  size-escape [] = omega arith
  size-escape (x ∷ xs) = let inside = size-string xs in omega arith

  -- a string's content, escaped, with a quote and what is behind
  size-content : (w : Within) (xs : List ℕ) → Fits (1 + size (lex (mode w) xs)) (passed w + length xs) (content w xs)
  size-content plain [] = tt
  size-content plain (x ∷ xs) =
      let behind = 1 + size (lex in_string (x ∷ xs)) in
      let n = passed plain + length (x ∷ xs) in
      either behind n (x == 34) _ _ (λ q. let rest = size-lex xs in omega (arith, ap size (lex_quote x xs q)))
      (λ q. either behind n (x == 92) _ _
      (λ b. more behind n _ _ (content after_backslash xs) (size-content after_backslash xs) (omega (arith, ap size (lex_backslash x xs b))))
      (λ b. either behind n (nat_lt x 32) _ _ (λ l. tt)
      (λ l. longer behind n _ _ (x ∷ []) (content plain xs) (size-content plain xs) (omega (arith, one_byte x, plain_byte x q b l, ap size (lex_plain x xs q b))))))
  size-content after_backslash [] = tt
  size-content after_backslash (x ∷ xs) =
      let behind = 1 + size (lex in_escape (x ∷ xs)) in
      let n = passed after_backslash + length (x ∷ xs) in
      either behind n (x == 117) _ _
      (λ u. more behind n _ _ (content after_u xs) (size-content after_u xs) (omega (arith, ap size (lex_escape x xs))))
      (λ u. then behind n _ (short_escape x)
      (λ c e. longer behind n _ _ (c ∷ []) (content plain xs) (size-content plain xs) (omega (arith, one_byte c, two_of (short_escape x) c (short_size x) e, ap size (lex_escape x xs)))))
  size-content after_u [] = tt
  size-content after_u (a ∷ []) = tt
  size-content after_u (a ∷ b ∷ []) = tt
  size-content after_u (a ∷ b ∷ c ∷ []) = tt
  size-content after_u (a ∷ b ∷ c ∷ d ∷ xs) =
      let behind = 1 + size (lex in_string (a ∷ b ∷ c ∷ d ∷ xs)) in
      let n = passed after_u + length (a ∷ b ∷ c ∷ d ∷ xs) in
      then behind n _ (code_unit a b c d)
      (λ u e. either behind n (is_high_surrogate u) _ _
      (λ h. more behind n _ _ (content (after_high u) xs) (size-content (after_high u) xs) (omega (arith, ap size (lex_unit a b c d u xs e))))
      (λ h. either behind n (is_low_surrogate u) _ _ (λ l. tt)
      (λ l. longer behind n _ _ (encode_utf8 u) (content plain xs) (size-content plain xs) (omega (arith, character_size u, ap size (lex_unit a b c d u xs e))))))
  size-content (after_high h) [] = tt
  size-content (after_high h) (s ∷ []) = tt
  size-content (after_high h) (s ∷ u ∷ []) = tt
  size-content (after_high h) (s ∷ u ∷ a ∷ []) = tt
  size-content (after_high h) (s ∷ u ∷ a ∷ b ∷ []) = tt
  size-content (after_high h) (s ∷ u ∷ a ∷ b ∷ c ∷ []) = tt
  size-content (after_high h) (s ∷ u ∷ a ∷ b ∷ c ∷ d ∷ xs) =
      let behind = 1 + size (lex in_string (s ∷ u ∷ a ∷ b ∷ c ∷ d ∷ xs)) in
      let n = passed (after_high h) + length (s ∷ u ∷ a ∷ b ∷ c ∷ d ∷ xs) in
      either behind n ((s == 92) && (u == 117)) _ _
      (λ e. then behind n _ (code_unit a b c d)
      (λ l f. either behind n (is_low_surrogate l) _ _
      (λ y. longer behind n _ _ (encode_utf8 (surrogate_pair h l)) (content plain xs) (size-content plain xs)
      (omega (
        arith,
        character_size (surrogate_pair h l),
        ap size (lex_backslash s (u ∷ a ∷ b ∷ c ∷ d ∷ xs) (and_parts (s == 92) (u == 117) e).0 ∙ lex_escape u (a ∷ b ∷ c ∷ d ∷ xs) ∙ lex_unit a b c d l xs f),
      )))
      (λ y. tt))) (λ e. tt)
