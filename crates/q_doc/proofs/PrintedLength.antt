-- A document that was read takes no more bytes, printed, than the text that it was read from.
use Rattle.std.proofs.Common.{◌≡◌, ℕ, zero, suc, max, ◌+◌, ◌-◌, ◌^◌, ◌<◌, ◌≤◌, ℤ, pos, negsuc, Bool, true, false, not, cond, ◌&&◌, ◌==◌, nat_lt, nat_le, List, [], ◌∷◌, ◌++◌, length, take, drop, get_or, Option, Some, None, option_map, option_and_then, Ordering, Less, Equal, Greater, nat_cmp, decimal, refl, sym, ap, ◌∙◌, subst, arith, append_assoc, append-nil, length-append, length-take, length-drop, ltb-true, leb-true}
use Rattle.std.specs.Prelude.{⊤, unwrap_or}
use Rattle.std.specs.Ordering.{match_ordering}
use Rattle.std.specs.Cmp.Lexicographic.{slice_cmp}
use Rattle.std.specs.Fmt.{signed_decimal}
use Rattle.std.specs.Str.Parse.{digits_value, AllDigits}
use Rattle.std.proofs.lemmas.Bool.{false≢true, and_parts, eqb-true}
use Rattle.std.proofs.lemmas.Fmt.{length-decimal-le}
use Rattle.std.proofs.lemmas.Int.Digits.{digits_value-lt}
use Rattle.json.specs.Token.{Token, begin_object, end_object, begin_array, end_array, key, string, number, boolean, null, bad}
use Rattle.json.specs.Lex.{Lexeme, token, comma, colon, lex, between, Place, fresh, after_value, after_comma, after_key, begins_colon, place_token, punctuate, tokens}
use Rattle.json.specs.Print.{escape, quoted, token_text, begins, ends, separator, print_from}
use Rattle.json.specs.Json as grammar
use Rattle.json.specs.Json.{Parse, after_end_array, read_key}
use Rattle.json.specs.Tree.{json_tokens, items_tokens, members_tokens}
use Rattle.json.proofs.Grammar.{closed_array, read_key_is, key_token}
use Rattle.q_doc.proofs.LexedLength.{lexeme_size, size, size-lex}
use Rattle.q_doc.proofs.ReadData.{of_option_map, of_and_then}

-- ---- commas and colons

front_size : (b : Bool) (xs ys : List ℕ) → length (cond b (44 ∷ []) [] ++ (xs ++ ys)) ≡ cond b 1 0 + (length xs + length ys)
front_size true xs ys = omega (arith, length-append xs ys)
front_size false xs ys = omega (arith, length-append xs ys)

-- the text of one token, and that of the others
token_size : (c : Bool) (t : Token) (ts : List Token) → length (print_from c (t ∷ ts)) ≡ cond (c && begins t) 1 0 + (length (token_text t) + length (print_from (ends t) ts))
unfolding print_from
token_size c t ts = front_size (c && begins t) (token_text t) (print_from (ends t) ts)

-- whether there is a comma before what begins here
abbrev flag : Place → Bool
flag fresh = false
flag after_value = true
flag after_comma = true
flag after_key = false

-- a comma that was passed
abbrev owed : Place → ℕ
owed fresh = 0
owed after_value = 0
owed after_comma = 1
owed after_key = 0

-- a colon that is still to be passed
abbrev due : Place → ℕ
due fresh = 0
due after_value = 0
due after_comma = 0
due after_key = 1

abbrev HasColon : Place → List Lexeme → Type 0
HasColon fresh ls = ⊤
HasColon after_value ls = ⊤
HasColon after_comma ls = ⊤
HasColon after_key ls = begins_colon ls ≡ true

bad_size : (c : Bool) → length (print_from c (bad ∷ [])) ≤ 1
unfolding print_from
bad_size true = omega arith
bad_size false = omega arith

fresh_size : (t : Token) (before_colon : Bool) (k : Place → List Token) (n : ℕ) → length (print_from false (k fresh)) ≤ n → length (print_from true (k after_value)) ≤ n
    → (before_colon ≡ true → length (print_from false (k after_key)) + 1 ≤ n) → length (print_from false (place_token fresh t before_colon k)) ≤ lexeme_size (token t) + n
fresh_size begin_object b k n f v y = omega (arith, token_size false begin_object (k fresh))
fresh_size end_object b k n f v y = omega (arith, token_size false end_object (k after_value))
fresh_size begin_array b k n f v y = omega (arith, token_size false begin_array (k fresh))
fresh_size end_array b k n f v y = omega (arith, token_size false end_array (k after_value))
fresh_size (key s) b k n f v y = omega (arith, bad_size false)
fresh_size (string s) true k n f v y =
    let rest = y refl in
    omega (arith, token_size false (key s) (k after_key), length-append (quoted s) (58 ∷ []))
fresh_size (string s) false k n f v y = omega (arith, token_size false (string s) (k after_value))
fresh_size (number s) b k n f v y = omega (arith, token_size false (number s) (k after_value))
fresh_size (boolean x) b k n f v y = omega (arith, token_size false (boolean x) (k after_value))
fresh_size null b k n f v y = omega (arith, token_size false null (k after_value))
fresh_size bad b k n f v y = omega (arith, bad_size false)

comma_size : (t : Token) (before_colon : Bool) (k : Place → List Token) (n : ℕ) → length (print_from false (k fresh)) ≤ n → length (print_from true (k after_value)) ≤ n
    → (before_colon ≡ true → length (print_from false (k after_key)) + 1 ≤ n) → length (print_from true (place_token after_comma t before_colon k)) ≤ 1 + (lexeme_size (token t) + n)
comma_size begin_object b k n f v y = omega (arith, token_size true begin_object (k fresh))
comma_size end_object b k n f v y = omega (arith, bad_size true)
comma_size begin_array b k n f v y = omega (arith, token_size true begin_array (k fresh))
comma_size end_array b k n f v y = omega (arith, bad_size true)
comma_size (key s) b k n f v y = omega (arith, bad_size true)
comma_size (string s) true k n f v y =
    let rest = y refl in
    omega (arith, token_size true (key s) (k after_key), length-append (quoted s) (58 ∷ []))
comma_size (string s) false k n f v y = omega (arith, token_size true (string s) (k after_value))
comma_size (number s) b k n f v y = omega (arith, token_size true (number s) (k after_value))
comma_size (boolean x) b k n f v y = omega (arith, token_size true (boolean x) (k after_value))
comma_size null b k n f v y = omega (arith, token_size true null (k after_value))
comma_size bad b k n f v y = omega (arith, bad_size true)

value_size : (t : Token) (before_colon : Bool) (k : Place → List Token) (n : ℕ) → length (print_from true (k after_value)) ≤ n
    → length (print_from true (place_token after_value t before_colon k)) ≤ lexeme_size (token t) + n
value_size begin_object b k n v = omega (arith, bad_size true)
value_size end_object b k n v = omega (arith, token_size true end_object (k after_value))
value_size begin_array b k n v = omega (arith, bad_size true)
value_size end_array b k n v = omega (arith, token_size true end_array (k after_value))
value_size (key s) b k n v = omega (arith, bad_size true)
value_size (string s) true k n v = omega (arith, bad_size true)
value_size (string s) false k n v = omega (arith, bad_size true)
value_size (number s) b k n v = omega (arith, bad_size true)
value_size (boolean x) b k n v = omega (arith, bad_size true)
value_size null b k n v = omega (arith, bad_size true)
value_size bad b k n v = omega (arith, bad_size true)

-- the tokens of lexemes take no more, printed
punctuate_size : (p : Place) (ls : List Lexeme) → HasColon p ls → length (print_from (flag p) (punctuate p ls)) + due p ≤ owed p + size ls
unfolding punctuate print_from
punctuate_size fresh [] h = omega arith
punctuate_size after_value [] h = omega arith
punctuate_size after_comma [] h = omega arith
punctuate_size after_key [] h = absurd (false≢true h)
punctuate_size fresh (token t ∷ ls) h =
    let all = fresh_size t (begins_colon ls) (λ p. punctuate p ls) (size ls) (let e = punctuate_size fresh ls tt in omega arith) (let e = punctuate_size after_value ls tt in omega arith) (λ b. let e = punctuate_size after_key ls b in omega arith) in
    omega arith
punctuate_size after_value (token t ∷ ls) h =
    let all = value_size t (begins_colon ls) (λ p. punctuate p ls) (size ls) (let e = punctuate_size after_value ls tt in omega arith) in
    omega arith
punctuate_size after_comma (token t ∷ ls) h =
    let all = comma_size t (begins_colon ls) (λ p. punctuate p ls) (size ls) (let e = punctuate_size fresh ls tt in omega arith) (let e = punctuate_size after_value ls tt in omega arith) (λ b. let e = punctuate_size after_key ls b in omega arith) in
    omega arith
punctuate_size after_key (token t ∷ ls) h = absurd (false≢true h)
punctuate_size fresh (comma ∷ ls) h = omega arith
punctuate_size after_value (comma ∷ ls) h = let e = punctuate_size after_comma ls tt in omega arith
punctuate_size after_comma (comma ∷ ls) h = omega arith
punctuate_size after_key (comma ∷ ls) h = absurd (false≢true h)
punctuate_size fresh (colon ∷ ls) h = omega arith
punctuate_size after_value (colon ∷ ls) h = omega arith
punctuate_size after_comma (colon ∷ ls) h = omega arith
punctuate_size after_key (colon ∷ ls) h = let e = punctuate_size fresh ls tt in omega arith

-- so do the tokens of a text
pub tokens_size : (text : List ℕ) → length (print_from false (tokens text)) ≤ length text
tokens_size text = let all = punctuate_size fresh (lex between text) tt in let lexed = size-lex text in omega arith

-- ---- the grammar takes the tokens of what it finds

-- the parsed text is followed by the rest
abbrev Takes : {A : Type 0} → (A → List Token) → Parse A → Type 0
Takes {A} shown p = (ts : List Token) (a : A) (r : List Token) → p ts ≡ Some (a, r) → ts ≡ shown a ++ r

first_part : {A : Type 0} (a b : A) (r s : List Token) → ◌≡◌ {A = A × List Token} (a, r) (b, s) → a ≡ b
first_part {A} a b r s e = ap (λ (p : A × List Token). p.0) e

second_part : {A : Type 0} (a b : A) (r s : List Token) → ◌≡◌ {A = A × List Token} (a, r) (b, s) → r ≡ s
second_part {A} a b r s e = ap (λ (p : A × List Token). p.1) e

some_pair : {A : Type 0} (x y : A × List Token) → Some x ≡ Some y → x ≡ y
some_pair x y e = ap (λ o. unwrap_or o y) e

-- what was parsed, under a constructor
mapped : {A B : Type 0} (shown : A → List Token) (made : B → List Token) (f : A → B) (head ts : List Token) (o : Option (A × List Token)) (b : B) (r : List Token)
    → ((a : A) (s : List Token) → o ≡ Some (a, s) → ts ≡ shown a ++ s) → ((a : A) → made (f a) ≡ head ++ shown a) → grammar.parse_map f o ≡ Some (b, r) → head ++ ts ≡ made b ++ r
mapped {A} {B} shown made f head ts o b r parsed is e =
    let q = of_option_map (λ (p : A × List Token). (f p.0, p.1)) o (b, r) e in
    let same : f q.0.0 ≡ b = first_part (f q.0.0) b q.0.1 r q.2 in
    let rest : q.0.1 ≡ r = second_part (f q.0.0) b q.0.1 r q.2 in
    ap (λ xs. head ++ xs) (parsed q.0.0 q.0.1 q.1) ∙ sym (append_assoc head (shown q.0.0) q.0.1) ∙ ap (λ xs. xs ++ q.0.1) (sym (is q.0.0))
    ∙ ap (λ x. made x ++ q.0.1) same ∙ ap (λ xs. made b ++ xs) rest

never_some : {A : Type 0} {P : Type 0} (a : A) → None ≡ Some a → P
never_some a e = absurd (cc)

-- what was parsed is this, and what is left is that
done : {A : Type 0} (shown : A → List Token) (a b : A) (r s : List Token) → ◌≡◌ {A = Option (A × List Token)} (Some (a, r)) (Some (b, s)) → shown a ++ r ≡ shown b ++ s
done {A} shown a b r s e =
    let pair = some_pair (a, r) (b, s) e in
    ap (λ x. shown x ++ r) (first_part a b r s pair) ∙ ap (λ xs. shown b ++ xs) (second_part a b r s pair)

module _ (p : Parse grammar.Json) (takes : Takes json_tokens p) where
  items_turn : (more : Parse grammar.Items) (ts r : List Token) (js : grammar.Items) (o : Option (List Token)) → Takes items_tokens more → after_end_array ts ≡ o
      → grammar.items_step p more ts o ≡ Some (js, r) → ts ≡ items_tokens js ++ r
  items_turn more ts r js (Some rest) again is e = closed_array ts rest is ∙ done items_tokens grammar.no_items js rest r e
  items_turn more ts r js None again is e =
      let q = of_and_then (λ (x : grammar.Json × List Token). grammar.parse_map (grammar.item x.0) (more x.1)) (p ts) (js, r) e in
      takes ts q.0.0 q.0.1 q.1 ∙ mapped items_tokens items_tokens (grammar.item q.0.0) (json_tokens q.0.0) q.0.1 (more q.0.1) js r (again q.0.1) (λ x. refl) q.2

  items_take : (n : ℕ) → Takes items_tokens (grammar.items p n)
  unfolding grammar.items
  items_take zero ts js r e = never_some (js, r) e
  items_take (suc n) ts js r e = items_turn (grammar.items p n) ts r js (after_end_array ts) (items_take n) refl e

  members_turn : (more : Parse grammar.Members) (ts s r : List Token) (ms : grammar.Members) (k : Option (List ℕ)) → Takes members_tokens more → ts ≡ key_token k ∷ s
      → grammar.members_step p more k s ≡ Some (ms, r) → ts ≡ members_tokens ms ++ r
  members_turn more ts s r ms None again is e = is ∙ done members_tokens grammar.no_members ms s r e
  members_turn more ts s r ms (Some k) again is e =
      let q = of_and_then (λ (x : grammar.Json × List Token). grammar.parse_map (grammar.member k x.0) (more x.1)) (p s) (ms, r) e in
      is ∙ ap (λ xs. key k ∷ xs) (takes s q.0.0 q.0.1 q.1)
      ∙ mapped members_tokens members_tokens (grammar.member k q.0.0) (key k ∷ json_tokens q.0.0) q.0.1 (more q.0.1) ms r (again q.0.1) (λ x. refl) q.2

  members_take : (n : ℕ) → Takes members_tokens (grammar.members p n)
  unfolding grammar.members
  members_take zero ts ms r e = never_some (ms, r) e
  members_take (suc n) ts ms r e =
      let q = of_and_then (λ (x : Option (List ℕ) × List Token). grammar.members_step p (grammar.members p n) x.0 x.1) (read_key ts) (ms, r) e in
      members_turn (grammar.members p n) ts q.0.1 r ms q.0.0 (members_take n) (read_key_is ts q.0.0 q.0.1 q.1) q.2

value_with_takes : (a : Parse grammar.Items) (o : Parse grammar.Members) → Takes items_tokens a → Takes members_tokens o → Takes json_tokens (grammar.value_with a o)
value_with_takes a o p q [] j r e = never_some (j, r) e
value_with_takes a o p q (begin_object ∷ ts) j r e = mapped members_tokens json_tokens grammar.object (begin_object ∷ []) ts (o ts) j r (q ts) (λ x. refl) e
value_with_takes a o p q (end_object ∷ ts) j r e = never_some (j, r) e
value_with_takes a o p q (begin_array ∷ ts) j r e = mapped items_tokens json_tokens grammar.array (begin_array ∷ []) ts (a ts) j r (p ts) (λ x. refl) e
value_with_takes a o p q (end_array ∷ ts) j r e = never_some (j, r) e
value_with_takes a o p q (key s ∷ ts) j r e = never_some (j, r) e
value_with_takes a o p q (string s ∷ ts) j r e = done json_tokens (grammar.string s) j ts r e
value_with_takes a o p q (number s ∷ ts) j r e = done json_tokens (grammar.number s) j ts r e
value_with_takes a o p q (boolean b ∷ ts) j r e = done json_tokens (grammar.boolean b) j ts r e
value_with_takes a o p q (null ∷ ts) j r e = done json_tokens grammar.null j ts r e
value_with_takes a o p q (bad ∷ ts) j r e = never_some (j, r) e

value_takes : (depth : ℕ) → Takes json_tokens (grammar.value depth)
unfolding grammar.value
value_takes zero = value_with_takes (λ ts. None) (λ ts. None) (λ ts js r e. never_some (js, r) e) (λ ts ms r e. never_some (ms, r) e)
value_takes (suc d) =
    value_with_takes (λ ts. grammar.items (grammar.value d) (length ts) ts) (λ ts. grammar.members (grammar.value d) (length ts) ts)
    (λ ts. items_take (grammar.value d) (value_takes d) (length ts) ts) (λ ts. members_take (grammar.value d) (value_takes d) (length ts) ts)

-- ---- the bytes of a value of the grammar

abbrev mutual
  -- of a value
  pub json_size : grammar.Json → ℕ
  json_size grammar.null = 4
  json_size (grammar.boolean b) = length (token_text (boolean b))
  json_size (grammar.number s) = length s
  json_size (grammar.string s) = length (quoted s)
  json_size (grammar.array js) = 1 + max 1 (items_size js)
  json_size (grammar.object ms) = 1 + max 1 (members_size ms)

  -- of each element, and what follows it
  pub items_size : grammar.Items → ℕ
  items_size grammar.no_items = 0
  items_size (grammar.item j js) = json_size j + 1 + items_size js

  -- of each member, and what follows it
  pub members_size : grammar.Members → ℕ
  members_size grammar.no_members = 0
  members_size (grammar.member k j ms) = length (quoted k) + 1 + (json_size j + 1) + members_size ms

mutual
  json_printed : (c : Bool) (j : grammar.Json) (r : List Token) → length (print_from c (json_tokens j ++ r)) ≡ cond c 1 0 + (json_size j + length (print_from true r))
  json_printed true grammar.null r = omega (arith, token_size true null r)
  json_printed false grammar.null r = omega (arith, token_size false null r)
  json_printed true (grammar.boolean b) r = omega (arith, token_size true (boolean b) r)
  json_printed false (grammar.boolean b) r = omega (arith, token_size false (boolean b) r)
  json_printed true (grammar.number s) r = omega (arith, token_size true (number s) r)
  json_printed false (grammar.number s) r = omega (arith, token_size false (number s) r)
  json_printed true (grammar.string s) r = omega (arith, token_size true (string s) r)
  json_printed false (grammar.string s) r = omega (arith, token_size false (string s) r)
  json_printed true (grammar.array js) r = omega (arith, token_size true begin_array (items_tokens js ++ r), items_printed_first js r)
  json_printed false (grammar.array js) r = omega (arith, token_size false begin_array (items_tokens js ++ r), items_printed_first js r)
  json_printed true (grammar.object ms) r = omega (arith, token_size true begin_object (members_tokens ms ++ r), members_printed_first ms r)
  json_printed false (grammar.object ms) r = omega (arith, token_size false begin_object (members_tokens ms ++ r), members_printed_first ms r)

  items_printed_first : (js : grammar.Items) (r : List Token) → length (print_from false (items_tokens js ++ r)) ≡ max 1 (items_size js) + length (print_from true r)
  items_printed_first grammar.no_items r = omega (arith, token_size false end_array r)
  items_printed_first (grammar.item j js) r =
      let parts = ap (λ ts. length (print_from false ts)) (append_assoc (json_tokens j) (items_tokens js) r) in
      omega (arith, parts, json_printed false j (items_tokens js ++ r), items_printed js r)

  items_printed : (js : grammar.Items) (r : List Token) → length (print_from true (items_tokens js ++ r)) ≡ 1 + items_size js + length (print_from true r)
  items_printed grammar.no_items r = omega (arith, token_size true end_array r)
  items_printed (grammar.item j js) r =
      let parts = ap (λ ts. length (print_from true ts)) (append_assoc (json_tokens j) (items_tokens js) r) in
      omega (arith, parts, json_printed true j (items_tokens js ++ r), items_printed js r)

  members_printed_first : (ms : grammar.Members) (r : List Token) → length (print_from false (members_tokens ms ++ r)) ≡ max 1 (members_size ms) + length (print_from true r)
  members_printed_first grammar.no_members r = omega (arith, token_size false end_object r)
  members_printed_first (grammar.member k j ms) r =
      let parts = ap (λ ts. length (print_from false (key k ∷ ts))) (append_assoc (json_tokens j) (members_tokens ms) r) in
      omega (
        arith,
        parts,
        token_size false (key k) (json_tokens j ++ (members_tokens ms ++ r)),
        length-append (quoted k) (58 ∷ []),
        json_printed false j (members_tokens ms ++ r),
        members_printed ms r,
      )

  members_printed : (ms : grammar.Members) (r : List Token) → length (print_from true (members_tokens ms ++ r)) ≡ 1 + members_size ms + length (print_from true r)
  members_printed grammar.no_members r = omega (arith, token_size true end_object r)
  members_printed (grammar.member k j ms) r =
      let parts = ap (λ ts. length (print_from true (key k ∷ ts))) (append_assoc (json_tokens j) (members_tokens ms) r) in
      omega (
        arith,
        parts,
        token_size true (key k) (json_tokens j ++ (members_tokens ms ++ r)),
        length-append (quoted k) (58 ∷ []),
        json_printed false j (members_tokens ms ++ r),
        members_printed ms r,
      )

-- a value that a text holds takes no more, printed
pub text_size : (depth : ℕ) (text : List ℕ) (j : grammar.Json) → grammar.value depth (tokens text) ≡ Some (j, []) → json_size j ≤ length text
text_size depth text j e =
    omega (arith, tokens_size text, ap (λ ts. length (print_from false ts)) (value_takes depth (tokens text) j [] e), json_printed false j [])
