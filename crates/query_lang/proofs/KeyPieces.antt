-- The printed parts of a query: no `;` outside quoted texts, no quoted text that is open at the end, and UTF-8.
use Rattle.std.proofs.Common.{◌≡◌, ℕ, suc, ◌+◌, ◌/◌, ◌%◌, ◌^◌, ◌<◌, Bool, true, false, not, ◌&&◌, ◌||◌, ◌==◌, nat_lt, if◌then◌else◌, List, [], ◌∷◌, ◌++◌, length, ℤ, pos, negsuc, Option, Some, None, IsUtf8, refl, sym, ap, ◌∙◌, subst, inl, inr, arith, lit<, codes, append_assoc, ltb-true}
use Rattle.std.proofs.lemmas.Bool.{ne_eqb, le-ltb, ltb-false, and_parts}
use Rattle.std.proofs.lemmas.Bool.Decides.{nat_tests}
use Rattle.std.proofs.lemmas.Fmt.{decimal_is_IsNumeral}
use Rattle.std.proofs.lemmas.List.Elements.{recursion_from_All}
use Rattle.std.proofs.lemmas.Str.{IsUtf8-append}
use Rattle.std.specs.Fmt.{decimal, signed_decimal}
use Rattle.std.specs.List.{flat_map, join_by, list_all, AllByRecursion}
use Rattle.q_doc.specs.Document.{FitsI64}
use Rattle.q_doc.specs.Tree.{Tree, null, boolean, number, text, array, object}
use Rattle.query_core.specs.declared.operator.Op.{Op}
use Rattle.query_core.specs.declared.operator.Op.TheVariants.{Equal, Unequal, Less, AtMost, Greater, AtLeast}
use Rattle.query_core.specs.Filters.{Filter, constant, compared, listed, having, present, negated, every, some, Operands, no_operands, operand}
use Rattle.query_core.specs.Limits.{IsScalar, IsUtf8Path, IsFilter, AreFilters}
use Rattle.query_core.specs.Print.{hex_digit, quoted_byte, quoted, is_bare, is_word, segment_text, path_text, value_text, values_text, op_text, is_every, is_some, in_parentheses, filter_text, every_text, every_rest, some_text, some_rest, order_item_text, order_text}
use Rattle.query_core.specs.Window.{Order}
use Rattle.query_lang.specs.Bytes.{is_digit, is_word_byte}
use Rattle.query_lang.specs.KeyTexts.{after_byte, is_end, part_len}
use Rattle.query_lang.specs.declared.key_parts.Quoting.{Quoting}
use Rattle.query_lang.specs.declared.key_parts.Quoting.TheVariants.{Outside, Inside}
use Rattle.query_lang.proofs.NumberSpelling.{digits_pass}
use Rattle.query_lang.proofs.ReadQueries.{Ascii, ascii_utf8, tested_ascii}
use Rattle.query_lang.proofs.Utf8Lemmas.{tested, IsUtf8-split}

-- ---- a text byte by byte

-- where the byte after a text is, where no byte of it ends a part
abbrev pub passes : Quoting → List ℕ → Option Quoting
passes q [] = Some q
passes q (b ∷ bs) = if is_end q b then None else passes (after_byte q b) bs

passes-append : (q r : Quoting) (xs ys : List ℕ) → passes q xs ≡ Some r → passes q (xs ++ ys) ≡ passes r ys
passes-append q r [] ys e = ap (λ s. passes s ys) (let same : q ≡ r = cc in same)
passes-append q r (x ∷ xs) ys e =
    elim (tested (is_end q x)) [
      | inl ends ↦ absurd (let no = rw ends at e in cc)
      | inr on ↦ rw on (passes-append (after_byte q x) r xs ys (rw on at e))
    ]

-- a `;` after a text that ends outside quoted texts ends a part
pub part_len-ends : (q : Quoting) (xs rest : List ℕ) → passes q xs ≡ Some Outside → part_len q (xs ++ 59 ∷ rest) ≡ length xs
part_len-ends q [] rest e = ap (λ s. part_len s (59 ∷ rest)) (let same : q ≡ Outside = cc in same)
part_len-ends q (x ∷ xs) rest e =
    elim (tested (is_end q x)) [
      | inl ends ↦ absurd (let no = rw ends at e in cc)
      | inr on ↦ rw on (let more = part_len-ends (after_byte q x) xs rest (rw on at e) in omega (arith, more))
    ]

-- ---- pieces

-- a text that a part may have within it
pub record IsPiece (xs : List ℕ) : Type 0 where
  pub closed : passes Outside xs ≡ Some Outside
  pub utf8 : IsUtf8 xs

pub piece-append : (xs ys : List ℕ) → IsPiece xs → IsPiece ys → IsPiece (xs ++ ys)
piece-append xs ys p q = record { closed = passes-append Outside Outside xs ys p.closed ∙ q.closed; utf8 = IsUtf8-append xs ys p.utf8 q.utf8 }

-- an ASCII byte but a quote and a `;`
abbrev pub is_plain : ℕ → Bool
is_plain b = nat_lt b 128 && not (b == 34) && not (b == 59)

plain_ascii : (b : ℕ) → is_plain b ≡ true → b < 128
plain_ascii b e = grind (arith, nat_tests)

plain_closed : (bs : List ℕ) → list_all is_plain bs ≡ true → passes Outside bs ≡ Some Outside
plain_closed [] e = refl
plain_closed (b ∷ bs) e =
    let (here, more) = and_parts (is_plain b) (list_all is_plain bs) e in
    let no_end : (b == 59) ≡ false = grind (arith, nat_tests) in
    let no_quote : (b == 34) ≡ false = grind (arith, nat_tests) in
    rw (no_end, no_quote) (plain_closed bs more)

pub plain : (bs : List ℕ) → list_all is_plain bs ≡ true → IsPiece bs
plain bs e = record { closed = plain_closed bs e; utf8 = ascii_utf8 bs (tested_ascii is_plain plain_ascii bs e) }

all_pass : (p q : ℕ → Bool) → ((b : ℕ) → p b ≡ true → q b ≡ true) → (bs : List ℕ) → list_all p bs ≡ true → list_all q bs ≡ true
all_pass p q to [] e = refl
all_pass p q to (b ∷ bs) e = let (here, more) = and_parts (p b) (list_all p bs) e in rw (to b here) (all_pass p q to bs more)

word_plain : (b : ℕ) → is_word_byte b ≡ true → is_plain b ≡ true
word_plain b e = grind (arith, nat_tests)

digit_plain : (b : ℕ) → is_digit b ≡ true → is_plain b ≡ true
digit_plain b e = grind (arith, nat_tests)

-- ---- quoted texts

hex_inside : (n : ℕ) → ((hex_digit n == 34) ≡ false) × ((hex_digit n == 92) ≡ false)
hex_inside n =
    elim (tested (nat_lt n 10)) [
      | inl digit ↦ (let low = ltb-true n 10 digit in (rw digit (ne_eqb (48 + n) 34 (λ e. omega arith)), rw digit (ne_eqb (48 + n) 92 (λ e. omega arith))))
      | inr letter ↦ (let high = ltb-false n 10 letter in (rw letter (ne_eqb (87 + n) 34 (λ e. omega arith)), rw letter (ne_eqb (87 + n) 92 (λ e. omega arith))))
    ]

hex_ascii : (n : ℕ) → n < 16 → hex_digit n < 128
hex_ascii n small = elim (tested (nat_lt n 10)) [ inl digit ↦ rw digit (omega arith) | inr letter ↦ rw letter (omega arith) ]

-- the spelling of a byte stays inside
inside_byte : (b : ℕ) → passes Inside (quoted_byte b) ≡ Some Inside
inside_byte b =
    elim (tested (b == 34)) [
      | inl quote ↦ rw quote refl
      | inr no_quote ↦ elim (tested (b == 92)) [
        | inl backslash ↦ rw (no_quote, backslash) refl
        | inr no_backslash ↦ elim (tested (nat_lt b 32)) [
          | inl control ↦ (
              let high = hex_inside (b / 16) in
              let low = hex_inside (b % 16) in
              rw (no_quote, no_backslash, control) (rw (high.0, high.1, low.0, low.1) refl))
          | inr other ↦ rw (no_quote, no_backslash, other) (rw (no_quote, no_backslash) refl)
        ]
      ]
    ]

inside_text : (s : List ℕ) → passes Inside (flat_map quoted_byte s) ≡ Some Inside
inside_text [] = refl
inside_text (b ∷ s) = passes-append Inside Inside (quoted_byte b) (flat_map quoted_byte s) (inside_byte b) ∙ inside_text s

-- the spelling of an ASCII byte is ASCII
ascii_byte : (b : ℕ) → b < 128 → Ascii (quoted_byte b)
ascii_byte b small =
    elim (tested (b == 34)) [
      | inl quote ↦ rw quote (lit< tt, (lit< tt, tt))
      | inr no_quote ↦ elim (tested (b == 92)) [
        | inl backslash ↦ rw (no_quote, backslash) (lit< tt, (lit< tt, tt))
        | inr no_backslash ↦ elim (tested (nat_lt b 32)) [
          | inl control ↦ (
              let below = ltb-true b 32 control in
              rw (no_quote, no_backslash, control) (lit< tt, (lit< tt, (lit< tt, (lit< tt, (hex_ascii (b / 16) (omega arith), (hex_ascii (b % 16) (omega arith), tt)))))))
          | inr other ↦ rw (no_quote, no_backslash, other) (small, tt)
        ]
      ]
    ]

-- so the spelling of a text is UTF-8 where the text is
spelled_utf8 : (prefix s : List ℕ) → IsUtf8 (prefix ++ s) → IsUtf8 (prefix ++ flat_map quoted_byte s)
spelled_utf8 prefix [] utf8 = utf8
spelled_utf8 prefix (b ∷ s) utf8 =
    elim (tested (nat_lt b 128)) [
      | inl ascii ↦ (
          let small = ltb-true b 128 ascii in
          let (before, after) = IsUtf8-split prefix s b small utf8 in
          IsUtf8-append prefix (quoted_byte b ++ flat_map quoted_byte s) before
          (IsUtf8-append (quoted_byte b) (flat_map quoted_byte s) (ascii_utf8 (quoted_byte b) (ascii_byte b small)) (spelled_utf8 [] s after)))
      | inr wide ↦ (
          let high = ltb-false b 128 wide in
          let itself : quoted_byte b ≡ b ∷ [] = rw (ne_eqb b 34 (λ e. omega arith), ne_eqb b 92 (λ e. omega arith), le-ltb b 32 (omega arith)) refl in
          let moved = spelled_utf8 (prefix ++ b ∷ []) s (subst IsUtf8 (sym (append_assoc prefix (b ∷ []) s)) utf8) in
          subst (λ x. IsUtf8 (prefix ++ (x ++ flat_map quoted_byte s))) (sym itself) (subst IsUtf8 (append_assoc prefix (b ∷ []) (flat_map quoted_byte s)) moved))
    ]

quoted_piece : (s : List ℕ) → IsUtf8 s → IsPiece (quoted s)
quoted_piece s utf8 = record {
  closed = passes-append Inside Inside (flat_map quoted_byte s) (34 ∷ []) (inside_text s);
  utf8 = IsUtf8-append (34 ∷ []) (flat_map quoted_byte s ++ 34 ∷ []) (ascii_utf8 (34 ∷ []) (lit< tt, tt))
      (IsUtf8-append (flat_map quoted_byte s) (34 ∷ []) (spelled_utf8 [] s utf8) (ascii_utf8 (34 ∷ []) (lit< tt, tt)));
}

-- ---- paths, values and numbers

each : {X : Type 0} (P Q : X → Type 0) → ((x : X) → P x → Q x) → (xs : List X) → AllByRecursion P xs → AllByRecursion Q xs
each P Q to [] all = tt
each P Q to (x ∷ xs) all = (to x all.0, each P Q to xs all.1)

module _ {X : Type 0} (f : X → List ℕ) (between : List ℕ) (is : IsPiece between) where
  more_pieces : (xs : List X) → AllByRecursion (λ x. IsPiece (f x)) xs → IsPiece (flat_map (λ y. between ++ f y) xs)
  more_pieces [] all = plain [] refl
  more_pieces (x ∷ xs) all = piece-append (between ++ f x) (flat_map (λ y. between ++ f y) xs) (piece-append between (f x) is all.0) (more_pieces xs all.1)

  joined_pieces : (xs : List X) → AllByRecursion (λ x. IsPiece (f x)) xs → IsPiece (join_by f between xs)
  joined_pieces [] all = plain [] refl
  joined_pieces (x ∷ xs) all = piece-append (f x) (flat_map (λ y. between ++ f y) xs) all.0 (more_pieces xs all.1)

segment_piece : (k : List ℕ) → IsUtf8 k → IsPiece (segment_text k)
segment_piece k utf8 =
    elim (tested (is_bare k)) [
      | inl bare ↦ rw bare (plain k (all_pass is_word_byte is_plain word_plain k (and_parts _ (list_all is_word_byte k) (and_parts (is_word k) _ bare).0).1))
      | inr other ↦ rw other (quoted_piece k utf8)
    ]

path_piece : (p : List (List ℕ)) → IsUtf8Path p → IsPiece (path_text p)
path_piece p is = joined_pieces segment_text (codes ".") (plain (codes ".") refl) p (each IsUtf8 (λ k. IsPiece (segment_text k)) segment_piece p (recursion_from_All IsUtf8 p is.utf8))

pub decimal_piece : (n : ℕ) → n < 2 ^ 64 → IsPiece (decimal n)
decimal_piece n small = plain (decimal n) (all_pass is_digit is_plain digit_plain (decimal n) (digits_pass (decimal n) (decimal_is_IsNumeral n small).0.1))

number_piece : (z : ℤ) → FitsI64 z → IsPiece (signed_decimal z)
number_piece (pos n) small = decimal_piece n (omega (arith, small))
number_piece (negsuc n) small = piece-append (45 ∷ []) (decimal (suc n)) (plain (45 ∷ []) refl) (decimal_piece (suc n) (omega (arith, small)))

value_piece : (v : Tree) → IsScalar v → IsPiece (value_text v)
value_piece null is = plain (codes "null") refl
value_piece (boolean true) is = plain (codes "true") refl
value_piece (boolean false) is = plain (codes "false") refl
value_piece (number z) is = number_piece z is.value
value_piece (text s) is = quoted_piece s is.utf8
value_piece (array ts) is = plain [] refl
value_piece (object ms) is = plain [] refl

values_piece : (vs : List Tree) → AllByRecursion IsScalar vs → IsPiece (values_text vs)
values_piece vs all = joined_pieces value_text (codes ", ") (plain (codes ", ") refl) vs (each IsScalar (λ v. IsPiece (value_text v)) value_piece vs all)

op_piece : (op : Op) → IsPiece (op_text op)
op_piece Equal = plain (codes "=") refl
op_piece Unequal = plain (codes "!=") refl
op_piece Less = plain (codes "<") refl
op_piece AtMost = plain (codes "<=") refl
op_piece Greater = plain (codes ">") refl
op_piece AtLeast = plain (codes ">=") refl

-- ---- filters and orders

parentheses_piece : (inside : Bool) (s : List ℕ) → IsPiece s → IsPiece (in_parentheses inside s)
parentheses_piece true s p = piece-append (codes "(" ++ s) (codes ")") (piece-append (codes "(") s (plain (codes "(") refl) p) (plain (codes ")") refl)
parentheses_piece false s p = p

mutual
  pub filter_piece : (f : Filter) → IsFilter f → IsPiece (filter_text f)
  filter_piece (constant true) is = plain (codes "true") refl
  filter_piece (constant false) is = plain (codes "false") refl
  filter_piece (compared p op v) is =
      let begin = piece-append (path_text p) (codes " ") (path_piece p is.0) (plain (codes " ") refl) in
      let compares = piece-append (path_text p ++ codes " ") (op_text op) begin (op_piece op) in
      piece-append (path_text p ++ codes " " ++ op_text op ++ codes " ") (value_text v)
      (piece-append (path_text p ++ codes " " ++ op_text op) (codes " ") compares (plain (codes " ") refl)) (value_piece v is.1)
  filter_piece (listed p vs) is =
      let begin = piece-append (path_text p) (codes " in [") (path_piece p is.0) (plain (codes " in [") refl) in
      piece-append (path_text p ++ codes " in [" ++ values_text vs) (codes "]")
      (piece-append (path_text p ++ codes " in [") (values_text vs) begin (values_piece vs (recursion_from_All IsScalar vs is.1))) (plain (codes "]") refl)
  filter_piece (having p v) is =
      piece-append (path_text p ++ codes " has ") (value_text v) (piece-append (path_text p) (codes " has ") (path_piece p is.0) (plain (codes " has ") refl)) (value_piece v is.1)
  filter_piece (present p) is = piece-append (codes "exists ") (path_text p) (plain (codes "exists ") refl) (path_piece p is)
  filter_piece (negated f) is = piece-append (codes "not ") (in_parentheses (is_every f || is_some f) (filter_text f)) (plain (codes "not ") refl) (parentheses_piece (is_every f || is_some f) (filter_text f) (filter_piece f is))
  filter_piece (every fs) is = every_piece fs is.1
  filter_piece (some fs) is = some_piece fs is.1

  every_piece : (fs : Operands) → AreFilters fs → IsPiece (every_text fs)
  every_piece no_operands all = plain [] refl
  every_piece (operand f fs) all =
      piece-append (in_parentheses (is_every f || is_some f) (filter_text f)) (every_rest fs) (parentheses_piece (is_every f || is_some f) (filter_text f) (filter_piece f all.0)) (every_rest_piece fs all.1)

  every_rest_piece : (fs : Operands) → AreFilters fs → IsPiece (every_rest fs)
  every_rest_piece no_operands all = plain [] refl
  every_rest_piece (operand f fs) all =
      piece-append (codes " and " ++ in_parentheses (is_every f || is_some f) (filter_text f)) (every_rest fs)
      (piece-append (codes " and ") (in_parentheses (is_every f || is_some f) (filter_text f)) (plain (codes " and ") refl) (parentheses_piece (is_every f || is_some f) (filter_text f) (filter_piece f all.0)))
      (every_rest_piece fs all.1)

  some_piece : (fs : Operands) → AreFilters fs → IsPiece (some_text fs)
  some_piece no_operands all = plain [] refl
  some_piece (operand f fs) all =
      piece-append (in_parentheses (is_some f) (filter_text f)) (some_rest fs) (parentheses_piece (is_some f) (filter_text f) (filter_piece f all.0)) (some_rest_piece fs all.1)

  some_rest_piece : (fs : Operands) → AreFilters fs → IsPiece (some_rest fs)
  some_rest_piece no_operands all = plain [] refl
  some_rest_piece (operand f fs) all =
      piece-append (codes " or " ++ in_parentheses (is_some f) (filter_text f)) (some_rest fs)
      (piece-append (codes " or ") (in_parentheses (is_some f) (filter_text f)) (plain (codes " or ") refl) (parentheses_piece (is_some f) (filter_text f) (filter_piece f all.0)))
      (some_rest_piece fs all.1)

item_piece : (p : List (List ℕ) × Bool) → IsUtf8Path p.0 → IsPiece (order_item_text p)
item_piece (p, true) is = piece-append (path_text p) (codes " desc") (path_piece p is) (plain (codes " desc") refl)
item_piece (p, false) is = piece-append (path_text p) [] (path_piece p is) (plain [] refl)

pub order_piece : (ps : Order) → AllByRecursion (λ p. IsUtf8Path p.0) ps → IsPiece (order_text ps)
order_piece ps all = joined_pieces order_item_text (codes ",") (plain (codes ",") refl) ps (each (λ p. IsUtf8Path p.0) (λ p. IsPiece (order_item_text p)) item_piece ps all)
