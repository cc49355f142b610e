-- What is read of texts that are UTF-8 is a query within all limits, whose texts are UTF-8.
use Rattle.std.proofs.Common.{◌≡◌, ℕ, zero, suc, ◌^◌, ◌<◌, ◌≤◌, Bool, true, false, List, [], ◌∷◌, ◌++◌, length, drop, map, ℤ, pos, negsuc, Option, Some, None, Ok, IsUtf8, refl, sym, ap, ◌∙◌, subst, arith, append_assoc, codes, lit<, ltb-true}
use Rattle.std.proofs.lemmas.Bool.{and_parts}
use Rattle.std.proofs.lemmas.Bool.Decides.{nat_tests}
use Rattle.std.proofs.lemmas.Fmt.{IsAscii-decimal}
use Rattle.std.proofs.lemmas.List.{length-map}
use Rattle.std.proofs.lemmas.List.Elements.{All-from_recursion}
use Rattle.std.proofs.lemmas.Str.{IsUtf8-from_ascii}
use Rattle.std.specs.List.{AllByRecursion, list_all, flat_map}
use Rattle.std.specs.Str.{IsAscii}
use Rattle.query_core.specs.Filters.{Filter, operands_of, height}
use Rattle.query_core.specs.Limits.{IsScalar, IsUtf8Path, IsFilter, AreFilters, IsQuery, leaves, most_leaves, most_height, most_skip, most_take}
use Rattle.query_core.specs.Print.{quoted_byte, is_bare, is_word}
use Rattle.query_core.specs.Window.{Order}
use Rattle.query_core.specs.declared.operator.Op.TheVariants.{Equal, Unequal, Less, AtMost, Greater, AtLeast}
use Rattle.query_lang.specs.Bytes.{is_blank, is_word_byte}
use Rattle.query_lang.specs.FilterText.{IsFilterText}
use Rattle.query_lang.specs.Grammar.{Segment, bare, in_quotes, path_tokens, path_keys, segment_token, segment_key, Value, text_value, number_value, truth_value, null_value, value_token, value_tree, more_values, value_tokens, FilterTree, alternatives, OrTail, no_or, or_and, AndTree, conjuncts, AndTail, no_and, and_not, NotTree, negation, one, Atom, nested, always, never, existing, comparing, listing, holding, filter_tokens, or_tokens, and_tokens, further_tokens, not_tokens, atom_tokens, all_of, any_of, filter_meaning, or_meanings, and_meaning, further_meanings, not_meaning, atom_meaning, FilterFits, OrsFit, AndFits, FurtherFit, NotFits, AtomFits, Item, item_tokens, more_items, order_tokens, direction_tokens, item_meaning, order_meaning, ItemsFit}
use Rattle.query_lang.specs.Lexing.{fits}
use Rattle.q_doc.specs.Limits.{most_segments}
use Rattle.query_lang.specs.Limits.{usual_take}
use Rattle.query_lang.specs.OrderReading.{read_order}
use Rattle.query_lang.specs.OrderText.{IsOrderText}
use Rattle.query_lang.specs.Queries.{filter_field, number_field}
use Rattle.query_lang.specs.Quoted.{unescaped, unescaped_byte}
use Rattle.query_lang.specs.QueryText.{IsFilterField, no_filter, filter_text, IsNumberField, no_number, number_text}
use Rattle.query_lang.specs.Spelling.{word_text, sign_text, spelled, IsToken, Tokenizes}
use Rattle.query_lang.specs.Tokens.{Token, word, name, quoted, number, bad_number, sign}
use Rattle.query_lang.specs.declared.token.Reserved.{Reserved}
use Rattle.query_lang.specs.declared.token.Reserved.TheVariants.{And, Or, Not, In, Has, Exists, True, False, Null, Asc, Desc}
use Rattle.query_lang.specs.declared.token.Sign.{Sign}
use Rattle.query_lang.specs.declared.token.Sign.TheVariants.{Compare, Open, Close, OpenList, CloseList, Comma, Dot}
use Rattle.query_lang.proofs.OrderTextReading.{read_order_text}
use Rattle.query_lang.proofs.QueryTextReading.{filter_found, number_found}
use Rattle.query_lang.proofs.QuotedSpelling.{unescape_spelled}
use Rattle.query_lang.proofs.Utf8Lemmas.{IsUtf8-split, IsUtf8-unescaped}

-- ---- texts before a text that is UTF-8

-- each byte is ASCII
abbrev pub Ascii : List ℕ → Type 0
Ascii = AllByRecursion (λ b. b < 128)

ascii_at : (bs : List ℕ) → Ascii bs → IsAscii bs
ascii_at [] all i = lit< tt
ascii_at (b ∷ bs) all zero = all.0
ascii_at (b ∷ bs) all (suc i) = ascii_at bs all.1 i

pub ascii_utf8 : (bs : List ℕ) → Ascii bs → IsUtf8 bs
ascii_utf8 bs all = IsUtf8-from_ascii bs (ascii_at bs all)

-- after ASCII the text is UTF-8 too
behind_ascii : (prefix rest : List ℕ) → IsAscii prefix → IsUtf8 (prefix ++ rest) → IsUtf8 rest
behind_ascii [] rest ascii utf8 = utf8
behind_ascii (b ∷ bs) rest ascii utf8 = behind_ascii bs rest (λ i. ascii (suc i)) (IsUtf8-split [] (bs ++ rest) b (ascii 0) utf8).1

pub tested_ascii : (p : ℕ → Bool) → ((b : ℕ) → p b ≡ true → b < 128) → (bs : List ℕ) → list_all p bs ≡ true → Ascii bs
tested_ascii p small [] e = tt
tested_ascii p small (b ∷ bs) e = let (here, more) = and_parts (p b) (list_all p bs) e in (small b here, tested_ascii p small bs more)

blank_ascii : (b : ℕ) → is_blank b ≡ true → b < 128
blank_ascii b e = grind (arith, nat_tests)

word_ascii : (b : ℕ) → is_word_byte b ≡ true → b < 128
word_ascii b e = grind (arith, nat_tests)

-- in quotes: what escapes decode to is UTF-8 where they are
unescaped_utf8 : (prefix body : List ℕ) (n : ℕ) → IsUtf8 (prefix ++ drop n body) → IsUtf8 (prefix ++ unescaped n body)
unescaped_utf8 prefix [] zero utf8 = utf8
unescaped_utf8 prefix [] (suc n) utf8 = utf8
unescaped_utf8 prefix (b ∷ bs) (suc n) utf8 = unescaped_utf8 prefix bs n utf8
unescaped_utf8 prefix (b ∷ bs) zero utf8 =
    let p = unescaped_byte b bs in
    subst IsUtf8 (append_assoc prefix (p.0 ∷ []) (unescaped p.1 bs)) (unescaped_utf8 (prefix ++ p.0 ∷ []) bs p.1 (IsUtf8-unescaped prefix b bs utf8))

-- ---- tokens

-- a text that is UTF-8, or a number that fits
abbrev IsSound : Token → Type 0
IsSound (name s) = IsUtf8 s
IsSound (quoted s) = IsUtf8 s
IsSound (number z) = fits z ≡ true
IsSound (word r) = Unit {0}
IsSound bad_number = Unit {0}
IsSound (sign s) = Unit {0}

word_text_ascii : (r : Reserved) → Ascii (word_text r)
word_text_ascii And = tested_ascii is_word_byte word_ascii (codes "and") refl
word_text_ascii Or = tested_ascii is_word_byte word_ascii (codes "or") refl
word_text_ascii Not = tested_ascii is_word_byte word_ascii (codes "not") refl
word_text_ascii In = tested_ascii is_word_byte word_ascii (codes "in") refl
word_text_ascii Has = tested_ascii is_word_byte word_ascii (codes "has") refl
word_text_ascii Exists = tested_ascii is_word_byte word_ascii (codes "exists") refl
word_text_ascii True = tested_ascii is_word_byte word_ascii (codes "true") refl
word_text_ascii False = tested_ascii is_word_byte word_ascii (codes "false") refl
word_text_ascii Null = tested_ascii is_word_byte word_ascii (codes "null") refl
word_text_ascii Asc = tested_ascii is_word_byte word_ascii (codes "asc") refl
word_text_ascii Desc = tested_ascii is_word_byte word_ascii (codes "desc") refl

sign_text_ascii : (s : Sign) → Ascii (sign_text s)
sign_text_ascii (Compare Equal) = (lit< tt, tt)
sign_text_ascii (Compare Unequal) = (lit< tt, (lit< tt, tt))
sign_text_ascii (Compare Less) = (lit< tt, tt)
sign_text_ascii (Compare AtMost) = (lit< tt, (lit< tt, tt))
sign_text_ascii (Compare Greater) = (lit< tt, tt)
sign_text_ascii (Compare AtLeast) = (lit< tt, (lit< tt, tt))
sign_text_ascii Open = (lit< tt, tt)
sign_text_ascii Close = (lit< tt, tt)
sign_text_ascii OpenList = (lit< tt, tt)
sign_text_ascii CloseList = (lit< tt, tt)
sign_text_ascii Comma = (lit< tt, tt)
sign_text_ascii Dot = (lit< tt, tt)

name_ascii : (s : List ℕ) → is_bare s ≡ true → Ascii s
name_ascii s e = tested_ascii is_word_byte word_ascii s (and_parts _ (list_all is_word_byte s) (and_parts (is_word s) _ e).0).1

minus_ascii : (bs : List ℕ) → IsAscii bs → IsAscii (45 ∷ bs)
minus_ascii bs ascii zero = lit< tt
minus_ascii bs ascii (suc i) = ascii i

number_ascii : (z : ℤ) → fits z ≡ true → IsAscii (spelled (number z))
number_ascii (pos n) e = IsAscii-decimal n (let small = ltb-true n (2 ^ 63) e in omega arith)
number_ascii (negsuc n) e = minus_ascii _ (IsAscii-decimal (suc n) (let small = ltb-true n (2 ^ 63) e in omega arith))

-- a token of a text that is UTF-8 is sound, and what follows it is UTF-8
token_sound : (t : Token) (rest : List ℕ) → IsToken t → IsUtf8 (spelled t ++ rest) → IsSound t × IsUtf8 rest
token_sound (word r) rest is utf8 = (tt, behind_ascii (word_text r) rest (ascii_at (word_text r) (word_text_ascii r)) utf8)
token_sound (name s) rest is utf8 = let ascii = name_ascii s is in (ascii_utf8 s ascii, behind_ascii s rest (ascii_at s ascii) utf8)
token_sound (number z) rest is utf8 = (is, behind_ascii (spelled (number z)) rest (number_ascii z is) utf8)
token_sound (sign s) rest is utf8 = (tt, behind_ascii (sign_text s) rest (ascii_at (sign_text s) (sign_text_ascii s)) utf8)
token_sound bad_number rest is utf8 = absurd is
token_sound (quoted s) rest is utf8 =
    let body = flat_map quoted_byte s in
    let inside : IsUtf8 ((body ++ 34 ∷ []) ++ rest) = (IsUtf8-split [] ((body ++ 34 ∷ []) ++ rest) 34 (lit< tt) utf8).1 in
    let (before, after) = IsUtf8-split body rest 34 (lit< tt) (subst IsUtf8 (append_assoc body (34 ∷ []) rest) inside) in
    (subst IsUtf8 (unescape_spelled s) (unescaped_utf8 [] body 0 before), after)

abbrev AreSound : List Token → Type 0
AreSound = AllByRecursion IsSound

tokenizes_sound : (ts : List Token) (text : List ℕ) → IsUtf8 text → Tokenizes text ts → AreSound ts
tokenizes_sound [] text utf8 tokenizes = tt
tokenizes_sound (t ∷ ts) text utf8 (blanks, rest, begins, more) =
    let blank = ascii_at blanks (tested_ascii is_blank blank_ascii blanks begins.blank) in
    let (sound, after) = token_sound t rest begins.is_token (behind_ascii blanks (spelled t ++ rest) blank (subst IsUtf8 begins.parts utf8)) in
    (sound, tokenizes_sound ts rest after more)

-- ---- paths and values

segment_sound : (s : Segment) → IsSound (segment_token s) → IsUtf8 (segment_key s)
segment_sound (bare s) sound = sound
segment_sound (in_quotes s) sound = sound

keys_sound : (s : Segment) (ss : List Segment) (rest : List Token) → AreSound (path_tokens s ss rest) → AllByRecursion IsUtf8 (path_keys s ss) × AreSound rest
keys_sound s [] rest all = ((segment_sound s all.0, tt), all.1)
keys_sound s (m ∷ ms) rest all = let (keys, after) = keys_sound m ms rest all.1.1 in ((segment_sound s all.0, keys), after)

path_sound : (s : Segment) (ss : List Segment) (rest : List Token) → length ss < most_segments → AreSound (path_tokens s ss rest) → IsUtf8Path (path_keys s ss) × AreSound rest
path_sound s ss rest few all =
    let (keys, after) = keys_sound s ss rest all in
    let count = length-map ss segment_key in
    (record { length_fits = (omega arith, omega arith); utf8 = All-from_recursion IsUtf8 (path_keys s ss) keys }, after)

number_small : (z : ℤ) → fits z ≡ true → IsScalar (value_tree (number_value z))
number_small (pos n) e = record { scalar = refl; value = ltb-true n (2 ^ 63) e; utf8 = tt }
number_small (negsuc n) e = record { scalar = refl; value = ltb-true n (2 ^ 63) e; utf8 = tt }

value_sound : (v : Value) → IsSound (value_token v) → IsScalar (value_tree v)
value_sound (text_value s) sound = record { scalar = refl; value = tt; utf8 = sound }
value_sound (number_value z) sound = number_small z sound
value_sound (truth_value b) sound = record { scalar = refl; value = tt; utf8 = tt }
value_sound null_value sound = record { scalar = refl; value = tt; utf8 = tt }

abbrev AreScalars : List Value → Type 0
AreScalars vs = AllByRecursion IsScalar (map value_tree vs)

more_sound : (vs : List Value) (rest : List Token) → AreSound (more_values vs rest) → AreScalars vs × AreSound rest
more_sound [] rest all = (tt, all)
more_sound (v ∷ vs) rest all = let (more, after) = more_sound vs rest all.1.1 in ((value_sound v all.1.0, more), after)

values_sound : (vs : List Value) (rest : List Token) → AreSound (value_tokens vs rest) → AreScalars vs × AreSound rest
values_sound [] rest all = (tt, all)
values_sound (v ∷ vs) rest all = let (more, after) = more_sound vs rest all.1 in ((value_sound v all.0, more), after)

-- ---- filters

operands_sound : (fs : List Filter) → AllByRecursion IsFilter fs → AreFilters (operands_of fs)
operands_sound [] all = tt
operands_sound (f ∷ fs) all = (all.0, operands_sound fs all.1)

all_sound : (f : Filter) (fs : List Filter) → IsFilter f → AllByRecursion IsFilter fs → IsFilter (all_of (f ∷ fs))
all_sound f [] here more = here
all_sound f (g ∷ gs) here more = (omega arith, operands_sound (f ∷ g ∷ gs) (here, more))

any_sound : (f : Filter) (fs : List Filter) → IsFilter f → AllByRecursion IsFilter fs → IsFilter (any_of (f ∷ fs))
any_sound f [] here more = here
any_sound f (g ∷ gs) here more = (omega arith, operands_sound (f ∷ g ∷ gs) (here, more))

mutual
  filter_sound : (k : ℕ) (t : FilterTree) (rest : List Token) → FilterFits k t → AreSound (filter_tokens t rest) → IsFilter (filter_meaning t) × AreSound rest
  filter_sound k (alternatives a os) rest fit all =
      let (here, behind) = and_sound k a (or_tokens os rest) fit.0 all in
      let (more, after) = ors_sound k os rest fit.1 behind in
      (any_sound (and_meaning a) (or_meanings os) here more, after)

  ors_sound : (k : ℕ) (os : OrTail) (rest : List Token) → OrsFit k os → AreSound (or_tokens os rest) → AllByRecursion IsFilter (or_meanings os) × AreSound rest
  ors_sound k no_or rest fit all = (tt, all)
  ors_sound k (or_and a os) rest fit all =
      let (here, behind) = and_sound k a (or_tokens os rest) fit.0 all.1 in
      let (more, after) = ors_sound k os rest fit.1 behind in
      ((here, more), after)

  and_sound : (k : ℕ) (a : AndTree) (rest : List Token) → AndFits k a → AreSound (and_tokens a rest) → IsFilter (and_meaning a) × AreSound rest
  and_sound k (conjuncts n ns) rest fit all =
      let (here, behind) = not_sound k n (further_tokens ns rest) fit.0 all in
      let (more, after) = further_sound k ns rest fit.1 behind in
      (all_sound (not_meaning n) (further_meanings ns) here more, after)

  further_sound : (k : ℕ) (ns : AndTail) (rest : List Token) → FurtherFit k ns → AreSound (further_tokens ns rest) → AllByRecursion IsFilter (further_meanings ns) × AreSound rest
  further_sound k no_and rest fit all = (tt, all)
  further_sound k (and_not n ns) rest fit all =
      let (here, behind) = not_sound k n (further_tokens ns rest) fit.0 all.1 in
      let (more, after) = further_sound k ns rest fit.1 behind in
      ((here, more), after)

  not_sound : (k : ℕ) (n : NotTree) (rest : List Token) → NotFits k n → AreSound (not_tokens n rest) → IsFilter (not_meaning n) × AreSound rest
  not_sound k (negation n) rest fit all = not_sound k n rest fit all.1
  not_sound k (one a) rest fit all = atom_sound k a rest fit all

  atom_sound : (k : ℕ) (a : Atom) (rest : List Token) → AtomFits k a → AreSound (atom_tokens a rest) → IsFilter (atom_meaning a) × AreSound rest
  atom_sound k (nested t) rest fit all = let (here, behind) = filter_sound (suc k) t (sign Close ∷ rest) fit.1 all.1 in (here, behind.1)
  atom_sound k always rest fit all = (tt, all.1)
  atom_sound k never rest fit all = (tt, all.1)
  atom_sound k (existing s ss) rest fit all = path_sound s ss rest fit all.1
  atom_sound k (comparing s ss op v) rest fit all =
      let (path, behind) = path_sound s ss (sign (Compare op) ∷ value_token v ∷ rest) fit all in ((path, value_sound v behind.1.0), behind.1.1)
  atom_sound k (holding s ss v) rest fit all =
      let (path, behind) = path_sound s ss (word Has ∷ value_token v ∷ rest) fit all in ((path, value_sound v behind.1.0), behind.1.1)
  atom_sound k (listing s ss vs) rest fit all =
      let (path, behind) = path_sound s ss (word In ∷ sign OpenList ∷ value_tokens vs (sign CloseList ∷ rest)) fit all in
      let (values, after) = values_sound vs (sign CloseList ∷ rest) behind.1.1 in
      ((path, All-from_recursion IsScalar (map value_tree vs) values), after.1)

filter_text_sound : (text : List ℕ) (f : Filter) → IsUtf8 text → IsFilterText text f → IsFilter f
filter_text_sound text f utf8 is =
    subst IsFilter is.means (filter_sound 0 is.tree [] is.fits (tokenizes_sound (filter_tokens is.tree []) text utf8 is.tokenizes)).0

-- ---- orders

-- each path is such
abbrev ArePaths : Order → Type 0
ArePaths = AllByRecursion (λ p. IsUtf8Path p.0)

direction_sound : (i : Item) (rest : List Token) → AreSound (direction_tokens i.direction rest) → AreSound rest
direction_sound i rest all = go i.direction all where
  go : (d : Option Bool) → AreSound (direction_tokens d rest) → AreSound rest
  go None all = all
  go (Some false) all = all.1
  go (Some true) all = all.1

item_sound : (i : Item) (rest : List Token) → length i.others < most_segments → AreSound (item_tokens i rest) → IsUtf8Path (path_keys i.first i.others) × AreSound rest
item_sound i rest few all =
    let (path, behind) = path_sound i.first i.others (direction_tokens i.direction rest) few all in
    (path, direction_sound i rest behind)

items_sound : (is : List Item) → ItemsFit is → AreSound (more_items is []) → ArePaths (order_meaning is)
items_sound [] fit all = tt
items_sound (i ∷ is) fit all = let (here, behind) = item_sound i (more_items is []) fit.0 all.1 in (here, items_sound is fit.1 behind)

order_sound : (is : List Item) → ItemsFit is → AreSound (order_tokens is []) → ArePaths (order_meaning is)
order_sound [] fit all = tt
order_sound (i ∷ is) fit all = let (here, behind) = item_sound i (more_items is []) fit.0 all in (here, items_sound is fit.1 behind)

order_text_sound : (text : List ℕ) (order : Order) → IsUtf8 text → IsOrderText text order → ArePaths order
order_text_sound text order utf8 is =
    subst ArePaths is.means (order_sound is.items is.fits (tokenizes_sound (order_tokens is.items []) text utf8 is.tokenizes))

-- ---- queries

-- the filter is one of the language, within its limits
abbrev IsWithin : Filter → Type 0
IsWithin f = IsFilter f × (leaves f ≤ most_leaves) × (height f ≤ most_height)

filter_field_sound : (text : List ℕ) (f : Filter) → IsUtf8 text → IsFilterField text f → IsWithin f
filter_field_sound text f utf8 (no_filter empty is) = subst IsWithin (sym is) (tt, omega arith, omega arith)
filter_field_sound text f utf8 (filter_text is few low) = (filter_text_sound text f utf8 is, few, low)

number_field_sound : (low high default : ℕ) (text : List ℕ) (n : ℕ) → low ≤ default → default ≤ high → IsNumberField low high default text n → (low ≤ n) × (n ≤ high)
number_field_sound low high default text n above below (no_number empty is) = (omega arith, omega arith)
number_field_sound low high default text n above below (number_text is more less) = (more, less)

-- the parts that are read of fields make a query
pub fields_are_query : (collection f o s n : List ℕ) (filter : Filter) (order : Order) (skip take : ℕ) → IsUtf8 f → IsUtf8 o
    → filter_field f ≡ Ok filter → read_order o ≡ Ok order → number_field 115 0 most_skip 0 s ≡ Ok skip → number_field 110 1 most_take usual_take n ≡ Ok take
    → IsQuery (record { collection = collection; filter = filter; order = order; skip = skip; take = take })
fields_are_query collection f o s n filter order skip take f_utf8 o_utf8 f_is o_is s_is n_is =
    let (is_filter, few, low) = filter_field_sound f filter f_utf8 (filter_found f filter f_is) in
    let items = read_order_text o order o_is in
    let count : length order ≡ length items.items = ap length (sym items.means) ∙ length-map items.items item_meaning in
    let skips = number_field_sound 0 most_skip 0 s skip (omega arith) (omega arith) (number_found 115 0 most_skip 0 s skip s_is) in
    let takes = number_field_sound 1 most_take usual_take n take (omega arith) (omega arith) (number_found 110 1 most_take usual_take n take n_is) in
    record {
      filter_is = is_filter;
      few_leaves = few;
      low = low;
      paths = All-from_recursion (λ p. IsUtf8Path p.0) order (order_text_sound o order o_utf8 items);
      few_paths = omega (arith, count, items.few);
      skip_limit = skips.1;
      take_some = takes.0;
      take_limit = takes.1;
    }
