-- The reading of a query's fields, and their grammar.
use Rattle.std.proofs.Common.{◌≡◌, ℕ, ◌^◌, ◌<◌, ◌≤◌, true, false, cond, ◌&&◌, ◌||◌, ◌==◌, nat_lt, nat_le, List, [], ◌∷◌, ◌++◌, length, ℤ, pos, negsuc, Result, Ok, Err, IfOk, refl, sym, ap, ◌∙◌, subst, inl, inr, arith, codes, append-nil, eqb-true, lit<}
use Rattle.std.proofs.lemmas.Bool.{lt-ltb, le-ltb, le-leb, ltb-false, leb-true, ne_eqb, and_parts}
use Rattle.std.proofs.lemmas.Fmt.{decimal_is_IsNumeral}
use Rattle.std.proofs.lemmas.Slice.Eq.{bytes_eq-Decides}
use Rattle.std.specs.Fmt.{decimal}
use Rattle.std.specs.Str.{bytes_eq}
use Rattle.query_core.specs.Filters.{Filter, constant, height}
use Rattle.query_core.specs.Limits.{leaves, most_skip, most_take}
use Rattle.query_core.specs.Window.{Order}
use Rattle.query_core.specs.declared.query.Query.{Query}
use Rattle.query_core.specs.declared.query.Kind.{Kind}
use Rattle.query_core.specs.declared.query.Kind.TheVariants.{Objects, Ids}
use Rattle.query_lang.specs.Bytes.{is_digit, is_letter}
use Rattle.query_lang.specs.declared.query.Fields.{Fields}
use Rattle.query_lang.specs.declared.refusal.QueryRefusal.{QueryRefusal}
use Rattle.query_lang.specs.declared.refusal.QueryRefusal.TheVariants.{Syntax, BadNumber}
use Rattle.query_lang.specs.FilterReading.{read_filter, ended}
use Rattle.query_lang.specs.Reading.{tokens}
use Rattle.query_lang.specs.FilterText.{IsFilterText, decided, IsWhole}
use Rattle.query_lang.specs.Limits.{usual_take}
use Rattle.query_lang.specs.Lexing.{number_at, lexeme_at, lexeme}
use Rattle.query_lang.specs.Numbers.{read_number, number_of_lexeme, number_of_token, number_within}
use Rattle.query_lang.specs.OrderReading.{read_order}
use Rattle.query_lang.specs.OrderText.{IsOrderText}
use Rattle.query_lang.specs.Queries.{◌>>=◌, bytes_of, filter_field, number_field, kind_field, read_query}
use Rattle.query_lang.specs.QueryText.{IsFilterField, no_filter, filter_text, IsNumberField, no_number, number_text, IsKindField, no_kind, objects_text, ids_text, IsQueryText}
use Rattle.query_lang.specs.Refusals.{Gives}
use Rattle.query_lang.specs.Tokens.{Token, number, bad_number, Lexeme, found}
use Rattle.query_lang.proofs.FilterTextReading.{text_read, read_text}
use Rattle.query_lang.proofs.NumberSpelling.{number_read, at_number, first_digit, no_letter, number_lexeme, or_left}
use Rattle.query_lang.proofs.OrderTextReading.{order_text_read, read_order_text}
use Rattle.query_lang.proofs.SignSpelling.{some_byte}
use Rattle.query_lang.proofs.TokenSpelling.{token_written, StartsWith}
use Rattle.query_lang.proofs.Utf8Lemmas.{tested}
use Rattle.query_lang.proofs.WordSpelling.{first}

-- ---- filters

-- a filter that is decided well is within the limits
decided_ok : (f g : Filter) → decided f ≡ Ok g → (leaves f ≤ 256) × (height f ≤ 32) × (f ≡ g)
decided_ok f g e =
    elim (tested (nat_lt 256 (leaves f))) [
      | inl many ↦ (let no = rw many at e in cc)
      | inr few ↦ elim (tested (nat_lt 32 (height f))) [
        | inl deep ↦ (let no = rw (few, deep) at e in cc)
        | inr low ↦ (
            let ok : ◌≡◌ {A = Result Filter QueryRefusal} (Ok f) (Ok g) = rw (few, low) at e in
            (ltb-false 256 (leaves f) few, ltb-false 32 (height f) low, let same : f ≡ g = cc in same))
      ]
    ]

ok_decided : (f : Filter) → leaves f ≤ 256 → height f ≤ 32 → decided f ≡ Ok f
ok_decided f few low = rw (le-ltb 256 (leaves f) few, le-ltb 32 (height f) low) refl

pub filter_found : (bytes : List ℕ) (f : Filter) → filter_field bytes ≡ Ok f → IsFilterField bytes f
unfolding filter_field
filter_found [] f e = no_filter refl (let same : constant true ≡ f = cc in sym same)
filter_found (b ∷ bs) f e =
    let read : read_filter (b ∷ bs) ≡ Ok f = ap (λ t. cond t (Ok (constant true)) (read_filter (b ∷ bs))) (sym (some_byte (length bs))) ∙ e in
    let (g, text, is) = read_text (b ∷ bs) (subst IsWhole (sym read) tt) in
    let (few, low, same) = decided_ok g f (sym is ∙ read) in
    filter_text (subst (IsFilterText (b ∷ bs)) same text) (subst (λ x. leaves x ≤ 256) same few) (subst (λ x. height x ≤ 32) same low)

-- no byte is no filter
nothing_read : read_filter [] ≡ Err (Syntax 102 0)
unfolding read_filter tokens lexeme ended
nothing_read = refl

pub filter_only : (bytes : List ℕ) (f : Filter) → IsFilterField bytes f → filter_field bytes ≡ Ok f
unfolding filter_field
filter_only [] f (no_filter empty is) = ap Ok (sym is)
filter_only (b ∷ bs) f (no_filter empty is) = cc
filter_only [] f (filter_text text few low) = (let no = sym nothing_read ∙ text_read [] f text ∙ ok_decided f few low in cc)
filter_only (b ∷ bs) f (filter_text text few low) =
    ap (λ t. cond t (Ok (constant true)) (read_filter (b ∷ bs))) (some_byte (length bs)) ∙ text_read (b ∷ bs) f text ∙ ok_decided f few low

-- ---- numbers

starts_no_letter : (b : ℕ) → (is_digit b || b == 45) ≡ true → is_letter b ≡ false
starts_no_letter b starts =
    elim (tested (is_digit b)) [
      | inl digit ↦ no_letter b digit
      | inr other ↦ (let minus : (b == 45) ≡ true = rw other at starts in let is : b ≡ 45 = eqb-true b 45 minus in ap is_letter is)
    ]

nothing_left : (rest : List ℕ) → length rest ≡ 0 → rest ≡ []
nothing_left [] e = refl
nothing_left (b ∷ bs) e = absurd (omega arith)

some_decimal : (n : ℕ) → n < 2 ^ 63 → (length (decimal n) == 0) ≡ false
some_decimal n small = let (numeral, value) = decimal_is_IsNumeral n (omega arith) in ne_eqb (length (decimal n)) 0 (λ e. omega (arith, numeral.0))

-- a number of a field, between a least and a greatest
module _ (field low high : ℕ) where
  number_within_found : (total : ℕ) (rest : List ℕ) (z : ℤ) (n : ℕ) → number_within field low high total (length rest) z ≡ Ok n → (z ≡ pos n) × (low ≤ n) × (n ≤ high) × (length rest ≡ 0)
  number_within_found total rest (pos m) n e =
      elim (tested (nat_le low m && nat_le m high)) [
        | inl within ↦ elim (tested (length rest == 0)) [
          | inl none ↦ (
              let ok : ◌≡◌ {A = Result ℕ QueryRefusal} (Ok m) (Ok n) = rw (within, none) at e in
              let same : m ≡ n = cc in
              let (above, below) = and_parts (nat_le low m) (nat_le m high) within in
              (ap pos same, subst (λ k. low ≤ k) same (leb-true low m above), subst (λ k. k ≤ high) same (leb-true m high below), eqb-true (length rest) 0 none))
          | inr some ↦ (let no = rw (within, some) at e in cc)
        ]
        | inr outside ↦ (let no = rw outside at e in cc)
      ]
  number_within_found total rest (negsuc m) n e = cc

  number_token_found : (total : ℕ) (rest : List ℕ) (t : Token) (n : ℕ) → number_of_token field low high total (length rest) t ≡ Ok n → (t ≡ number (pos n)) × (low ≤ n) × (n ≤ high) × (length rest ≡ 0)
  number_token_found total rest (number z) n e =
      let (is, above, below, none) = number_within_found total rest z n e in
      (ap number is, above, below, none)
  number_token_found total rest t n e = cc

  number_lexeme_found : (default b : ℕ) (bs : List ℕ) (n : ℕ) (x : Lexeme) → lexeme_at (b ∷ bs) ≡ x → number_of_lexeme field low high (length (b ∷ bs)) x ≡ Ok n → IsNumberField low high default (b ∷ bs) n
  number_lexeme_found default b bs n (found t left span rest) is e =
      let (token, above, below, none) = number_token_found (length (b ∷ bs)) rest t n e in
      let f = token_written t left span rest (b ∷ bs) is (λ bad. let no : number (pos n) ≡ bad_number = sym token ∙ bad in cc) in
      let f' = subst (StartsWith (b ∷ bs) rest) token f in
      number_text (f'.parts ∙ ap (λ r. decimal n ++ r) (nothing_left rest none) ∙ append-nil (decimal n)) above below
  number_lexeme_found default b bs n x is e = cc

  read_number_found : (default b : ℕ) (bs : List ℕ) (n : ℕ) → read_number field low high (b ∷ bs) ≡ Ok n → IsNumberField low high default (b ∷ bs) n
  unfolding read_number
  read_number_found default b bs n e =
      elim (tested (is_digit b || b == 45)) [
        | inl starts ↦ number_lexeme_found default b bs n (number_at (b ∷ bs)) (at_number b bs (starts_no_letter b starts) starts) (rw starts at e)
        | inr other ↦ (let no = rw other at e in cc)
      ]

  -- a number of a field is one in decimal
  pub number_found : (default : ℕ) (bytes : List ℕ) (n : ℕ) → number_field field low high default bytes ≡ Ok n → IsNumberField low high default bytes n
  unfolding number_field
  number_found default [] n e = no_number refl (let same : default ≡ n = cc in sym same)
  number_found default (b ∷ bs) n e =
      read_number_found default b bs n (ap (λ t. cond t (Ok default) (read_number field low high (b ∷ bs))) (sym (some_byte (length bs))) ∙ e)

  read_decimal : (n : ℕ) → n < 2 ^ 63 → low ≤ n → n ≤ high → read_number field low high (decimal n) ≡ Ok n
  unfolding read_number
  read_decimal n small above below =
      let ds = decimal n in
      let (numeral, value) = decimal_is_IsNumeral n (omega arith) in
      let digit = first_digit ds numeral.1 numeral.0 in
      let starts = or_left (is_digit (first ds)) (first ds == 45) digit in
      let whole : number_at ds ≡ found (number (pos n)) (length ds) ds [] =
      sym (number_lexeme ds numeral.0 (no_letter (first ds) digit) starts)
      ∙ subst (λ x. lexeme_at x ≡ found (number (pos n)) (length x) ds []) (append-nil ds) (number_read (pos n) [] (lt-ltb n (2 ^ 63) small) refl) in
      let within : (nat_le low n && nat_le n high) ≡ true = rw (le-leb low n above, le-leb n high below) refl in
      ap (λ b. cond b (number_of_lexeme field low high (length ds) (number_at ds)) (Err (Syntax field 0))) starts
      ∙ ap (number_of_lexeme field low high (length ds)) whole
      ∙ ap (λ b. cond b (Ok n) (Err (BadNumber field 0))) within

  pub number_only : (default : ℕ) (bytes : List ℕ) (n : ℕ) → high < 2 ^ 63 → IsNumberField low high default bytes n → number_field field low high default bytes ≡ Ok n
  unfolding number_field
  number_only default bytes n small (no_number empty is) = ap (number_field field low high default) empty ∙ ap Ok (sym is)
  number_only default bytes n small (number_text is above below) =
      ap (number_field field low high default) is
      ∙ ap (λ t. cond t (Ok default) (read_number field low high (decimal n))) (some_decimal n (omega arith))
      ∙ read_decimal n (omega arith) above below

-- ---- kinds

pub kind_found : (bytes : List ℕ) (k : Kind) → kind_field bytes ≡ Ok k → IsKindField bytes k
unfolding kind_field
kind_found bytes k e =
    elim (tested (length bytes == 0)) [
      | inl empty ↦ (
          let ok : ◌≡◌ {A = Result Kind QueryRefusal} (Ok Objects) (Ok k) = rw empty at e in
          let same : Objects ≡ k = cc in
          subst (IsKindField bytes) same (no_kind (no_bytes bytes (eqb-true (length bytes) 0 empty))))
      | inr some ↦ elim (tested (bytes_eq bytes (codes "objects"))) [
        | inl objects ↦ (
            let ok : ◌≡◌ {A = Result Kind QueryRefusal} (Ok Objects) (Ok k) = rw (some, objects) at e in
            let same : Objects ≡ k = cc in
            subst (IsKindField bytes) same (objects_text ((bytes_eq-Decides bytes (codes "objects")).0 objects)))
        | inr other ↦ elim (tested (bytes_eq bytes (codes "ids"))) [
          | inl ids ↦ (
              let ok : ◌≡◌ {A = Result Kind QueryRefusal} (Ok Ids) (Ok k) = rw (some, other, ids) at e in
              let same : Ids ≡ k = cc in
              subst (IsKindField bytes) same (ids_text ((bytes_eq-Decides bytes (codes "ids")).0 ids)))
          | inr none ↦ (let no = rw (some, other, none) at e in cc)
        ]
      ]
    ]
  where
    no_bytes : (bytes : List ℕ) → length bytes ≡ 0 → bytes ≡ []
    no_bytes [] e = refl
    no_bytes (b ∷ bs) e = absurd (omega arith)

pub kind_only : (bytes : List ℕ) (k : Kind) → IsKindField bytes k → kind_field bytes ≡ Ok k
unfolding kind_field
kind_only bytes Objects (no_kind is) = ap kind_field is
kind_only bytes Objects (objects_text is) = ap kind_field is
kind_only bytes Ids (ids_text is) = ap kind_field is

-- ---- all fields

pub data Both {A B : Type 0} (r : Result A QueryRefusal) (f : A → Result B QueryRefusal) (b : B) : Type 0 where
  both : (a : A) → r ≡ Ok a → f a ≡ Ok b → Both r f b

bind_ok : {A B : Type 0} (r : Result A QueryRefusal) (f : A → Result B QueryRefusal) (b : B) → (r >>= f) ≡ Ok b → Both r f b
bind_ok (Ok a) f b e = both a refl e
bind_ok (Err x) f b e = cc

-- fields that are read are a query
pub query_found : (collection : List ℕ) (fields : Fields) (r : Query × Kind) → read_query collection fields ≡ Ok r → IsQueryText collection fields r.0 r.1
unfolding read_query
query_found collection fields r e =
    elim (bind_ok (filter_field (bytes_of fields.f)) _ r e) [
      | both f f_is e1 ↦ elim (bind_ok (read_order (bytes_of fields.o)) _ r e1) [
        | both o o_is e2 ↦ elim (bind_ok (number_field 115 0 most_skip 0 (bytes_of fields.s)) _ r e2) [
          | both s s_is e3 ↦ elim (bind_ok (number_field 110 1 most_take usual_take (bytes_of fields.n)) _ r e3) [
            | both n n_is e4 ↦ elim (bind_ok (kind_field (bytes_of fields.k)) _ r e4) [
              | both k k_is e5 ↦ (
                  let q : Query = record { collection = collection; filter = f; order = o; skip = s; take = n } in
                  let same : ◌≡◌ {A = Query × Kind} (q, k) r = cc in
                  subst (λ x. IsQueryText collection fields x.0 x.1) same (record {
                    of_collection = refl;
                    filter = filter_found (bytes_of fields.f) f f_is;
                    order = read_order_text (bytes_of fields.o) o o_is;
                    skip = number_found 115 0 most_skip 0 (bytes_of fields.s) s s_is;
                    take = number_found 110 1 most_take usual_take (bytes_of fields.n) n n_is;
                    kind = kind_found (bytes_of fields.k) k k_is;
                  }))
            ]
          ]
        ]
      ]
    ]

-- a query's fields are read as it
pub query_only : (collection : List ℕ) (fields : Fields) (q : Query) (k : Kind) → IsQueryText collection fields q k → read_query collection fields ≡ Ok (q, k)
unfolding read_query
query_only collection fields q k text =
    rw (
      filter_only (bytes_of fields.f) q.filter text.filter,
      order_text_read (bytes_of fields.o) q.order text.order,
      number_only 115 0 most_skip 0 (bytes_of fields.s) q.skip (lit< tt) text.skip,
      number_only 110 1 most_take usual_take (bytes_of fields.n) q.take (lit< tt) text.take,
      kind_only (bytes_of fields.k) k text.kind,
    )
    (ap (λ c. Ok (record q { collection = c }, k)) (sym text.of_collection))

-- ---- one reading

pub one_filter : (bytes : List ℕ) (f g : Filter) → IsFilterText bytes f → IsFilterText bytes g → leaves f ≤ 256 → height f ≤ 32 → f ≡ g
one_filter bytes f g text other few low =
    let (few', low', same) = decided_ok g f (sym (text_read bytes g other) ∙ text_read bytes f text ∙ ok_decided f few low) in
    sym same

pub one_order : (bytes : List ℕ) (a b : Order) → IsOrderText bytes a → IsOrderText bytes b → a ≡ b
one_order bytes a b text other =
    let both_read : ◌≡◌ {A = Result Order QueryRefusal} (Ok a) (Ok b) = sym (order_text_read bytes a text) ∙ order_text_read bytes b other in
    let same : a ≡ b = cc in same

-- ---- an answer of the code

pub gives_found : (collection : List ℕ) (fields : Fields) (r : Result (Query × Kind) QueryRefusal) → Gives (λ x. x) r (read_query collection fields) → IfOk r (λ read. IsQueryText collection fields read.0 read.1)
gives_found collection fields (Ok read) is = query_found collection fields read is
gives_found collection fields (Err e) is = tt

pub gives_only : (collection : List ℕ) (fields : Fields) (r : Result (Query × Kind) QueryRefusal) → Gives (λ x. x) r (read_query collection fields)
    → (q : Query) (k : Kind) → IsQueryText collection fields q k → Gives (λ x. x) r (Ok (q, k))
gives_only collection fields r is q k text = subst (Gives (λ x. x) r) (query_only collection fields q k text) is
