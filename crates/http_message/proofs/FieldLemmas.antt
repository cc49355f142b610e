-- One field more among the fields of a name.
use Rattle.std.proofs.Common.{◌≡◌, ℕ, ◌+◌, ◌<◌, Bool, List, [], ◌∷◌, ◌++◌, ◌||◌, ◌&&◌, length, take, drop, map, filter, get_or, true, false, if◌then◌else◌, refl, sym, ◌∙◌, ap, inl, inr}
use Rattle.std.proofs.lemmas.List.{map-append, map_more, take-append-drop}
use Rattle.std.proofs.lemmas.List.Elements.{filter-append}
use Rattle.std.proofs.lemmas.Option.{slice_get-map}
use Rattle.std.specs.Prelude.{slice_get, option_map, Some}
use Rattle.std.proofs.lemmas.List.Folds.{list_any-append}
use Rattle.std.proofs.lemmas.Bool.{cases_Bool}
use Rattle.std.specs.List.{list_any}
use Rattle.httparse.specs.Spans.{header_bytes, span_bytes}
use Rattle.httparse.specs.declared.spans.HeaderSpan.{HeaderSpan}
use Rattle.http_message.specs.Fields.{Pair, values, is_named}

-- no field has a name
pub values-nil : (name : List ℕ) → values name [] ≡ []
unfolding values
values-nil name = refl

-- the values of a name in two parts of the fields
pub values-append : (name : List ℕ) (pairs others : List Pair)
    → values name (pairs ++ others) ≡ values name pairs ++ values name others
unfolding values
values-append name pairs others =
    ap (map (λ (p : Pair). p.1)) (filter-append (is_named name) pairs others)
    ∙ map-append (λ (p : Pair). p.1) (filter (is_named name) pairs) (filter (is_named name) others)

-- the values of a name in one field
pub values-one : (name : List ℕ) (pair : Pair)
    → values name (pair ∷ []) ≡ (if is_named name pair then pair.1 ∷ [] else [])
unfolding values
values-one name pair =
    elim (cases_Bool (is_named name pair)) [ inl e ↦ rw e refl | inr e ↦ rw e refl ]

-- the first fields, with the next one
fields_more : (text : List ℕ) (fields : List HeaderSpan) (i : ℕ) (field : HeaderSpan)
    → i < length fields → field ≡ get_or fields i field
    → map (header_bytes text) (take (i + 1) fields)
    ≡ map (header_bytes text) (take i fields) ++ header_bytes text field ∷ []
fields_more text fields i field below is =
    map_more (header_bytes text) fields i field below
    ∙ ap (λ (f : HeaderSpan). map (header_bytes text) (take i fields) ++ header_bytes text f ∷ []) (sym is)

-- the values of a name among the first fields, with the next one
pub values_more : (text name : List ℕ) (fields : List HeaderSpan) (i : ℕ) (field : HeaderSpan)
    → i < length fields → field ≡ get_or fields i field
    → values name (map (header_bytes text) (take (i + 1) fields))
    ≡ values name (map (header_bytes text) (take i fields))
    ++ (if is_named name (header_bytes text field) then span_bytes text field.value ∷ [] else [])
values_more text name fields i field below is =
    ap (values name) (fields_more text fields i field below is)
    ∙ values-append name (map (header_bytes text) (take i fields)) (header_bytes text field ∷ [])
    ∙ ap (λ ys. values name (map (header_bytes text) (take i fields)) ++ ys) (values-one name (header_bytes text field))

-- a test of the values of a name in one field
any_one : (test : List ℕ → Bool) (name : List ℕ) (pair : Pair)
    → list_any test (values name (pair ∷ [])) ≡ (is_named name pair && test pair.1)
any_one test name pair =
    rw values-one (elim (cases_Bool (is_named name pair)) [
      | inl e ↦ rw e (elim (cases_Bool (test pair.1)) [ inl t ↦ rw t refl | inr t ↦ rw t refl ])
      | inr e ↦ rw e refl
    ])

-- a test of the values of a name among the first fields, with the next one
pub any_more : (test : List ℕ → Bool) (text name : List ℕ) (fields : List HeaderSpan) (i : ℕ) (field : HeaderSpan)
    → i < length fields → field ≡ get_or fields i field
    → list_any test (values name (map (header_bytes text) (take (i + 1) fields)))
    ≡ (list_any test (values name (map (header_bytes text) (take i fields)))
    || (is_named name (header_bytes text field) && test (span_bytes text field.value)))
any_more test text name fields i field below is =
    ap (λ ps. list_any test (values name ps)) (fields_more text fields i field below is)
    ∙ ap (list_any test) (values-append name (map (header_bytes text) (take i fields)) (header_bytes text field ∷ []))
    ∙ list_any-append test (values name (map (header_bytes text) (take i fields))) (values name (header_bytes text field ∷ []))
    ∙ ap (λ b. list_any test (values name (map (header_bytes text) (take i fields))) || b) (any_one test name (header_bytes text field))

-- a test that some value passes among the first fields passes among all
pub any_last : (test : List ℕ → Bool) (text name : List ℕ) (fields : List HeaderSpan) (i : ℕ)
    → list_any test (values name (map (header_bytes text) (take i fields))) ≡ true
    → list_any test (values name (map (header_bytes text) fields)) ≡ true
any_last test text name fields i some =
    let whole : list_any test (values name (map (header_bytes text) (take i fields ++ drop i fields)))
    ≡ (list_any test (values name (map (header_bytes text) (take i fields)))
    || list_any test (values name (map (header_bytes text) (drop i fields)))) =
    ap (λ ps. list_any test (values name ps)) (map-append (header_bytes text) (take i fields) (drop i fields))
    ∙ ap (list_any test) (values-append name (map (header_bytes text) (take i fields)) (map (header_bytes text) (drop i fields)))
    ∙ list_any-append test (values name (map (header_bytes text) (take i fields))) (values name (map (header_bytes text) (drop i fields))) in
    let joined : take i fields ++ drop i fields ≡ fields = take-append-drop i fields in
    rw joined at (whole ∙ ap (λ b. b || list_any test (values name (map (header_bytes text) (drop i fields)))) some)

-- a second value, and one behind two
pub named_second : (found : List (List ℕ)) (value bytes : List ℕ)
    → found ≡ value ∷ []
    → (first second : List ℕ) × (others : List (List ℕ)) × (found ++ bytes ∷ [] ≡ first ∷ second ∷ others)
named_second found value bytes is = (value, bytes, [], ap (λ (vs : List (List ℕ)). vs ++ bytes ∷ []) is)

pub named_more : (found : List (List ℕ)) (bytes : List ℕ)
    → ((first second : List ℕ) × (others : List (List ℕ)) × (found ≡ first ∷ second ∷ others))
    → (first second : List ℕ) × (others : List (List ℕ)) × (found ++ bytes ∷ [] ≡ first ∷ second ∷ others)
named_more found bytes (first, second, others, is) =
    (first, second, others ++ bytes ∷ [], ap (λ (vs : List (List ℕ)). vs ++ bytes ∷ []) is)

-- a part of the field with an index
pub part_at : (part : Pair → List ℕ) (fields : List Pair) (index : ℕ) (pair : Pair)
    → slice_get fields index ≡ Some pair → slice_get (map part fields) index ≡ Some (part pair)
part_at part fields index pair is = slice_get-map part fields index ∙ ap (option_map part) is

-- no field passes a test
pub any_nil : (test : List ℕ → Bool) (name : List ℕ) → list_any test (values name []) ≡ false
any_nil test name = rw values-nil refl
