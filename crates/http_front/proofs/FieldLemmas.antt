-- The values of a name among the first fields, with the next one.
use Rattle.std.proofs.Common.{◌≡◌, ℕ, ◌+◌, ◌<◌, Bool, true, false, List, [], ◌∷◌, ◌++◌, ◌&&◌, length, take, drop, get_or, map, filter, refl, sym, ◌∙◌, ap}
use Rattle.std.proofs.lemmas.Bool.{and_left, and_right}
use Rattle.std.proofs.lemmas.List.{map-append, take_more, take-append-drop}
use Rattle.std.proofs.lemmas.List.Elements.{filter-append}
use Rattle.std.proofs.lemmas.List.Folds.{list_all-append}
use Rattle.std.proofs.lemmas.Option.{slice_get-map, slice_get-get_or, same_Some}
use Rattle.std.specs.List.{list_all}
use Rattle.std.specs.Prelude.{slice_get, option_map, Some}
use Rattle.std.specs.Str.{str_eq_ignore_ascii_case}
use Rattle.http_message.specs.Fields.{Pair, values, is_named}

-- the values of a name in two parts of the fields
pub values-append : (name : List ℕ) (fields others : List Pair)
    → values name (fields ++ others) ≡ values name fields ++ values name others
unfolding values
values-append name fields others =
    ap (map (λ (p : Pair). p.1)) (filter-append (is_named name) fields others)
    ∙ map-append (λ (p : Pair). p.1) (filter (is_named name) fields) (filter (is_named name) others)

pub values-nil : (name : List ℕ) → values name [] ≡ []
unfolding values
values-nil name = refl

-- in one field
values_yes : (name : List ℕ) (field : Pair) → is_named name field ≡ true → values name (field ∷ []) ≡ field.1 ∷ []
unfolding values
values_yes name field e = rw e refl

values_no : (name : List ℕ) (field : Pair) → is_named name field ≡ false → values name (field ∷ []) ≡ []
unfolding values
values_no name field e = rw e refl

empty : Pair
empty = ([], [])

-- a part of the field at a place
part_at : (part : Pair → List ℕ) (fields : List Pair) (i : ℕ) (found : List ℕ) → i < length fields
    → slice_get (map part fields) i ≡ Some found → part (get_or fields i empty) ≡ found
part_at part fields i found below is =
    same_Some (part (get_or fields i empty)) found
    (ap (option_map part) (sym (slice_get-get_or fields i empty below)) ∙ sym (slice_get-map part fields i) ∙ is)

values_at : (name : List ℕ) (fields : List Pair) (i : ℕ) → i < length fields
    → values name (take (i + 1) fields) ≡ values name (take i fields) ++ values name (get_or fields i empty ∷ [])
values_at name fields i below =
    ap (values name) (take_more fields i empty below)
    ∙ values-append name (take i fields) (get_or fields i empty ∷ [])

-- a field of that name
pub values_more : (name : List ℕ) (fields : List Pair) (i : ℕ) (field value : List ℕ) → i < length fields
    → slice_get (map (λ (p : Pair). p.0) fields) i ≡ Some field → slice_get (map (λ (p : Pair). p.1) fields) i ≡ Some value
    → str_eq_ignore_ascii_case field name ≡ true
    → values name (take (i + 1) fields) ≡ values name (take i fields) ++ value ∷ []
values_more name fields i field value below named valued e =
    let name_is = part_at (λ (p : Pair). p.0) fields i field below named in
    let value_is = part_at (λ (p : Pair). p.1) fields i value below valued in
    let yes : is_named name (get_or fields i empty) ≡ true = ap (λ n. str_eq_ignore_ascii_case n name) name_is ∙ e in
    values_at name fields i below
    ∙ ap (λ ys. values name (take i fields) ++ ys) (values_yes name (get_or fields i empty) yes ∙ ap (λ v. v ∷ []) value_is)

-- a field of another
pub values_same : (name : List ℕ) (fields : List Pair) (i : ℕ) (field : List ℕ) → i < length fields
    → slice_get (map (λ (p : Pair). p.0) fields) i ≡ Some field → str_eq_ignore_ascii_case field name ≡ false
    → values name (take (i + 1) fields) ≡ values name (take i fields) ++ []
values_same name fields i field below named e =
    let name_is = part_at (λ (p : Pair). p.0) fields i field below named in
    let no : is_named name (get_or fields i empty) ≡ false = ap (λ n. str_eq_ignore_ascii_case n name) name_is ∙ e in
    values_at name fields i below ∙ ap (λ ys. values name (take i fields) ++ ys) (values_no name (get_or fields i empty) no)

-- the values of a name are those of the first fields and of the others
pub values_parts : (name : List ℕ) (fields : List Pair) (i : ℕ)
    → values name fields ≡ values name (take i fields) ++ values name (drop i fields)
values_parts name fields i =
    ap (values name) (sym (take-append-drop i fields)) ∙ values-append name (take i fields) (drop i fields)

-- a test that one value among the first does not pass
pub all_fails : (test : List ℕ → Bool) (name : List ℕ) (fields : List Pair) (i : ℕ) (prefix : List (List ℕ)) (value : List ℕ)
    → values name (take (i + 1) fields) ≡ prefix ++ value ∷ [] → test value ≡ false → list_all test (values name fields) ≡ false
all_fails test name fields i prefix value more fails =
    rw (values_parts name fields (i + 1), more, list_all-append, list_all-append, fails)
    (and_left (list_all test prefix && false) _ (and_right (list_all test prefix) false refl))

-- one that all pass
pub all_passes : (test : List ℕ → Bool) (prefix : List (List ℕ)) (value : List ℕ)
    → list_all test prefix ≡ true → test value ≡ true → list_all test (prefix ++ value ∷ []) ≡ true
all_passes test prefix value so_far passes = rw (list_all-append, so_far, passes) refl
