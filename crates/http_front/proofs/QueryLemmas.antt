-- The fields of a query one by one.
use Rattle.std.proofs.Common.{◌≡◌, ℕ, true, false, List, [], ◌∷◌, ◌++◌, refl, sym, ap, inl, inr, append_assoc}
use Rattle.std.proofs.lemmas.Bool.{cases_Bool, or_left, false_from_ne_true, true≢false}
use Rattle.std.proofs.lemmas.Str.{IsUtf8-from_is_utf8, is_utf8-from_IsUtf8}
use Rattle.std.specs.Prelude.{bytes_eq, Option, Some, None}
use Rattle.std.specs.Str.{IsUtf8, is_utf8}
use Rattle.http_front.specs.Numbers.{number_of}
use Rattle.http_front.specs.Query.{NamedValue, field_of, fields_in, fields_of, is_among, is_start, is_value, name_of, pieces_of, takes_fields, valued, with_field}
use Rattle.http_front.specs.Target.{ahead_of, behind}
use Rattle.http_front.specs.declared.refused.QueryField.{QueryField}
use Rattle.http_front.specs.declared.refused.QueryField.TheVariants as field
use Rattle.http_front.specs.declared.routes.Route.{Route}
use Rattle.http_front.specs.declared.routes.Route.TheVariants.{Record, Query, Filter, Purges, Match, Horizon, Stats}
use Rattle.http_front.proofs.CutLemmas.{parted, whole}

among_by : (name rest : List ℕ) (o : Option (List ℕ)) → behind 38 rest ≡ o
    → bytes_eq (name_of (ahead_of 38 rest)) name ≡ true → is_among name (pieces_of rest) ≡ true
among_by name rest None e same = rw (whole 38 rest e) (or_left _ _ same)
among_by name rest (Some others) e same = rw ((parted 38 rest others e).split) (or_left _ _ same)

-- the first field has the name
pub among_first : (name rest : List ℕ) → bytes_eq (name_of (ahead_of 38 rest)) name ≡ true
    → is_among name (pieces_of rest) ≡ true
among_first name rest same = among_by name rest (behind 38 rest) refl same

-- it has not, and it is the last
pub among_last : (name rest : List ℕ) → behind 38 rest ≡ None → bytes_eq (name_of (ahead_of 38 rest)) name ≡ false
    → is_among name (pieces_of rest) ≡ false
among_last name rest e other = rw (whole 38 rest e, other) refl

-- it has not, and there are others
pub among_next : (name rest others : List ℕ) → behind 38 rest ≡ Some others
    → bytes_eq (name_of (ahead_of 38 rest)) name ≡ false
    → is_among name (pieces_of rest) ≡ is_among name (pieces_of others)
among_next name rest others e other = rw ((parted 38 rest others e).split, other) refl

-- fields behind others
abbrev pub behind_fields : List NamedValue → Option (List NamedValue) → Option (List NamedValue)
behind_fields prefix None = None
behind_fields prefix (Some values) = Some (prefix ++ values)

no_fields : (route : Route) (piece : List ℕ) (pieces : List (List ℕ)) → field_of route piece ≡ None
    → fields_of route (piece ∷ pieces) ≡ None
no_fields route piece pieces bad =
    elim (cases_Bool (is_among (name_of piece) pieces)) [
      | inl again ↦ rw again refl
      | inr once ↦ rw (once, bad) refl
    ]

fields_by : (route : Route) (rest : List ℕ) (o : Option (List ℕ)) → behind 38 rest ≡ o
    → field_of route (ahead_of 38 rest) ≡ None → fields_of route (pieces_of rest) ≡ None
fields_by route rest None e bad = rw (whole 38 rest e) (no_fields route (ahead_of 38 rest) [] bad)
fields_by route rest (Some others) e bad =
    rw ((parted 38 rest others e).split) (no_fields route (ahead_of 38 rest) (pieces_of others) bad)

-- the first piece is no field of the route
pub fields_bad : (route : Route) (prefix : List NamedValue) (rest : List ℕ) → field_of route (ahead_of 38 rest) ≡ None
    → behind_fields prefix (fields_of route (pieces_of rest)) ≡ None
fields_bad route prefix rest bad = ap (behind_fields prefix) (fields_by route rest (behind 38 rest) refl bad)

-- it is one, and it is the last
pub fields_last : (route : Route) (prefix : List NamedValue) (rest : List ℕ) (value : NamedValue) → behind 38 rest ≡ None
    → field_of route (ahead_of 38 rest) ≡ Some value
    → behind_fields prefix (fields_of route (pieces_of rest)) ≡ Some (prefix ++ value ∷ [])
fields_last route prefix rest value e good = rw (whole 38 rest e, good) refl

-- it is repeated
pub fields_repeated : (route : Route) (prefix : List NamedValue) (rest others : List ℕ) → behind 38 rest ≡ Some others
    → is_among (name_of (ahead_of 38 rest)) (pieces_of others) ≡ true
    → behind_fields prefix (fields_of route (pieces_of rest)) ≡ None
fields_repeated route prefix rest others e again = rw ((parted 38 rest others e).split, again) refl

joined : (prefix : List NamedValue) (value : NamedValue) (values : Option (List NamedValue))
    → behind_fields prefix (with_field (Some value) values) ≡ behind_fields (prefix ++ value ∷ []) values
joined prefix value None = refl
joined prefix value (Some values) = ap (λ l. Some l) (sym (append_assoc prefix (value ∷ []) values))

-- it is not
pub fields_next : (route : Route) (prefix : List NamedValue) (rest others : List ℕ) (value : NamedValue) → behind 38 rest ≡ Some others
    → field_of route (ahead_of 38 rest) ≡ Some value
    → is_among (name_of (ahead_of 38 rest)) (pieces_of others) ≡ false
    → behind_fields prefix (fields_of route (pieces_of rest))
    ≡ behind_fields (prefix ++ value ∷ []) (fields_of route (pieces_of others))
fields_next route prefix rest others value e good once =
    rw ((parted 38 rest others e).split, once, good) (joined prefix value (fields_of route (pieces_of others)))

-- no fields ahead of others
pub fields_first : (values : Option (List NamedValue)) → behind_fields [] values ≡ values
fields_first None = refl
fields_first (Some values) = refl

-- the test of UTF-8
pub utf8_no : (bytes : List ℕ) → (IsUtf8 bytes → ⊥) → is_utf8 bytes ≡ false
utf8_no bytes never = false_from_ne_true (is_utf8 bytes) (λ e. never (IsUtf8-from_is_utf8 bytes e))

pub utf8_yes : (bytes : List ℕ) → IsUtf8 bytes → is_utf8 bytes ≡ true
utf8_yes bytes text = is_utf8-from_IsUtf8 bytes text

-- the value of a field that is a text, and of one that is none
pub text_of_start : (found : QueryField) (text : List ℕ) → IsUtf8 text → found ≡ field.From → is_start (number_of text) ≡ is_value found text
text_of_start found text utf8 is = rw (is, utf8_yes text utf8) refl

pub text_of_others : (found : QueryField) (text : List ℕ) → IsUtf8 text → ¬ (found ≡ field.From) → true ≡ is_value found text
text_of_others field.Filter text utf8 other = sym (utf8_yes text utf8)
text_of_others field.Order text utf8 other = sym (utf8_yes text utf8)
text_of_others field.Skip text utf8 other = sym (utf8_yes text utf8)
text_of_others field.Take text utf8 other = sym (utf8_yes text utf8)
text_of_others field.Kind text utf8 other = sym (utf8_yes text utf8)
text_of_others field.From text utf8 other = absurd (other refl)

pub no_text : (found : QueryField) (value : List ℕ) → is_utf8 value ≡ false → valued (Some found) value ≡ None
no_text field.Filter value e = rw e refl
no_text field.Order value e = rw e refl
no_text field.Skip value e = rw e refl
no_text field.Take value e = rw e refl
no_text field.Kind value e = rw e refl
no_text field.From value e = rw e refl

-- a route that takes no fields has no query
no_fields_of : (route : Route) (rest : List ℕ) → takes_fields route ≡ false → fields_of route (pieces_of rest) ≡ None
no_fields_of Query rest takes = absurd (true≢false takes)
no_fields_of Purges rest takes = absurd (true≢false takes)
no_fields_of Record rest takes = fields_by Record rest (behind 38 rest) refl refl
no_fields_of Filter rest takes = fields_by Filter rest (behind 38 rest) refl refl
no_fields_of Match rest takes = fields_by Match rest (behind 38 rest) refl refl
no_fields_of Horizon rest takes = fields_by Horizon rest (behind 38 rest) refl refl
no_fields_of Stats rest takes = fields_by Stats rest (behind 38 rest) refl refl

pub no_fields_in : (route : Route) (query : Option (List ℕ)) (text : List ℕ) → query ≡ Some text → takes_fields route ≡ false
    → fields_in route query ≡ None
unfolding fields_in
no_fields_in route query text is takes = rw is (no_fields_of route text takes)
