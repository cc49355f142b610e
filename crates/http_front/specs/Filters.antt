-- Believed. The query that the fields of a target are, or why it is refused.
use Rattle.std.specs.Prelude.{ℕ, ◌==◌, if◌then◌else◌, List, [], ◌∷◌, Result, Ok, Err}
use Rattle.query_core.specs.declared.query.Query.{Query}
use Rattle.query_core.specs.declared.query.Kind.{Kind}
use Rattle.query_lang.specs.Queries.{read_texts}
use Rattle.query_lang.specs.declared.refusal.QueryRefusal.{QueryRefusal}
use Rattle.query_lang.specs.declared.refusal.QueryRefusal.TheVariants as refusal
use Rattle.http_front.specs.Query.{NamedValue}
use Rattle.http_front.specs.declared.refused.FilterReason.{FilterReason}
use Rattle.http_front.specs.declared.refused.FilterReason.TheVariants as reason
use Rattle.http_front.specs.declared.refused.FilterRefusal.{FilterRefusal}
use Rattle.http_front.specs.declared.refused.QueryField.{QueryField}
use Rattle.http_front.specs.declared.refused.QueryField.TheVariants as field
use Rattle.http_front.specs.declared.refused.Refused.{Refused}
use Rattle.http_front.specs.declared.refused.Refused.TheVariants.{BadFilter}

-- the letter of a field, by which it is refused: f, o, s, n or k; `from` has none
abbrev pub letter_of : QueryField → ℕ
letter_of field.Filter = 102
letter_of field.Order = 111
letter_of field.Skip = 115
letter_of field.Take = 110
letter_of field.Kind = 107
letter_of field.From = 0

-- the value of the field of a letter, and the empty text where it is not among the fields
abbrev pub text_in : ℕ → List NamedValue → List ℕ
text_in letter [] = []
text_in letter (value ∷ values) = if letter_of value.0 == letter then value.1 else text_in letter values

-- the field of a letter
abbrev pub field_of_letter : ℕ → QueryField
field_of_letter letter =
    if letter == 102 then field.Filter
    else (if letter == 111 then field.Order
    else (if letter == 115 then field.Skip
    else (if letter == 110 then field.Take else field.Kind)))

-- how a field is refused for this reason
abbrev pub bad_filter : QueryField → ℕ → FilterReason → FilterRefusal
bad_filter found place reason = record { field = found; place = place; reason = reason }

-- where and why fields are refused; a definition of queries refuses none for being out of memory
abbrev pub filter_refusal : QueryRefusal → FilterRefusal
filter_refusal (refusal.Syntax letter place) = bad_filter (field_of_letter letter) place reason.Syntax
filter_refusal (refusal.BadNumber letter place) = bad_filter (field_of_letter letter) place reason.BadNumber
filter_refusal (refusal.TooManyPaths place) = bad_filter field.Order place reason.TooManyPaths
filter_refusal (refusal.TooMany leaves) = bad_filter field.Filter leaves reason.TooMany
filter_refusal (refusal.TooNested place) = bad_filter field.Filter place reason.TooNested
filter_refusal (refusal.TooDeep depth) = bad_filter field.Filter depth reason.TooDeep
filter_refusal refusal.Memory = bad_filter field.Filter 0 reason.Syntax

-- a query with its kind, or the refusal of a field
abbrev pub query_or_not : Result (Query × Kind) QueryRefusal → Result (Query × Kind) Refused
query_or_not (Ok read) = Ok read
query_or_not (Err refused) = Err (BadFilter (filter_refusal refused))

-- the query and the kind that the fields of a target are
unfoldable pub query_in : List ℕ → List NamedValue → Result (Query × Kind) Refused
query_in collection fields =
    query_or_not (read_texts collection (text_in 102 fields) (text_in 111 fields) (text_in 115 fields) (text_in 110 fields) (text_in 107 fields))
