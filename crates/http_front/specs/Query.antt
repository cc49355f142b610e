-- Believed. The fields of a target's query.
use Rattle.std.specs.Prelude.{ℕ, Bool, true, false, ◌&&◌, ◌==◌, nat_le, if◌then◌else◌, bytes_eq, List, [], ◌∷◌, map, Option, Some, None, codes}
use Rattle.std.specs.List.{list_any, slice_split}
use Rattle.std.specs.Str.{is_utf8}
use Rattle.percent_encoding.specs.Percent.{percent_decode}
use Rattle.http_front.specs.Numbers.{number_of}
use Rattle.http_front.specs.Target.{ahead_of, after}
use Rattle.http_front.specs.declared.refused.QueryField.{QueryField}
use Rattle.http_front.specs.declared.refused.QueryField.TheVariants as field
use Rattle.http_front.specs.declared.routes.Route.{Route}
use Rattle.http_front.specs.declared.routes.Route.TheVariants.{Record, Query, Filter, Purges, Match, Horizon, Stats}

-- the fields, split at `&`; an empty query is one empty field
abbrev pub pieces_of : List ℕ → List (List ℕ)
pieces_of query = slice_split (λ byte. byte == 38) query

-- a field's name precedes its first `=`, and is not decoded
abbrev pub name_of : List ℕ → List ℕ
name_of piece = ahead_of 61 piece

-- `+` is a space
abbrev pub spaced : ℕ → ℕ
spaced byte = if byte == 43 then 32 else byte

-- and then escapes are decoded
unfoldable pub decoded : List ℕ → List ℕ
decoded text = percent_decode (map spaced text)

-- a field's value follows the first `=`, and is empty where there is none
abbrev pub value_of : List ℕ → List ℕ
value_of piece = decoded (after 61 piece)

-- the field of a route that has this name
abbrev pub field_named : Route → List ℕ → Option QueryField
field_named Query name =
    if bytes_eq name (codes "f") then Some field.Filter
    else (if bytes_eq name (codes "o") then Some field.Order
    else (if bytes_eq name (codes "s") then Some field.Skip
    else (if bytes_eq name (codes "n") then Some field.Take
    else (if bytes_eq name (codes "k") then Some field.Kind else None))))
field_named Purges name = if bytes_eq name (codes "from") then Some field.From else None
field_named Record name = None
field_named Filter name = None
field_named Match name = None
field_named Horizon name = None
field_named Stats name = None

-- a query of the route has fields
abbrev pub takes_fields : Route → Bool
takes_fields Query = true
takes_fields Purges = true
takes_fields Record = false
takes_fields Filter = false
takes_fields Match = false
takes_fields Horizon = false
takes_fields Stats = false

-- a purge's number: from 1 to 2^63
abbrev pub is_start : Option ℕ → Bool
is_start None = false
is_start (Some number) = nat_le 1 number && nat_le number 9223372036854775808

-- the value has the form that its field asks for
abbrev pub is_value : QueryField → List ℕ → Bool
is_value field.From value = is_utf8 value && is_start (number_of value)
is_value field.Filter value = is_utf8 value
is_value field.Order value = is_utf8 value
is_value field.Skip value = is_utf8 value
is_value field.Take value = is_utf8 value
is_value field.Kind value = is_utf8 value

-- a field and its decoded value
abbrev pub NamedValue : Type 0
NamedValue = QueryField × List ℕ

-- a field of this value, where the value has its form
abbrev pub valued : Option QueryField → List ℕ → Option NamedValue
valued None value = None
valued (Some found) value = if is_value found value then Some (found, value) else None

-- the field of the route that a piece of a query is, with its value
abbrev pub field_of : Route → List ℕ → Option NamedValue
field_of route piece = valued (field_named route (name_of piece)) (value_of piece)

-- one of these fields has this name
abbrev pub is_among : List ℕ → List (List ℕ) → Bool
is_among name pieces = list_any (λ piece. bytes_eq (name_of piece) name) pieces

-- one more field, where it and the others are there
abbrev pub with_field : Option NamedValue → Option (List NamedValue) → Option (List NamedValue)
with_field (Some value) (Some values) = Some (value ∷ values)
with_field (Some value) None = None
with_field None values = None

-- the fields that the pieces are, where each is one of the route and none is repeated
abbrev pub fields_of : Route → List (List ℕ) → Option (List NamedValue)
fields_of route [] = Some []
fields_of route (piece ∷ pieces) =
    if is_among (name_of piece) pieces then None else with_field (field_of route piece) (fields_of route pieces)

-- the fields of a query, where there is one
unfoldable pub fields_in : Route → Option (List ℕ) → Option (List NamedValue)
fields_in route None = Some []
fields_in route (Some query) = fields_of route (pieces_of query)
