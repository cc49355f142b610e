-- Believed. The fields of a query.
use Rattle.std.specs.Prelude.{ℕ, ◌==◌, if◌then◌else◌, List, [], length, codes, Option, Some, None, true, Result, Ok, Err}
use Rattle.std.specs.Str.{bytes_eq}
use Rattle.std.specs.Borrow.{Bor}
use Rattle.query_core.specs.Filters.{Filter, constant}
use Rattle.query_core.specs.declared.query.Query.{Query}
use Rattle.query_core.specs.declared.query.Kind.{Kind}
use Rattle.query_core.specs.declared.query.Kind.TheVariants.{Objects, Ids}
use Rattle.query_lang.specs.declared.query.Fields.{Fields}
use Rattle.query_core.specs.Limits.{most_skip, most_take}
use Rattle.query_lang.specs.Limits.{usual_take}
use Rattle.query_lang.specs.declared.refusal.QueryRefusal.{QueryRefusal}
use Rattle.query_lang.specs.declared.refusal.QueryRefusal.TheVariants.{Syntax}
use Rattle.query_lang.specs.FilterReading.{read_filter}
use Rattle.query_lang.specs.OrderReading.{read_order}
use Rattle.query_lang.specs.Numbers.{read_number}

infixl 10 ◌>>=◌
-- continues with what was read
abbrev pub ◌>>=◌ : {A B : Type 0} → Result A QueryRefusal → (A → Result B QueryRefusal) → Result B QueryRefusal
(Ok a) >>= f = f a
(Err e) >>= f = Err e

-- the bytes of a field; an absent one is read as an empty one
abbrev pub bytes_of : Option (Bor (List ℕ)) → List ℕ
bytes_of None = []
bytes_of (Some text) = text.now

-- the filter of a field, `true` where it is empty
unfoldable pub filter_field : List ℕ → Result Filter QueryRefusal
filter_field bytes = if length bytes == 0 then Ok (constant true) else read_filter bytes

-- the number of a field, `default` where it is empty
unfoldable pub number_field : ℕ → ℕ → ℕ → ℕ → List ℕ → Result ℕ QueryRefusal
number_field field low high default bytes = if length bytes == 0 then Ok default else read_number field low high bytes

-- the kind of a field
unfoldable pub kind_field : List ℕ → Result Kind QueryRefusal
kind_field bytes =
    if length bytes == 0 then Ok Objects
    else (if bytes_eq bytes (codes "objects") then Ok Objects
    else (if bytes_eq bytes (codes "ids") then Ok Ids else Err (Syntax 107 0)))

-- the query and the kind that the texts of the fields f, o, s, n and k are, read in this order
abbrev pub read_texts : List ℕ → List ℕ → List ℕ → List ℕ → List ℕ → List ℕ → Result (Query × Kind) QueryRefusal
read_texts collection f o s n k = do
  filter ← filter_field f
  order ← read_order o
  skip ← number_field 115 0 most_skip 0 s
  take ← number_field 110 1 most_take usual_take n
  kind ← kind_field k
  Ok (record { collection = collection; filter = filter; order = order; skip = skip; take = take }, kind)

-- the query and the kind that the fields are
unfoldable pub read_query : List ℕ → Fields → Result (Query × Kind) QueryRefusal
read_query collection fields = read_texts collection (bytes_of fields.f) (bytes_of fields.o) (bytes_of fields.s) (bytes_of fields.n) (bytes_of fields.k)
