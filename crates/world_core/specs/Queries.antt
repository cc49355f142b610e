-- Internal. The forty queries of a run, by the texts of their fields.
use Rattle.std.specs.Prelude.{ℕ, zero, suc, ◌+◌, ◌*◌, ◌/◌, ◌%◌, Bool, true, false, List, [], ◌++◌, codes, decimal, Result, Ok, Err}
use Rattle.query_core.specs.declared.query.Kind.{Kind}
use Rattle.query_core.specs.declared.query.Query.{Query}
use Rattle.query_normal.specs.Normal.{normal_query}
use Rattle.query_normal.specs.declared.key.KeyShape.{KeyShape}
use Rattle.query_normal.specs.declared.key.KeyShape.TheVariants as key
use Rattle.query_lang.specs.Queries.{read_texts}
use Rattle.query_lang.specs.declared.refusal.QueryRefusal.{QueryRefusal}
use Rattle.world_core.specs.Products.{collection, product_id}

-- the filter of a query up to its number, by the query's ten
abbrev pub before_with : ℕ → List ℕ
before_with zero = codes "cat = "
before_with (suc zero) = codes "cat = "
before_with (suc (suc zero)) = codes "price < "
before_with ten = codes "not (cat = "

-- the number in it, by the query's ten and its unit
abbrev pub limit_with : ℕ → ℕ → ℕ
limit_with zero unit = unit
limit_with (suc zero) unit = unit
limit_with (suc (suc zero)) unit = 100 * (unit + 1)
limit_with ten unit = unit

-- the rest of it
abbrev pub after_with : ℕ → List ℕ
after_with zero = []
after_with (suc zero) = codes " and stock > 0"
after_with (suc (suc zero)) = []
after_with ten = codes ") and price >= 900"

-- the filter of a query
abbrev pub filter_with : ℕ → ℕ → List ℕ
filter_with ten unit = before_with ten ++ (decimal (limit_with ten unit) ++ after_with ten)

-- its order
abbrev pub order_with : ℕ → List ℕ
order_with zero = codes "price"
order_with (suc zero) = codes "price desc"
order_with (suc (suc zero)) = []
order_with ten = codes "name"

-- how many first rows it leaves out
abbrev pub skip_with : ℕ → List ℕ
skip_with zero = codes "0"
skip_with (suc zero) = codes "0"
skip_with (suc (suc zero)) = codes "0"
skip_with ten = codes "5"

-- how many rows it keeps
abbrev pub take_with : ℕ → List ℕ
take_with zero = codes "20"
take_with (suc zero) = codes "10"
take_with (suc (suc zero)) = codes "50"
take_with ten = codes "10"

-- what it shows of the rows
abbrev pub kind_word : Bool → List ℕ
kind_word true = codes "ids"
kind_word false = codes "objects"

-- the key of what is read; a text that is none is no query
abbrev pub key_of_read : Result (Query × Kind) QueryRefusal → KeyShape
key_of_read (Ok read) = key.Query read.1 (normal_query read.0)
key_of_read (Err refusal) = key.Record [] []

-- the key of a query of the collection
unfoldable pub query_key : ℕ → Bool → KeyShape
query_key query is_ids =
    key_of_read (read_texts collection (filter_with (query / 10) (query % 10)) (order_with (query / 10))
    (skip_with (query / 10)) (take_with (query / 10)) (kind_word is_ids))

-- the key of the record of a product
abbrev pub record_key : ℕ → KeyShape
record_key product = key.Record collection (product_id product)
