-- Internal. Which fields are a query, by the grammar and its limits.
use Rattle.std.specs.Prelude.{◌≡◌, ℕ, ◌≤◌, true, List, [], codes}
use Rattle.std.specs.Fmt.{decimal}
use Rattle.query_core.specs.Filters.{Filter, constant, height}
use Rattle.query_core.specs.Limits.{leaves, most_leaves, most_height, most_skip, most_take}
use Rattle.query_core.specs.declared.query.Query.{Query}
use Rattle.query_core.specs.declared.query.Kind.{Kind}
use Rattle.query_core.specs.declared.query.Kind.TheVariants.{Objects, Ids}
use Rattle.query_lang.specs.declared.query.Fields.{Fields}
use Rattle.query_lang.specs.FilterText.{IsFilterText}
use Rattle.query_lang.specs.Limits.{usual_take}
use Rattle.query_lang.specs.OrderText.{IsOrderText}
use Rattle.query_lang.specs.Queries.{bytes_of}

-- An empty field is the filter `true`. A filter is within the limits of leaves and of height.
pub data IsFilterField (bytes : List ℕ) (f : Filter) : Type 0 where
  no_filter : bytes ≡ [] → f ≡ constant true → IsFilterField bytes f
  filter_text : IsFilterText bytes f → leaves f ≤ most_leaves → height f ≤ most_height → IsFilterField bytes f

-- An empty field is this default. A number is written in decimal, and is within these limits.
pub data IsNumberField (low high default : ℕ) (bytes : List ℕ) (n : ℕ) : Type 0 where
  no_number : bytes ≡ [] → n ≡ default → IsNumberField low high default bytes n
  number_text : bytes ≡ decimal n → low ≤ n → n ≤ high → IsNumberField low high default bytes n

-- The kind is one of its two words, and an empty field means objects.
pub data IsKindField (bytes : List ℕ) : Kind → Type 0 where
  no_kind : bytes ≡ [] → IsKindField bytes Objects
  objects_text : bytes ≡ codes "objects" → IsKindField bytes Objects
  ids_text : bytes ≡ codes "ids" → IsKindField bytes Ids

-- the fields are this query of the collection, and this kind
pub record IsQueryText (collection : List ℕ) (fields : Fields) (q : Query) (k : Kind) : Type 0 where
  pub of_collection : q.collection ≡ collection
  pub filter : IsFilterField (bytes_of fields.f) q.filter
  pub order : IsOrderText (bytes_of fields.o) q.order
  pub skip : IsNumberField 0 most_skip 0 (bytes_of fields.s) q.skip
  pub take : IsNumberField 1 most_take usual_take (bytes_of fields.n) q.take
  pub kind : IsKindField (bytes_of fields.k) k
