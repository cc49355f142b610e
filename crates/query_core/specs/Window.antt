-- Believed. The window of a query over the documents of its collection.
use Rattle.std.specs.Prelude.{ℕ, List, [], ◌∷◌, Bool, if◌then◌else◌, filter, fold, take, drop}
use Rattle.std.specs.Ordering.{ordering_then, ordering_reverse, is_lt, nat_cmp}
use Rattle.std.specs.declared.cmp.Ordering.{Ordering}
use Rattle.std.specs.declared.cmp.Ordering.TheVariants.{Equal}
use Rattle.std.specs.Cmp.Lexicographic.{slice_cmp}
use Rattle.q_doc.specs.Tree.{Tree}
use Rattle.q_doc.specs.Order.{value_cmp}
use Rattle.q_doc.specs.Path.{tree_at}
use Rattle.query_core.specs.declared.query.Query.{Query}
use Rattle.query_core.specs.Meaning.{satisfies}

-- the id, the version and the document
abbrev pub Row : Type 0
Row = List ℕ × ℕ × Tree

-- paths, each with whether it is descending
abbrev pub Order : Type 0
Order = List (List (List ℕ) × Bool)

-- an order, or for a descending path the reverse order
abbrev pub turned : Bool → Ordering → Ordering
turned descending o = if descending then ordering_reverse o else o

-- the order of documents by the paths in turn, an absent value the least
abbrev pub paths_cmp : Order → Tree → Tree → Ordering
paths_cmp [] t u = Equal
paths_cmp (p ∷ ps) t u = ordering_then (turned p.1 (value_cmp (tree_at p.0 t) (tree_at p.0 u))) (paths_cmp ps t u)

-- the order of rows: by the paths, and where these tie by the bytes of the ids
abbrev pub rows_cmp : Order → Row → Row → Ordering
rows_cmp order a b = ordering_then (paths_cmp order a.2 b.2) (slice_cmp nat_cmp a.0 b.0)

-- an item inserted into a list that is in order, after those that it ties with
abbrev pub placed : {X : Type 0} → (X → X → Ordering) → List X → X → List X
placed cmp [] new = new ∷ []
placed cmp (x ∷ xs) new = if is_lt (cmp new x) then new ∷ x ∷ xs else x ∷ placed cmp xs new

-- the items inserted one by one
abbrev pub in_order : {X : Type 0} → (X → X → Ordering) → List X → List X
in_order cmp xs = fold (placed cmp) [] xs

-- the rows that satisfy the filter, in the order of the query
abbrev pub matches : Query → List Row → List Row
matches q docs = in_order (rows_cmp q.order) (filter (λ row. satisfies q.filter row.2) docs)

-- what is left of them without the first `skip`, at most `take`
abbrev pub window : Query → List Row → List Row
window q docs = take q.take (drop q.skip (matches q docs))
