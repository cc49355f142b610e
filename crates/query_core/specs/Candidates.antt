-- Internal. Rows that satisfy a query, each with the values by which it is ordered, and the first of them in order.
use Rattle.std.specs.Prelude.{◌≡◌, ◌<◌, ◌-◌, ℕ, zero, suc, nat_lt, Bool, false, not, if◌then◌else◌, List, [], ◌∷◌, length, Option, None, Some, option_map, slice_get, slice_index_or, option_and_then, map, take, All, ⊤}
use Rattle.std.specs.Ordering.{ordering_then, nat_cmp, is_lt}
use Rattle.std.specs.declared.cmp.Ordering.{Ordering}
use Rattle.std.specs.Cmp.Lexicographic.{slice_cmp}
use Rattle.q_doc.specs.Tree.{Tree}
use Rattle.q_doc.specs.Order.{value_cmp}
use Rattle.q_doc.specs.Path.{tree_at}
use Rattle.query_core.specs.declared.windows.Candidate.{Candidate}
use Rattle.query_core.specs.declared.windows.Firsts.{Firsts}
use Rattle.query_core.specs.declared.windows.TheConstants.{KEPT}
use Rattle.query_core.specs.declared.query.Query.{Query}
use Rattle.query_core.specs.Window.{Row, Order, turned, rows_cmp, in_order, matches}

-- the row of a candidate
abbrev pub row_of : Candidate → Row
row_of c = c.row.now

-- the value of a document at the path of an index in an order
abbrev pub value_at : Order → ℕ → Tree → Option Tree
value_at order i t = option_and_then (λ p. tree_at p.0 t) (slice_get order i)

-- the value by which a candidate is ordered at an index: kept for the first indices, and else that at the path
abbrev pub value_of : Candidate → ℕ → List (List ℕ) → Option Tree
value_of c i path = if nat_lt i KEPT then option_map (λ r. r.now) (slice_index_or c.values i None) else tree_at path c.row.now.2

-- the order of candidates by these paths, the first of which has that index
abbrev pub candidates_cmp : Order → ℕ → Candidate → Candidate → Ordering
candidates_cmp [] i a b = slice_cmp nat_cmp a.row.now.0 b.row.now.0
candidates_cmp (p ∷ ps) i a b = ordering_then (turned p.1 (value_cmp (value_of a i p.0) (value_of b i p.0))) (candidates_cmp ps (suc i) a b)

-- the values that a candidate keeps are those of its document
abbrev pub IsRanked : Order → Candidate → Type 0
IsRanked order c = (i : ℕ) → i < KEPT → option_map (λ r. r.now) (slice_index_or c.values i None) ≡ value_at order i c.row.now.2

-- ---- the first in order

-- there are at least this number of items, and the new one is less than none of the first of them
abbrev pub IsPast : {X : Type 0} → (X → X → Ordering) → ℕ → X → List X → Type 0
IsPast cmp zero new xs = ⊤
IsPast cmp (suc k) new [] = ⊥
IsPast cmp (suc k) new (x ∷ xs) = (is_lt (cmp new x) ≡ false) × IsPast cmp k new xs

-- whether a candidate is not less than the last one that counts
abbrev pub is_past : Order → Option Candidate → Candidate → Bool
is_past order None new = false
is_past order (Some last) new = not (is_lt (candidates_cmp order 0 new last))

-- the last of this number of candidates, and none only where there are fewer
abbrev pub IsLast : ℕ → List Candidate → Option Candidate → Type 0
IsLast count found None = 0 < count → length found < count
IsLast count found (Some last) = (0 < count) × (length found ≡ count) × (last ≡ slice_index_or found (count - 1) last)

-- what is not less than this candidate comes after the first of these
abbrev pub Closes : Order → ℕ → List Candidate → Option Candidate → Type 0
Closes order count found None = ⊤
Closes order count found (Some last) = IsRanked order last × IsPast (rows_cmp order) count (row_of last) (in_order (rows_cmp order) (map row_of found))

-- the first of these candidates in order are the first of the rows that were seen, and each keeps its document's values
pub record AreFirsts (order : Order) (count : ℕ) (seen : List Row) (found : List Candidate) (last : Option Candidate) : Type 0 where
  pub same : take count (in_order (rows_cmp order) (map row_of found)) ≡ take count (in_order (rows_cmp order) seen)
  pub ranked : All (IsRanked order) found
  pub closed : Closes order count found last

-- the same of the candidates that are held
abbrev pub HasFirsts : Order → ℕ → List Row → Firsts → Type 0
HasFirsts order count seen firsts = AreFirsts order count seen firsts.found.items firsts.last

-- the first of these candidates in order are the first of the documents that satisfy, and each keeps its document's values
pub record AreFirst (query : Query) (docs : List Row) (count : ℕ) (found : List Candidate) : Type 0 where
  pub same : take count (in_order (rows_cmp query.order) (map row_of found)) ≡ take count (matches query docs)
  pub ranked : All (IsRanked query.order) found
