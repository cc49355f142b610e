-- The orders of rows and of candidates are total, and agree.
use Rattle.std.proofs.Common.{◌≡◌, ℕ, suc, ◌+◌, ◌<◌, List, [], ◌∷◌, Bool, true, false, Ordering, Less, Equal, Greater, Option, cond, option_map, get_or, refl, sym, ap, ◌∙◌, arith, ltb, None}
use Rattle.std.specs.Ordering.{ordering_then, ordering_reverse, nat_cmp}
use Rattle.std.specs.Cmp.{IsTotalOrder}
use Rattle.std.specs.Cmp.Lexicographic.{slice_cmp}
use Rattle.std.proofs.lemmas.Cmp.{on_total, then_total, tied_back, nat_list_cmp_total}
use borrow.Author.Tests.{ltb-true}
use Rattle.q_doc.specs.Tree.{Tree}
use Rattle.q_doc.specs.Order.{value_cmp}
use Rattle.q_doc.specs.OrderLaws.{value_cmp_total}
use Rattle.q_doc.specs.Path.{tree_at}
use Rattle.query_core.specs.declared.windows.Candidate.{Candidate}
use Rattle.query_core.specs.declared.windows.TheConstants.{KEPT}
use Rattle.query_core.specs.Window.{Row, Order, turned, paths_cmp, rows_cmp}
use Rattle.query_core.specs.Candidates.{row_of, value_at, value_of, candidates_cmp, IsRanked}

-- ---- total orders

-- the reverse of a total order is total
turned_total : {K : Type 0} {R : K → K → Ordering} (descending : Bool) → IsTotalOrder R → IsTotalOrder (λ x y. turned descending (R x y))
turned_total false o = o
turned_total {R = R} true o = record {
  antisymm = λ x y. ap ordering_reverse (o.antisymm x y);
  trans = λ x y z p q. sym (o.antisymm z x) ∙ o.trans z y x (o.antisymm z y ∙ q) (o.antisymm y x ∙ p);
  congr = λ x y z p. ap ordering_reverse (o.congr x y z (tied_back o y x (o.antisymm y x ∙ p)));
}

all_tied : {K : Type 0} → IsTotalOrder {K = K} (λ x y. Equal)
all_tied = record { antisymm = λ x y. refl; trans = λ x y z p q. absurd cc; congr = λ x y z p. refl }

pub paths_cmp_total : (order : Order) → IsTotalOrder (paths_cmp order)
paths_cmp_total [] = all_tied
paths_cmp_total (p ∷ ps) = then_total (on_total (λ t. tree_at p.0 t) (turned_total p.1 value_cmp_total)) (paths_cmp_total ps)

-- the order of rows is total
pub rows_cmp_total : (order : Order) → IsTotalOrder (rows_cmp order)
rows_cmp_total order = then_total (on_total (λ (a : Row). a.2) (paths_cmp_total order)) (on_total (λ (a : Row). a.0) nat_list_cmp_total)

pub candidates_cmp_total : (order : Order) (i : ℕ) → IsTotalOrder (candidates_cmp order i)
candidates_cmp_total [] i = on_total (λ (c : Candidate). c.row.now.0) nat_list_cmp_total
candidates_cmp_total (p ∷ ps) i = then_total (on_total (λ (c : Candidate). value_of c i p.0) (turned_total p.1 value_cmp_total)) (candidates_cmp_total ps (suc i))

-- ---- candidates are ordered as their rows

abbrev kept : Candidate → ℕ → Option Tree
kept c j = option_map (λ r. r.now) (get_or c.values j None)

-- the kept values from index i on are those at these paths
abbrev IsRankedFrom : Order → ℕ → Candidate → Type 0
IsRankedFrom ps i c = (j k : ℕ) → j ≡ i + k → j < KEPT → kept c j ≡ value_at ps k c.row.now.2

if_same : {T : Type 0} (b : Bool) (x y : T) → (b ≡ true → x ≡ y) → cond b x y ≡ y
if_same true x y h = h refl
if_same false x y h = refl

value_of-is : (p : List (List ℕ) × Bool) (ps : Order) (i : ℕ) (c : Candidate) → IsRankedFrom (p ∷ ps) i c → value_of c i p.0 ≡ tree_at p.0 c.row.now.2
value_of-is p ps i c h = if_same (ltb i KEPT) (kept c i) (tree_at p.0 c.row.now.2) (λ e. h i 0 (omega arith) (ltb-true i KEPT e))

then_assoc : (x y z : Ordering) → ordering_then (ordering_then x y) z ≡ ordering_then x (ordering_then y z)
then_assoc Less y z = refl
then_assoc Equal y z = refl
then_assoc Greater y z = refl

agree_from : (ps : Order) (i : ℕ) (a b : Candidate) → IsRankedFrom ps i a → IsRankedFrom ps i b → candidates_cmp ps i a b ≡ rows_cmp ps (row_of a) (row_of b)
agree_from [] i a b h k = refl
agree_from (p ∷ ps) i a b h k =
    let x = value_of-is p ps i a h in
    let y = value_of-is p ps i b k in
    let rest : candidates_cmp ps (suc i) a b ≡ rows_cmp ps (row_of a) (row_of b) = agree_from ps (suc i) a b (λ j m e l. h j (suc m) (omega arith) l) (λ j m e l. k j (suc m) (omega arith) l) in
    ap (λ v. ordering_then (turned p.1 (value_cmp v (value_of b i p.0))) (candidates_cmp ps (suc i) a b)) x
    ∙ ap (λ v. ordering_then (turned p.1 (value_cmp (tree_at p.0 a.row.now.2) v)) (candidates_cmp ps (suc i) a b)) y
    ∙ ap (λ o. ordering_then (turned p.1 (value_cmp (tree_at p.0 a.row.now.2) (tree_at p.0 b.row.now.2))) o) rest
    ∙ sym (then_assoc (turned p.1 (value_cmp (tree_at p.0 a.row.now.2) (tree_at p.0 b.row.now.2))) (paths_cmp ps (row_of a).2 (row_of b).2) (slice_cmp nat_cmp (row_of a).0 (row_of b).0))

from_start : (order : Order) (c : Candidate) → IsRanked order c → IsRankedFrom order 0 c
from_start order c h j k e l = h j l ∙ ap (λ m. value_at order m c.row.now.2) (let same : j ≡ k = omega arith in same)

-- the order of candidates is that of their rows
pub candidates_agree : (order : Order) (a b : Candidate) → IsRanked order a → IsRanked order b → candidates_cmp order 0 a b ≡ rows_cmp order (row_of a) (row_of b)
candidates_agree order a b h k = agree_from order 0 a b (from_start order a h) (from_start order b k)
