-- Internal. The tests of equal filters and queries are true exactly of equal ones.
use Rattle.std.specs.Prelude.{◌≡◌, ℕ, Bool, true, false, ◌&&◌, ◌==◌, if◌then◌else◌, List, refl}
use Rattle.std.proofs.Common.{sym, ap, ap₂, ◌∙◌}
use Rattle.std.specs.Bool.{Decides}
use Rattle.std.specs.Cmp.{IsEquivalence, decided}
use Rattle.std.specs.Str.{bytes_eq}
use Rattle.std.proofs.lemmas.Bool.Decides.{Decides-and, Decides-like, Decides-eqb}
use Rattle.std.proofs.lemmas.Slice.Eq.{bytes_eq-Decides, slice_eq-Decides}
use Rattle.q_doc.specs.Tree.{Tree}
use Rattle.q_doc.specs.OrderLaws.{tree_eq-Decides}
use Rattle.query_core.specs.declared.operator.Op.{Op}
use Rattle.query_core.specs.declared.operator.Op.TheVariants.{Equal, Unequal, Less, AtMost, Greater, AtLeast}
use Rattle.query_core.specs.declared.query.Query.{Query}
use Rattle.query_core.specs.Filters.{Filter, constant, compared, listed, having, present, negated, every, some, Operands, no_operands, operand}
use Rattle.query_core.specs.Meaning.{same_value}
use Rattle.query_core.specs.Window.{Order}
use Rattle.query_core.specs.Same.{same_list, same_truth, op_number, same_op, same_path, same_filter, same_operands, same_order, same_query}

-- ---- parts

-- a list test decides equality where its test of items does
pub same_list-Decides : {X : Type 0} (same : X → X → Bool) → ((x y : X) → Decides (same x y) (x ≡ y)) → (xs ys : List X) → Decides (same_list same xs ys) (xs ≡ ys)
same_list-Decides same each xs ys = slice_eq-Decides each xs ys (same_list same xs ys) refl

pub same_truth-Decides : (a b : Bool) → Decides (same_truth a b) (a ≡ b)
same_truth-Decides true true = ((λ e. refl), (λ e. refl))
same_truth-Decides true false = ((λ e. cc), (λ e. cc))
same_truth-Decides false true = ((λ e. cc), (λ e. cc))
same_truth-Decides false false = ((λ e. refl), (λ e. refl))

-- the operator of an index
op_at : ℕ → Op
op_at n =
    if n == 0 then Equal
    else (if n == 1 then Unequal
    else (if n == 2 then Less
    else (if n == 3 then AtMost
    else (if n == 4 then Greater
    else AtLeast))))

op_at-number : (a : Op) → op_at (op_number a) ≡ a
unfolding op_at
op_at-number Equal = refl
op_at-number Unequal = refl
op_at-number Less = refl
op_at-number AtMost = refl
op_at-number Greater = refl
op_at-number AtLeast = refl

pub same_op-Decides : (a b : Op) → Decides (same_op a b) (a ≡ b)
same_op-Decides a b =
    Decides-like (same_op a b) (λ e. sym (op_at-number a) ∙ ap op_at e ∙ op_at-number b) (λ e. ap op_number e) (Decides-eqb (op_number a) (op_number b))

pub same_path-Decides : (p q : List (List ℕ)) → Decides (same_path p q) (p ≡ q)
same_path-Decides = same_list-Decides bytes_eq bytes_eq-Decides

pub same_value-Decides : (t u : Tree) → Decides (same_value t u) (t ≡ u)
same_value-Decides = tree_eq-Decides

-- ---- filters

mutual
  -- filters that are found equal are the same
  pub same_filter-Decides : (f g : Filter) → Decides (same_filter f g) (f ≡ g)
  same_filter-Decides (constant a) (constant b) = Decides-like (same_truth a b) (λ e. ap constant e) (λ e. cc) (same_truth-Decides a b)
  same_filter-Decides (compared p a v) (compared q b w) =
      Decides-like (same_path p q && same_op a b && same_value v w)
      (λ e. (let h : p ≡ q = e.0.0 in let k : a ≡ b = e.0.1 in let l : v ≡ w = e.1 in cc))
      (λ e. (let h : p ≡ q = cc in let k : a ≡ b = cc in let l : v ≡ w = cc in ((h, k), l)))
      (Decides-and (same_path p q && same_op a b) (same_value v w) (Decides-and (same_path p q) (same_op a b) (same_path-Decides p q) (same_op-Decides a b)) (same_value-Decides v w))
  same_filter-Decides (listed p vs) (listed q ws) =
      Decides-like (same_path p q && same_list same_value vs ws) (λ e. ap₂ listed e.0 e.1) (λ e. (let h : p ≡ q = cc in let l : vs ≡ ws = cc in (h, l)))
      (Decides-and (same_path p q) (same_list same_value vs ws) (same_path-Decides p q) (same_list-Decides same_value same_value-Decides vs ws))
  same_filter-Decides (having p v) (having q w) =
      Decides-like (same_path p q && same_value v w) (λ e. ap₂ having e.0 e.1) (λ e. (let h : p ≡ q = cc in let l : v ≡ w = cc in (h, l)))
      (Decides-and (same_path p q) (same_value v w) (same_path-Decides p q) (same_value-Decides v w))
  same_filter-Decides (present p) (present q) = Decides-like (same_path p q) (λ e. ap present e) (λ e. cc) (same_path-Decides p q)
  same_filter-Decides (negated f) (negated g) = Decides-like (same_filter f g) (λ e. ap negated e) (λ e. cc) (same_filter-Decides f g)
  same_filter-Decides (every fs) (every gs) = Decides-like (same_operands fs gs) (λ e. ap every e) (λ e. cc) (same_operands-Decides fs gs)
  same_filter-Decides (some fs) (some gs) = Decides-like (same_operands fs gs) (λ e. ap some e) (λ e. cc) (same_operands-Decides fs gs)
  same_filter-Decides f g = ((λ e. cc), (λ e. cc))

  -- so are operands
  pub same_operands-Decides : (fs gs : Operands) → Decides (same_operands fs gs) (fs ≡ gs)
  same_operands-Decides no_operands no_operands = ((λ e. refl), (λ e. refl))
  same_operands-Decides (operand f fs) (operand g gs) =
      Decides-like (same_filter f g && same_operands fs gs) (λ e. ap₂ operand e.0 e.1) (λ e. (let h : f ≡ g = cc in let l : fs ≡ gs = cc in (h, l)))
      (Decides-and (same_filter f g) (same_operands fs gs) (same_filter-Decides f g) (same_operands-Decides fs gs))
  same_operands-Decides fs gs = ((λ e. cc), (λ e. cc))

-- the test is an equivalence
pub same_filter_equiv : IsEquivalence same_filter
same_filter_equiv = decided same_filter same_filter-Decides

-- ---- orders and queries

pub same_order-Decides : (o p : Order) → Decides (same_order o p) (o ≡ p)
same_order-Decides =
    same_list-Decides (λ p q. same_path p.0 q.0 && same_truth p.1 q.1)
    (λ p q. Decides-like (same_path p.0 q.0 && same_truth p.1 q.1) (λ e. ap₂ (λ a b. (a, b)) e.0 e.1) (λ e. (ap (λ r. r.0) e, ap (λ r. r.1) e))
    (Decides-and (same_path p.0 q.0) (same_truth p.1 q.1) (same_path-Decides p.0 q.0) (same_truth-Decides p.1 q.1)))

pub same_order_equiv : IsEquivalence same_order
same_order_equiv = decided same_order same_order-Decides

-- all but the two numbers
abbrev same_texts : Query → Query → Bool
same_texts q r = bytes_eq q.collection r.collection && same_filter q.filter r.filter && same_order q.order r.order

-- queries that are found equal are the same
pub same_query-Decides : (q r : Query) → Decides (same_query q r) (q ≡ r)
same_query-Decides q r =
    Decides-like (same_query q r)
    (λ e i. record { collection = e.0.0.0.0 i; filter = e.0.0.0.1 i; order = e.0.0.1 i; skip = e.0.1 i; take = e.1 i })
    (λ e. ((((ap (λ x. x.collection) e, ap (λ x. x.filter) e), ap (λ x. x.order) e), ap (λ x. x.skip) e), ap (λ x. x.take) e))
    (Decides-and (same_texts q r && q.skip == r.skip) (q.take == r.take)
    (Decides-and (same_texts q r) (q.skip == r.skip)
    (Decides-and (bytes_eq q.collection r.collection && same_filter q.filter r.filter) (same_order q.order r.order)
    (Decides-and (bytes_eq q.collection r.collection) (same_filter q.filter r.filter) (bytes_eq-Decides q.collection r.collection) (same_filter-Decides q.filter r.filter))
    (same_order-Decides q.order r.order))
    (Decides-eqb q.skip r.skip))
    (Decides-eqb q.take r.take))

pub same_query_equiv : IsEquivalence same_query
same_query_equiv = decided same_query same_query-Decides
