-- Believed. The normal form of a query, by which queries that mean the same by these rules have one key: negations at the atoms, no
-- `and` inside an `and`, operands and values in order and each once, no neutral constants, and each path of the order once.
use Rattle.std.specs.Prelude.{◌≡◌, ℕ, Bool, true, false, not, if◌then◌else◌, List, [], ◌∷◌, ◌++◌, filter}
use Rattle.std.specs.List.{list_any}
use Rattle.std.specs.Ordering.{nat_cmp}
use Rattle.std.specs.declared.cmp.Ordering.{Ordering}
use Rattle.std.specs.Cmp.Lexicographic.{slice_cmp}
use Rattle.q_doc.specs.Tree.{Tree}
use Rattle.q_doc.specs.Order.{tree_cmp}
use Rattle.query_core.specs.declared.operator.Op.TheVariants.{Equal as EqualTo}
use Rattle.query_core.specs.declared.query.Query.{Query}
use Rattle.query_core.specs.Filters.{Filter, constant, compared, listed, having, present, negated, every, some, Operands, no_operands, operand, operands_of, operand_list}
use Rattle.query_core.specs.Limits.{IsQuery}
use Rattle.query_core.specs.Meaning.{same_value}
use Rattle.query_core.specs.Print.{filter_text}
use Rattle.query_core.specs.Same.{same_filter, same_path, same_truth}
use Rattle.query_core.specs.Window.{Order, in_order}

-- ---- lists in order, each item once

-- the items after x, without each that is the same as the one before it
abbrev pub distinct_after : {X : Type 0} → (X → X → Bool) → X → List X → List X
distinct_after same x [] = []
distinct_after same x (y ∷ ys) = if same x y then distinct_after same x ys else y ∷ distinct_after same y ys

-- the items, without each that is the same as the one before it
abbrev pub distinct : {X : Type 0} → (X → X → Bool) → List X → List X
distinct same [] = []
distinct same (x ∷ xs) = x ∷ distinct_after same x xs

-- the order of filters by the bytes of their printed texts
abbrev pub text_cmp : Filter → Filter → Ordering
text_cmp f g = slice_cmp nat_cmp (filter_text f) (filter_text g)

-- filters in the order of their texts, each once
abbrev pub filters_once : List Filter → List Filter
filters_once fs = distinct same_filter (in_order text_cmp fs)

-- values in order, each once
abbrev pub values_once : List Tree → List Tree
values_once vs = distinct same_value (in_order tree_cmp vs)

-- ---- filters

-- one of these values: of none it is false, and of one a comparison
abbrev pub one_of : List (List ℕ) → List Tree → Filter
one_of p [] = constant false
one_of p (v ∷ []) = compared p EqualTo v
one_of p (v ∷ w ∷ vs) = listed p (v ∷ w ∷ vs)

-- a filter or its negation, where the filter is a constant or an atom
abbrev pub signed : Bool → Filter → Filter
signed false f = f
signed true (constant b) = constant (not b)
signed true f = negated f

-- what a filter adds to the operands of an `and` (true) or an `or` (false): its own operands, where it is joined by the
-- same, and else itself
abbrev pub parts_of : Bool → Filter → List Filter
parts_of true (every fs) = operand_list fs
parts_of false (some fs) = operand_list fs
parts_of is_and f = f ∷ []

-- whether a filter is this constant
abbrev pub is_constant : Bool → Filter → Bool
is_constant b (constant c) = same_truth b c
is_constant b f = false

-- filters joined by `and` (true) or `or` (false): none are the neutral constant, and one is itself
abbrev pub joined : Bool → List Filter → Filter
joined is_and [] = constant is_and
joined is_and (f ∷ []) = f
joined true (f ∷ g ∷ fs) = every (operands_of (f ∷ g ∷ fs))
joined false (f ∷ g ∷ fs) = some (operands_of (f ∷ g ∷ fs))

-- `false` makes an `and` false, and `true` is left out of it; in an `or` it is the other way round
abbrev pub connected : Bool → List Filter → Filter
connected is_and fs =
    if list_any (is_constant (not is_and)) fs then constant (not is_and)
    else joined is_and (filters_once (filter (λ f. not (is_constant is_and f)) fs))

-- normal forms
abbrev mutual
  -- of a filter, or of its negation (true)
  pub normal_filter : Bool → Filter → Filter
  normal_filter negative (constant b) = signed negative (constant b)
  normal_filter negative (compared p op v) = signed negative (compared p op v)
  normal_filter negative (listed p vs) = signed negative (one_of p (values_once vs))
  normal_filter negative (having p v) = signed negative (having p v)
  normal_filter negative (present p) = signed negative (present p)
  normal_filter negative (negated f) = normal_filter (not negative) f
  normal_filter negative (every fs) = connected (not negative) (normal_parts negative (not negative) fs)
  normal_filter negative (some fs) = connected negative (normal_parts negative negative fs)

  -- of operands, as what they add to an `and` (true) or an `or` (false)
  pub normal_parts : Bool → Bool → Operands → List Filter
  normal_parts negative is_and no_operands = []
  normal_parts negative is_and (operand f fs) = parts_of is_and (normal_filter negative f) ++ normal_parts negative is_and fs

-- ---- queries

-- the paths of an order, each where it comes first
abbrev pub normal_order : Order → Order
normal_order [] = []
normal_order (p ∷ ps) = p ∷ filter (λ q. not (same_path p.0 q.0)) (normal_order ps)

-- the normal form of a query
abbrev pub normal_query : Query → Query
normal_query q = record q { filter = normal_filter false q.filter; order = normal_order q.order }

-- a query of the language that is its own normal form
pub record IsNormal (q : Query) : Type 0 where
  pub is_query : IsQuery q
  pub itself : normal_query q ≡ q
