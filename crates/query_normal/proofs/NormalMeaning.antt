-- A document satisfies a normal form exactly where it satisfies the filter.
use Rattle.std.proofs.Common.{◌≡◌, ℕ, Bool, true, false, not, ◌&&◌, ◌||◌, eqb, List, [], ◌∷◌, Option, None, Some, inl, inr, refl, sym, ap, ap₂, ◌∙◌, arith}
use Rattle.std.specs.List.{list_any, filter}
use Rattle.std.specs.Ordering.{is_eq}
use Rattle.std.proofs.lemmas.Bool.{cases_Bool}
use Rattle.std.proofs.lemmas.Bool.Decides.{nat_tests}
use Rattle.q_doc.specs.Tree.{Tree}
use Rattle.q_doc.specs.Order.{rank, tree_cmp}
use Rattle.q_doc.specs.Path.{tree_at}
use Rattle.query_core.specs.declared.operator.Op.TheVariants.{Equal as EqualTo}
use Rattle.query_core.specs.Filters.{Filter, constant, compared, listed, having, present, negated, every, some, Operands, no_operands, operand, operands_of, operand_list}
use Rattle.query_core.specs.Meaning.{satisfies, satisfies_every, satisfies_some, compares, is_listed, same_value}
use Rattle.query_core.specs.Same.{same_filter, same_truth}
use Rattle.query_core.specs.SameLaws.{same_filter-Decides, same_value-Decides}
use Rattle.query_core.specs.Window.{in_order}
use Rattle.query_normal.specs.Normal.{text_cmp, filters_once, values_once, one_of, signed, parts_of, is_constant, joined, connected, normal_filter, normal_parts}
use Rattle.query_normal.proofs.JoinedTruth.{joins, joins_unit, holds, holds-append, holds_any, holds-in_order, holds-distinct, holds-filter, holds-zero}

-- whether a document satisfies each (true) or some (false) of these filters
abbrev fulfills : Tree → Bool → List Filter → Bool
fulfills t = holds (λ f. satisfies f t)

-- ---- operands

every_list : (t : Tree) (fs : Operands) → fulfills t true (operand_list fs) ≡ satisfies_every fs t
every_list t no_operands = refl
every_list t (operand f fs) = ap (λ r. satisfies f t && r) (every_list t fs)

some_list : (t : Tree) (fs : Operands) → fulfills t false (operand_list fs) ≡ satisfies_some fs t
some_list t no_operands = refl
some_list t (operand f fs) = ap (λ r. satisfies f t || r) (some_list t fs)

pub operand_list-of : (fs : List Filter) → operand_list (operands_of fs) ≡ fs
operand_list-of [] = refl
operand_list-of (f ∷ fs) = ap (λ l. f ∷ l) (operand_list-of fs)

parts_hold : (t : Tree) (b : Bool) (f : Filter) → fulfills t b (parts_of b f) ≡ satisfies f t
parts_hold t true (every fs) = every_list t fs
parts_hold t true (constant c) = joins_unit true (satisfies (constant c) t)
parts_hold t true (compared p op v) = joins_unit true (satisfies (compared p op v) t)
parts_hold t true (listed p vs) = joins_unit true (satisfies (listed p vs) t)
parts_hold t true (having p v) = joins_unit true (satisfies (having p v) t)
parts_hold t true (present p) = joins_unit true (satisfies (present p) t)
parts_hold t true (negated f) = joins_unit true (satisfies (negated f) t)
parts_hold t true (some fs) = joins_unit true (satisfies (some fs) t)
parts_hold t false (some fs) = some_list t fs
parts_hold t false (constant c) = joins_unit false (satisfies (constant c) t)
parts_hold t false (compared p op v) = joins_unit false (satisfies (compared p op v) t)
parts_hold t false (listed p vs) = joins_unit false (satisfies (listed p vs) t)
parts_hold t false (having p v) = joins_unit false (satisfies (having p v) t)
parts_hold t false (present p) = joins_unit false (satisfies (present p) t)
parts_hold t false (negated f) = joins_unit false (satisfies (negated f) t)
parts_hold t false (every fs) = joins_unit false (satisfies (every fs) t)

same_truth_is : (b c : Bool) → same_truth b c ≡ true → c ≡ b
same_truth_is true true e = refl
same_truth_is true false e = absurd (cc)
same_truth_is false true e = absurd (cc)
same_truth_is false false e = refl

constant_is : (t : Tree) (b : Bool) (f : Filter) → is_constant b f ≡ true → satisfies f t ≡ b
constant_is t b (constant c) e = same_truth_is b c e
constant_is t b (compared p op v) e = absurd (cc)
constant_is t b (listed p vs) e = absurd (cc)
constant_is t b (having p v) e = absurd (cc)
constant_is t b (present p) e = absurd (cc)
constant_is t b (negated f) e = absurd (cc)
constant_is t b (every fs) e = absurd (cc)
constant_is t b (some fs) e = absurd (cc)

joined_holds : (t : Tree) (b : Bool) (fs : List Filter) → satisfies (joined b fs) t ≡ fulfills t b fs
joined_holds t b [] = refl
joined_holds t b (f ∷ []) = sym (joins_unit b (satisfies f t))
joined_holds t true (f ∷ g ∷ fs) = sym (every_list t (operands_of (f ∷ g ∷ fs))) ∙ ap (fulfills t true) (operand_list-of (f ∷ g ∷ fs))
joined_holds t false (f ∷ g ∷ fs) = sym (some_list t (operands_of (f ∷ g ∷ fs))) ∙ ap (fulfills t false) (operand_list-of (f ∷ g ∷ fs))

connected_holds : (t : Tree) (b : Bool) (fs : List Filter) → satisfies (connected b fs) t ≡ fulfills t b fs
connected_holds t b fs =
    let kept = filter (λ f. not (is_constant b f)) fs in
    elim (cases_Bool (list_any (is_constant (not b)) fs)) [
      | inl e ↦ rw e (sym (holds-zero (λ f. satisfies f t) b (is_constant (not b)) (constant_is t (not b)) fs e))
      | inr e ↦ rw e (
          joined_holds t b (filters_once kept)
          ∙ holds-distinct (λ f. satisfies f t) b same_filter same_filter-Decides (in_order text_cmp kept)
          ∙ holds-in_order (λ f. satisfies f t) b text_cmp kept
          ∙ holds-filter (λ f. satisfies f t) b (is_constant b) (constant_is t b) fs)
    ]

-- ---- values of a list

none_listed : (found : Option Tree) → false ≡ is_listed [] found
none_listed None = refl
none_listed (Some t) = refl

and_false : (b : Bool) → (b && false) ≡ false
and_false true = refl
and_false false = refl

eqb-itself : (n : ℕ) → eqb n n ≡ true
eqb-itself n = grind (arith, nat_tests)

one_listed : (v : Tree) (found : Option Tree) → compares EqualTo v found ≡ is_listed (v ∷ []) found
one_listed v None = refl
one_listed v (Some t) =
    elim (cases_Bool (is_eq (tree_cmp t v))) [
      | inl e ↦ (
          let same : t ≡ v = (same_value-Decides t v).0 e in
          let ranks : eqb (rank t) (rank v) ≡ true = ap (λ u. eqb (rank t) (rank u)) (sym same) ∙ eqb-itself (rank t) in
          rw (e, ranks) refl)
      | inr e ↦ rw e (and_false (eqb (rank t) (rank v)))
    ]

one_of_holds : (t : Tree) (p : List (List ℕ)) (vs : List Tree) → satisfies (one_of p vs) t ≡ is_listed vs (tree_at p t)
one_of_holds t p [] = none_listed (tree_at p t)
one_of_holds t p (v ∷ []) = one_listed v (tree_at p t)
one_of_holds t p (v ∷ w ∷ vs) = refl

listed_once : (vs : List Tree) (found : Option Tree) → is_listed (values_once vs) found ≡ is_listed vs found
listed_once vs None = refl
listed_once vs (Some t) =
    sym (holds_any (same_value t) (values_once vs))
    ∙ holds-distinct (same_value t) false same_value same_value-Decides (in_order tree_cmp vs)
    ∙ holds-in_order (same_value t) false tree_cmp vs
    ∙ holds_any (same_value t) vs

-- ---- filters

-- a truth value, or its negation
abbrev turn : Bool → Bool → Bool
turn false x = x
turn true x = not x

turn_twice : (n x : Bool) → turn (not n) x ≡ turn n (not x)
turn_twice true true = refl
turn_twice true false = refl
turn_twice false true = refl
turn_twice false false = refl

turn_and : (n x y : Bool) → joins (not n) (turn n x) (turn n y) ≡ turn n (x && y)
turn_and true true y = refl
turn_and true false y = refl
turn_and false true y = refl
turn_and false false y = refl

turn_or : (n x y : Bool) → joins n (turn n x) (turn n y) ≡ turn n (x || y)
turn_or true true y = refl
turn_or true false y = refl
turn_or false true y = refl
turn_or false false y = refl

turn_true : (n : Bool) → not n ≡ turn n true
turn_true true = refl
turn_true false = refl

turn_false : (n : Bool) → n ≡ turn n false
turn_false true = refl
turn_false false = refl

signed_holds : (t : Tree) (n : Bool) (f : Filter) → satisfies (signed n f) t ≡ turn n (satisfies f t)
signed_holds t false f = refl
signed_holds t true (constant b) = refl
signed_holds t true (compared p op v) = refl
signed_holds t true (listed p vs) = refl
signed_holds t true (having p v) = refl
signed_holds t true (present p) = refl
signed_holds t true (negated f) = refl
signed_holds t true (every fs) = refl
signed_holds t true (some fs) = refl

mutual
  -- a normal form means the filter, or its negation
  pub normal_holds : (t : Tree) (n : Bool) (f : Filter) → satisfies (normal_filter n f) t ≡ turn n (satisfies f t)
  normal_holds t n (constant b) = signed_holds t n (constant b)
  normal_holds t n (compared p op v) = signed_holds t n (compared p op v)
  normal_holds t n (listed p vs) =
      signed_holds t n (one_of p (values_once vs)) ∙ ap (turn n) (one_of_holds t p (values_once vs) ∙ listed_once vs (tree_at p t))
  normal_holds t n (having p v) = signed_holds t n (having p v)
  normal_holds t n (present p) = signed_holds t n (present p)
  normal_holds t n (negated f) = normal_holds t (not n) f ∙ turn_twice n (satisfies f t)
  normal_holds t n (every fs) = connected_holds t (not n) (normal_parts n (not n) fs) ∙ every_holds t n fs
  normal_holds t n (some fs) = connected_holds t n (normal_parts n n fs) ∙ some_holds t n fs

  -- the parts of an `and` mean it
  every_holds : (t : Tree) (n : Bool) (fs : Operands) → fulfills t (not n) (normal_parts n (not n) fs) ≡ turn n (satisfies_every fs t)
  every_holds t n no_operands = turn_true n
  every_holds t n (operand f fs) =
      holds-append (λ g. satisfies g t) (not n) (parts_of (not n) (normal_filter n f)) (normal_parts n (not n) fs)
      ∙ ap₂ (joins (not n)) (parts_hold t (not n) (normal_filter n f) ∙ normal_holds t n f) (every_holds t n fs)
      ∙ turn_and n (satisfies f t) (satisfies_every fs t)

  -- the parts of an `or` mean it
  some_holds : (t : Tree) (n : Bool) (fs : Operands) → fulfills t n (normal_parts n n fs) ≡ turn n (satisfies_some fs t)
  some_holds t n no_operands = turn_false n
  some_holds t n (operand f fs) =
      holds-append (λ g. satisfies g t) n (parts_of n (normal_filter n f)) (normal_parts n n fs)
      ∙ ap₂ (joins n) (parts_hold t n (normal_filter n f) ∙ normal_holds t n f) (some_holds t n fs)
      ∙ turn_or n (satisfies f t) (satisfies_some fs t)
