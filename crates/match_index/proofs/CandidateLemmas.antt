-- A change that is no candidate of a query passes it by.
use Rattle.std.proofs.Common.{◌≡◌, ℕ, Bool, true, false, not, ◌&&◌, ◌||◌, ◌==◌, List, Option, Some, None, inl, inr, refl, sym, ap, ◌∙◌}
use Rattle.std.specs.Ordering.{is_eq}
use Rattle.std.specs.Str.{bytes_eq}
use Rattle.std.proofs.lemmas.Bool.{cases_Bool, and_parts, and_from, or_parts, eq-eqb}
use Rattle.q_doc.specs.Order.{rank, tree_cmp}
use Rattle.q_doc.specs.Path.{tree_at}
use Rattle.q_doc.specs.Tree.{Tree}
use Rattle.commit_book.specs.declared.change.CommitRow.{CommitRow}
use Rattle.query_core.specs.declared.operator.Op.{Op}
use Rattle.query_core.specs.declared.operator.Op.TheVariants.{Equal, Unequal, Less, AtMost, Greater, AtLeast}
use Rattle.query_core.specs.declared.query.Query.{Query}
use Rattle.query_core.specs.Changes.{passes_by}
use Rattle.query_core.specs.Filters.{Filter, constant, compared, listed, having, present, negated, every, some, Operands, no_operands, operand}
use Rattle.query_core.specs.Meaning.{compares, satisfies, satisfies_every, satisfies_if}
use Rattle.query_core.specs.SameLaws.{same_value-Decides}
use Rattle.query_normal.specs.declared.key.KeyShape.{KeyShape}
use Rattle.query_normal.specs.declared.key.KeyShape.TheVariants.{Record, Query as QueryKey}
use Rattle.match_index.specs.Candidates.{Probe, probe_by, equality_of, first_of, first_equality, probe_of, is_found, is_candidate, is_candidate_key, passes_key}

-- ---- a document that satisfies is found

by_comparison : (p : List (List ℕ)) (op : Op) (v t : Tree) → compares op v (tree_at p t) ≡ true → is_found (probe_by p op v) (Some t) ≡ true
by_comparison p Equal v t h = h
by_comparison p Unequal v t h = refl
by_comparison p Less v t h = refl
by_comparison p AtMost v t h = refl
by_comparison p Greater v t h = refl
by_comparison p AtLeast v t h = refl

by_one : (f : Filter) (t : Tree) → satisfies f t ≡ true → is_found (equality_of f) (Some t) ≡ true
by_one (constant b) t h = refl
by_one (compared p op v) t h = by_comparison p op v t h
by_one (listed p vs) t h = refl
by_one (having p v) t h = refl
by_one (present p) t h = refl
by_one (negated f) t h = refl
by_one (every fs) t h = refl
by_one (some fs) t h = refl

by_first : (one other : Option Probe) (t : Tree) → is_found one (Some t) ≡ true → is_found other (Some t) ≡ true → is_found (first_of one other) (Some t) ≡ true
by_first None other t one rest = rest
by_first (Some probe) other t one rest = one

by_operands : (fs : Operands) (t : Tree) → satisfies_every fs t ≡ true → is_found (first_equality fs) (Some t) ≡ true
by_operands no_operands t h = refl
by_operands (operand f fs) t h =
    let both = and_parts (satisfies f t) (satisfies_every fs t) h in
    by_first (equality_of f) (first_equality fs) t (by_one f t both.0) (by_operands fs t both.1)

pub found_satisfying : (f : Filter) (t : Tree) → satisfies f t ≡ true → is_found (probe_of f) (Some t) ≡ true
found_satisfying (constant b) t h = refl
found_satisfying (compared p op v) t h = by_comparison p op v t h
found_satisfying (listed p vs) t h = refl
found_satisfying (having p v) t h = refl
found_satisfying (present p) t h = refl
found_satisfying (negated f) t h = refl
found_satisfying (every fs) t h = by_operands fs t h
found_satisfying (some fs) t h = refl

-- ---- what is not found does not satisfy

not_satisfying : (f : Filter) (document : Option Tree) → is_found (probe_of f) document ≡ false → satisfies_if f document ≡ false
not_satisfying f None h = refl
not_satisfying f (Some t) h = elim (cases_Bool (satisfies f t)) [
  | inl holds ↦ absurd (let found : is_found (probe_of f) (Some t) ≡ true = found_satisfying f t holds in let wrong : true ≡ false = sym found ∙ h in cc)
  | inr fails ↦ fails
]

neither : (same found was satisfied is : Bool) → (same && (found || was)) ≡ false → (found ≡ false → satisfied ≡ false) → (was ≡ false → is ≡ false)
    → (not (same && satisfied) && not (same && is)) ≡ true
neither false found was satisfied is h before after = refl
neither true found was satisfied is h before after =
    let parts = or_parts found was h in
    let one : satisfied ≡ false = before parts.0 in
    let other : is ≡ false = after parts.1 in
    rw (one, other) refl

pub others_pass : (q : Query) (collection : List ℕ) (before after : Option Tree) → is_candidate q collection before after ≡ false → passes_by q collection before after ≡ true
others_pass q collection before after h =
    neither (bytes_eq collection q.collection) (is_found (probe_of q.filter) before) (is_found (probe_of q.filter) after) (satisfies_if q.filter before) (satisfies_if q.filter after) h
    (not_satisfying q.filter before) (not_satisfying q.filter after)

pub other_keys_pass : (key : KeyShape) (row : CommitRow) → is_candidate_key key row ≡ false → passes_key key row ≡ true
other_keys_pass (Record collection id) row h = refl
other_keys_pass (QueryKey kind q) row h = others_pass q row.collection row.before row.after h

-- what a commit does not pass by is a candidate
pub candidate_from_change : (key : KeyShape) (row : CommitRow) → passes_key key row ≡ false → is_candidate_key key row ≡ true
candidate_from_change key row h = elim (cases_Bool (is_candidate_key key row)) [
  | inl holds ↦ holds
  | inr fails ↦ absurd (let wrong : true ≡ false = sym (other_keys_pass key row fails) ∙ h in cc)
]

-- ---- an equality is true of a document with its value

compares_from : (v : Tree) (there : Option Tree) → compares Equal v there ≡ true → there ≡ Some v
compares_from v None h = absurd (cc)
compares_from v (Some w) h = ap Some ((same_value-Decides w v).0 (and_parts (rank w == rank v) (is_eq (tree_cmp w v)) h).1)

pub found_at : (p : List (List ℕ)) (v t : Tree) → is_found (Some (p, v)) (Some t) ≡ true → tree_at p t ≡ Some v
found_at p v t h = compares_from v (tree_at p t) h

pub found_from : (p : List (List ℕ)) (v t : Tree) → tree_at p t ≡ Some v → is_found (Some (p, v)) (Some t) ≡ true
found_from p v t there = ap (compares Equal v) there ∙ and_from (rank v == rank v) (is_eq (tree_cmp v v)) (eq-eqb (rank v) (rank v) refl) ((same_value-Decides v v).1 refl)
