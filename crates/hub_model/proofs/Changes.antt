-- Which commits change what a record's key finds.
use Rattle.std.proofs.Common.{◌≡◌, ℕ, suc, ◌-◌, ◌≤◌, Bool, true, false, not, ◌&&◌, ◌||◌, ◌==◌, List, Option, Some, None, is_some, zero, refl, ap, ap₂, ◌∙◌, arith}
use Rattle.std.specs.Prelude.{slice_get, if◌then◌else◌, IfSome}
use Rattle.std.specs.Ordering.{eq_by_cmp}
use Rattle.std.proofs.lemmas.Bool.{ne_eqb, and_left, not_from_true, not_from_false}
use Rattle.q_doc.specs.Order.{tree_cmp}
use Rattle.q_doc.specs.Tree.{Tree}
use Rattle.query_normal.specs.declared.key.KeyShape.TheVariants.{Record}
use Rattle.commit_book.specs.declared.change.Change.{Change}
use Rattle.commit_book.specs.Journal.{is_of, put_at, document_after, document_at}
use Rattle.hub_model.specs.Journal.{Finding, document_finding, same_finding, result_at}
use Rattle.hub_model.specs.Outdated.{is_changed}
use Rattle.hub_model.proofs.Results.{same_finding-Decides}

-- a version is not above the number of the changes
version_within : (b : Bool) (document : Option Tree) (old : Option (ℕ × Tree)) (n : ℕ) → IfSome old (λ d. d.0 ≤ n) → IfSome (if b then put_at (suc n) document else old) (λ d. d.0 ≤ suc n)
version_within true (Some t) old n h = omega arith
version_within true None old n h = tt
version_within false document None n h = tt
version_within false document (Some d) n h = omega (arith, h)

version_after : (collection id : List ℕ) (change : Option Change) (old : Option (ℕ × Tree)) (n : ℕ) → IfSome old (λ d. d.0 ≤ n) → IfSome (document_after collection id (suc n) change old) (λ d. d.0 ≤ suc n)
version_after collection id (Some change) old n h = version_within (is_of collection id change) change.document old n h
version_after collection id None None n h = tt
version_after collection id None (Some d) n h = omega (arith, h)

pub version_at : (journal : List Change) (n : ℕ) (collection id : List ℕ) → IfSome (document_at journal n collection id) (λ d. d.0 ≤ n)
version_at journal zero collection id = tt
version_at journal (suc n) collection id = version_after collection id (slice_get journal n) (document_at journal n collection id) n (version_at journal n collection id)

same_itself : (a : Finding) → same_finding a a ≡ true
same_itself a = (same_finding-Decides a a).1 refl

-- a change of the record changes its finding, but for a deletion of nothing
changed_by : (b : Bool) (document : Option Tree) (old : Option (ℕ × Tree)) (n : ℕ) → IfSome old (λ d. d.0 ≤ n) → not (same_finding (document_finding (if b then put_at (suc n) document else old)) (document_finding old)) ≡ (b && (is_some document || is_some old))
changed_by false document old n h = not_from_true (same_finding (document_finding old) (document_finding old)) (same_itself (document_finding old))
changed_by true (Some t) None n h = refl
changed_by true (Some t) (Some d) n h =
    let newer : (suc n == d.0) ≡ false = ne_eqb (suc n) d.0 (λ e. omega (arith, h, e)) in
    not_from_false (suc n == d.0 && eq_by_cmp tree_cmp t d.1) (and_left (suc n == d.0) (eq_by_cmp tree_cmp t d.1) newer)
changed_by true None None n h = refl
changed_by true None (Some d) n h = refl

before_suc : (n : ℕ) → suc n - 1 ≡ n
before_suc n = omega arith

pub record-changed : (collection id : List ℕ) (journal : List Change) (n : ℕ) (change : Change) → slice_get journal n ≡ Some change → is_changed (Record collection id) journal (suc n) ≡ (is_of collection id change && (is_some change.document || is_some (document_at journal n collection id)))
record-changed collection id journal n change row =
    ap₂ (λ (a b : Finding). not (same_finding a b))
    (ap (λ (r : Option Change). document_finding (document_after collection id (suc n) r (document_at journal n collection id))) row)
    (ap (result_at (Record collection id) journal) (before_suc n))
    ∙ changed_by (is_of collection id change) change.document (document_at journal n collection id) n (version_at journal n collection id)
