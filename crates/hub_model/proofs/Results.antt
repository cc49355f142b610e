-- Results of keys in a journal.
use Rattle.std.proofs.Common.{◌∙◌, sym, ◌≡◌, ◌≢◌, ℕ, zero, suc, ◌<◌, ◌≤◌, true, not, ◌&&◌, ◌==◌, List, ◌++◌, length, refl, ap, ap₂, inl, inr, arith, subst}
use Rattle.std.specs.Prelude.{nat_lt, bytes_eq}
use Rattle.std.specs.Bool.{Decides}
use Rattle.std.specs.Ordering.{eq_by_cmp}
use Rattle.std.proofs.lemmas.Bool.{cases_Bool, cases_lt, and_parts, or_cases, or_left, or_right, and_from, lt-ltb, ltb-true, not-true, not_from_false, both_ways}
use Rattle.std.proofs.lemmas.Bool.Decides.{Decides-eqb}
use Rattle.std.proofs.lemmas.Slice.Eq.{bytes_eq-Decides, slice_eq-Decides}
use Rattle.std.specs.Cmp.Lexicographic.{pointwise}
use Rattle.q_doc.specs.Order.{tree_cmp}
use Rattle.q_doc.specs.OrderLaws.{tree_eq-Decides}
use Rattle.q_doc.specs.Tree.{Tree}
use Rattle.query_normal.specs.declared.key.KeyShape.{KeyShape}
use Rattle.query_normal.specs.declared.key.KeyShape.TheVariants.{Record, Query}
use Rattle.query_normal.specs.SameKey.{both, decides_whole}
use Rattle.commit_book.specs.declared.change.Change.{Change}
use Rattle.commit_book.specs.Documents.{Row}
use Rattle.commit_book.proofs.GrowLemmas.{document_prefix, docs_prefix}
use Rattle.query_core.specs.Window.{window}
use Rattle.result_kinds.specs.Results.{QueryResult, objects, ids, result_of}
use Rattle.hub_model.specs.Journal.{Finding, absent, present, queried, document_finding, result_at, same_row, same_queried, same_finding}
use Rattle.hub_model.specs.Outdated.{IsOutdated, is_outdated}
use Rattle.hub_model.proofs.Moves.{IsDecided}

-- ---- equality of results

-- a version and a document
same_document-Decides : (v w : ℕ) (t u : Tree) → Decides (v == w && eq_by_cmp tree_cmp t u) (◌≡◌ {A = ℕ × Tree} (v, t) (w, u))
same_document-Decides v w t u =
    decides_whole (v == w && eq_by_cmp tree_cmp t u) (both (v == w) (eq_by_cmp tree_cmp t u) (Decides-eqb v w) (tree_eq-Decides t u))
    (λ e j. (e.0 j, e.1 j)) (λ e. (ap (λ (d : ℕ × Tree). d.0) e, ap (λ (d : ℕ × Tree). d.1) e))

-- a row
same_row-Decides : (a b : Row) → Decides (same_row a b) (a ≡ b)
same_row-Decides a b =
    decides_whole (same_row a b) (both (bytes_eq a.0 b.0) (a.1 == b.1 && eq_by_cmp tree_cmp a.2 b.2) (bytes_eq-Decides a.0 b.0) (same_document-Decides a.1 b.1 a.2 b.2))
    (λ e j. (e.0 j, (e.1 j).0, (e.1 j).1)) (λ e. (ap (λ (r : Row). r.0) e, ap (λ (r : Row). (r.1, r.2)) e))

-- the result of a query
pub same_queried-Decides : (a b : QueryResult) → Decides (same_queried a b) (a ≡ b)
same_queried-Decides (objects rows) (objects others) =
    decides_whole (pointwise same_row rows others) (slice_eq-Decides same_row-Decides rows others (pointwise same_row rows others) refl) (ap objects) (λ e. let h : rows ≡ others = cc in h)
same_queried-Decides (ids names) (ids others) =
    decides_whole (pointwise bytes_eq names others) (slice_eq-Decides bytes_eq-Decides names others (pointwise bytes_eq names others) refl) (ap ids) (λ e. let h : names ≡ others = cc in h)
same_queried-Decides a b = ((λ h. cc), (λ h. cc))

-- the test whether two results are equal decides it
pub same_finding-Decides : (a b : Finding) → Decides (same_finding a b) (a ≡ b)
same_finding-Decides absent absent = ((λ _. refl), (λ _. refl))
same_finding-Decides (present v t) (present w u) =
    decides_whole (v == w && eq_by_cmp tree_cmp t u) (both (v == w) (eq_by_cmp tree_cmp t u) (Decides-eqb v w) (tree_eq-Decides t u))
    (λ e. ap₂ present e.0 e.1) (λ e. (let h : v ≡ w = cc in h, let h : t ≡ u = cc in h))
same_finding-Decides (queried a) (queried b) = decides_whole (same_queried a b) (same_queried-Decides a b) (ap queried) (λ e. let h : a ≡ b = cc in h)
same_finding-Decides a b = ((λ h. cc), (λ h. cc))

-- any two results of a key are equal or not
pub result_at_decided : (key : KeyShape) (journal : List Change) → IsDecided (result_at key journal)
result_at_decided key journal n m = elim (cases_Bool (same_finding (result_at key journal n) (result_at key journal m))) [
  | inl same ↦ inl ((same_finding-Decides (result_at key journal n) (result_at key journal m)).0 same)
  | inr other ↦ inr (λ e. both_ways (same_finding (result_at key journal n) (result_at key journal m)) other ((same_finding-Decides (result_at key journal n) (result_at key journal m)).1 e))
]

-- ---- a result depends on the first changes alone

pub result_at-append : (key : KeyShape) (journal more : List Change) (n : ℕ) → n ≤ length journal → result_at key (journal ++ more) n ≡ result_at key journal n
result_at-append (Record collection id) journal more n within = ap document_finding (document_prefix journal more n collection id within)
result_at-append (Query kind normal) journal more n within = ap (λ (rows : List Row). queried (result_of kind (window normal rows))) (docs_prefix journal more n normal.collection within)

-- ---- the test of what is outdated

-- the test that a later commit finds another result
other_true : (key : KeyShape) (journal : List Change) (n c : ℕ) → not (same_finding (result_at key journal n) (result_at key journal c)) ≡ true → result_at key journal n ≢ result_at key journal c
other_true key journal n c h e =
    both_ways (same_finding (result_at key journal n) (result_at key journal c)) (not-true (same_finding (result_at key journal n) (result_at key journal c)) h)
    ((same_finding-Decides (result_at key journal n) (result_at key journal c)).1 e)

true_other : (key : KeyShape) (journal : List Change) (n c : ℕ) → result_at key journal n ≢ result_at key journal c → not (same_finding (result_at key journal n) (result_at key journal c)) ≡ true
true_other key journal n c other = elim (cases_Bool (same_finding (result_at key journal n) (result_at key journal c))) [
  | inl same ↦ absurd (other ((same_finding-Decides (result_at key journal n) (result_at key journal c)).0 same))
  | inr h ↦ not_from_false (same_finding (result_at key journal n) (result_at key journal c)) h
]

pub outdated-from_test : (key : KeyShape) (c : ℕ) (journal : List Change) (front : ℕ) → is_outdated key c journal front ≡ true → IsOutdated key c journal front
outdated-from_test key c journal zero h = cc
outdated-from_test key c journal (suc n) h =
    elim (or_cases (nat_lt c (suc n) && not (same_finding (result_at key journal (suc n)) (result_at key journal c))) (is_outdated key c journal n) h) [
      | inl here ↦ (
          let parts = and_parts (nat_lt c (suc n)) (not (same_finding (result_at key journal (suc n)) (result_at key journal c))) here in
          (suc n, ltb-true c (suc n) parts.0, omega arith, other_true key journal (suc n) c parts.1))
      | inr before ↦ (let d = outdated-from_test key c journal n before in (d.0, d.1, omega (arith, d.2), d.3))
    ]

pub test-from_outdated : (key : KeyShape) (c : ℕ) (journal : List Change) (front : ℕ) → IsOutdated key c journal front → is_outdated key c journal front ≡ true
test-from_outdated key c journal zero d = let after = d.1 in let upto = d.2 in absurd (omega (arith, after, upto))
test-from_outdated key c journal (suc n) d = elim (cases_lt d.0 (suc n)) [
  | inl before ↦ or_right (nat_lt c (suc n) && not (same_finding (result_at key journal (suc n)) (result_at key journal c))) (is_outdated key c journal n)
      (test-from_outdated key c journal n (d.0, d.1, omega (arith, before), d.3))
  | inr not_before ↦ (
      let upto = d.2 in
      let here : d.0 ≡ suc n = omega (arith, upto, not_before) in
      or_left (nat_lt c (suc n) && not (same_finding (result_at key journal (suc n)) (result_at key journal c))) (is_outdated key c journal n)
      (and_from (nat_lt c (suc n)) (not (same_finding (result_at key journal (suc n)) (result_at key journal c)))
      (lt-ltb c (suc n) (subst (λ m. c < m) here d.1))
      (true_other key journal (suc n) c (subst (λ m. result_at key journal m ≢ result_at key journal c) here d.3))))
]

-- what is outdated stays so for a greater front and a longer journal
pub outdated-later : (key : KeyShape) (c : ℕ) (journal more : List Change) (front later : ℕ) → front ≤ length journal → front ≤ later → IsOutdated key c journal front → IsOutdated key c (journal ++ more) later
outdated-later key c journal more front later within grew d =
    let after = d.1 in
    let upto = d.2 in
    let here : result_at key (journal ++ more) d.0 ≡ result_at key journal d.0 = result_at-append key journal more d.0 (omega (arith, upto, within)) in
    let copied : result_at key (journal ++ more) c ≡ result_at key journal c = result_at-append key journal more c (omega (arith, after, upto, within)) in
    (d.0, after, omega (arith, upto, grew), λ e. d.3 (sym here ∙ e ∙ copied))
