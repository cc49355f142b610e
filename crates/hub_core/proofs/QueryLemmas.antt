-- The rows of a query at a commit, and the commit by which its result is known.
use Rattle.std.proofs.Common.{◌≡◌, ℕ, zero, suc, ◌-◌, ◌<◌, ◌≤◌, ◌==◌, Bool, true, false, not, List, [], ◌∷◌, get_or, filter, Option, Some, None, refl, sym, ap, ◌∙◌, subst, inl, inr, arith}
use Rattle.std.specs.List.{All, Contains, list_any}
use Rattle.std.specs.Str.{bytes_eq}
use Rattle.std.proofs.lemmas.Bool.{cases_Bool, cases_lt, eqb-true, lt-ltb, le-leb, and_from, or_parts, not-false}
use Rattle.std.proofs.lemmas.List.Elements.{Contains-append_cases, Contains-append_right, All-weaker, All-contains_itself, All-from_recursion, recursion_from_All}
use Rattle.std.proofs.lemmas.Slice.Eq.{bytes_eq-Decides}
use Rattle.q_doc.specs.Tree.{Tree}
use Rattle.q_doc.specs.TextOrder.{text_eq_equiv}
use Rattle.query_core.specs.declared.query.Query.{Query as AQuery}
use Rattle.query_core.specs.Window.{window}
use Rattle.query_core.proofs.WindowLemmas.{window_alike, window_all}
use Rattle.query_normal.specs.declared.key.KeyShape.{KeyShape}
use Rattle.commit_book.specs.declared.change.Change.{Change}
use Rattle.commit_book.specs.Documents.{Row, list_of, row_of, is_row_of, HasDocuments}
use Rattle.commit_book.specs.Journal.{document_at, printed_of}
use Rattle.commit_book.specs.Documents.{docs}
use Rattle.hub_model.specs.Journal.{result_at, same_finding}
use Rattle.hub_model.specs.Known.{has_result_of}
use Rattle.hub_model.specs.KnownSince.{IsGreatestSame}
use Rattle.hub_model.specs.Outdated.{is_changed}
use Rattle.hub_model.proofs.Results.{same_finding-Decides}
use Rattle.hub_core.specs.Invalidations.{is_after}
use Rattle.hub_core.specs.QueryRows.{IsKept, AreKept, AreChangesOf}

-- ---- the documents of a collection

-- the one that is there
only : {X : Type 0} (y x : X) → Contains (y ∷ []) x → y ≡ x
only y x h = by h.0 h.1 h.2
  where
    by : (k : ℕ) → k < 1 → get_or (y ∷ []) k x ≡ x → y ≡ x
    by zero low e = e
    by (suc k) low e = absurd (omega (arith, low))

-- a row that passes is kept
kept-tail : {X : Type 0} (p : X → Bool) (y x : X) (ys : List X) → Contains (filter p ys) x → Contains (filter p (y ∷ ys)) x
kept-tail p y x ys h = elim (cases_Bool (p y)) [
  | inl own ↦ rw own (Contains-append_right (y ∷ []) (filter p ys) x h)
  | inr other ↦ rw other h
]

kept : {X : Type 0} (p : X → Bool) (xs : List X) (x : X) → Contains xs x → p x ≡ true → Contains (filter p xs) x
kept p [] x there passes = there
kept p (y ∷ ys) x there passes = elim (Contains-append_cases (y ∷ []) ys x there) [
  | inl first ↦ (
      let e : y ≡ x = only y x first in
      let own : p y ≡ true = ap p e ∙ passes in
      rw own (0, omega arith, e))
  | inr later ↦ kept-tail p y x ys (kept p ys x later passes)
]

-- a row is that of what is found under its id
pub found-row : (found : List ℕ → Option (ℕ × Tree)) (rows : List Row) → HasDocuments found rows → (x : Row) → Contains rows x → found x.0 ≡ Some (x.1, x.2)
found-row found rows have x there =
    by (found x.0) (subst (λ (xs : List Row). Contains xs x) (have x.0) (kept (is_row_of x.0) rows x there ((bytes_eq-Decides x.0 x.0).1 refl)))
  where
    by : (o : Option (ℕ × Tree)) → Contains (list_of (row_of x.0 o)) x → o ≡ Some (x.1, x.2)
    by None h = absurd (let k = h.1 in omega (arith, k))
    by (Some d) h = ap (λ (r : Row). Some (r.1, r.2)) (only (x.0, d.0, d.1) x h)

-- ---- windows

-- a window does not depend on the order of the documents
same-test : (id : List ℕ) → ◌≡◌ {A = Row → Bool} (λ row. bytes_eq id row.0) (is_row_of id)
same-test id i row = text_eq_equiv.symm id row.0 i

pub window-of-documents : (found : List ℕ → Option (ℕ × Tree)) (query : AQuery) (rows others : List Row) → HasDocuments found rows → HasDocuments found others → window query rows ≡ window query others
window-of-documents found query rows others have own =
    window_alike query rows others
    (λ id.
    ap (λ (test : Row → Bool). filter test rows) (same-test id)
    ∙ have id
    ∙ sym (own id)
    ∙ sym (ap (λ (test : Row → Bool). filter test others) (same-test id)))

-- the book keeps the text of each row of a window
pub window-kept : (journal : List Change) (n : ℕ) (collection : List ℕ) (query : AQuery) (rows : List Row) → HasDocuments (document_at journal n collection) rows → AreKept journal n collection (window query rows)
window-kept journal n collection query rows have =
    let each : All (IsKept journal n collection) rows =
    All-weaker (Contains rows) (IsKept journal n collection) (λ x there. sym (ap printed_of (found-row (document_at journal n collection) rows have x there))) rows (All-contains_itself rows) in
    All-from_recursion (IsKept journal n collection) (window query rows)
    (window_all (IsKept journal n collection) query rows (recursion_from_All (IsKept journal n collection) rows each))

-- ---- the commit by which the result is known

-- the commit that is listed
listed : (at : ℕ) (tags : List ℕ) → list_any (λ t. t == at) tags ≡ true → Contains tags at
listed at [] h = absurd (cc)
listed at (t ∷ ts) h = elim (cases_Bool (t == at)) [
  | inl own ↦ (0, omega arith, eqb-true t at own)
  | inr other ↦ Contains-append_right (t ∷ []) ts at (listed at ts (rw other at h))
]

-- a commit that is listed itself is the greatest with its result
pub itself-greatest : (key : KeyShape) (journal : List Change) (horizon at : ℕ) (tags : List ℕ) → horizon ≤ at → list_any (λ t. t == at) tags ≡ true → IsGreatestSame key journal horizon at tags at
itself-greatest key journal horizon at tags kept there = record {
  listed = listed at tags there;
  kept = kept;
  within = omega arith;
  same = refl;
  greatest = λ t among above low same. low;
}

-- ---- commits that changed nothing

-- where no commit after one, up to another, changed the result, it is the same
pub unchanged-same : (key : KeyShape) (journal : List Change) (from to : ℕ) → from ≤ to → ((n : ℕ) → from < n → n ≤ to → is_changed key journal n ≡ false) → result_at key journal from ≡ result_at key journal to
unchanged-same key journal from zero within none = ap (result_at key journal) (let e : from ≡ zero = omega (arith, within) in e)
unchanged-same key journal from (suc to) within none =
    elim (cases_lt from (suc to)) [
      | inl below ↦ (
          let last : not (same_finding (result_at key journal (suc to)) (result_at key journal (suc to - 1))) ≡ false = none (suc to) below (omega arith) in
          let same : result_at key journal (suc to) ≡ result_at key journal (suc to - 1) = (same_finding-Decides (result_at key journal (suc to)) (result_at key journal (suc to - 1))).0 (not-false _ last) in
          unchanged-same key journal from to (omega (arith, below)) (λ n above low. none n above (omega (arith, low)))
          ∙ ap (result_at key journal) (let e : to ≡ suc to - 1 = omega arith in e)
          ∙ sym same)
      | inr past ↦ ap (result_at key journal) (let e : from ≡ suc to = omega (arith, past, within) in e)
    ]

-- a commit after one, up to another, is not listed where none is
not-listed : (from to n : ℕ) → from < n → n ≤ to → (commits : List ℕ) → list_any (is_after from to) commits ≡ false → list_any (λ m. m == n) commits ≡ false
not-listed from to n above within [] none = refl
not-listed from to n above within (m ∷ commits) none =
    let parts = or_parts (is_after from to m) (list_any (is_after from to) commits) none in
    elim (cases_Bool (m == n)) [
      | inl own ↦ absurd (
          let here : is_after from to n ≡ true = and_from _ _ (lt-ltb from n above) (le-leb n to within) in
          let there : is_after from to n ≡ false = ap (is_after from to) (sym (eqb-true m n own)) ∙ parts.0 in
          let e : true ≡ false = sym here ∙ there in
          cc)
      | inr other ↦ rw other (not-listed from to n above within commits parts.1)
    ]

-- a tag has the result where no listed commit comes after it
pub known-unchanged : (key : KeyShape) (journal : List Change) (horizon from at : ℕ) (changed : List ℕ) (tag : ℕ) → AreChangesOf key journal from at changed → horizon ≤ tag → from ≤ tag → tag ≤ at → list_any (is_after tag at) changed ≡ false → has_result_of key journal horizon at tag ≡ true
known-unchanged key journal horizon from at changed tag are kept since within none =
    and_from _ _ (le-leb horizon tag kept)
    (and_from _ _ (le-leb tag at within)
    ((same_finding-Decides (result_at key journal tag) (result_at key journal at)).1
    (unchanged-same key journal tag at within (λ n above low. sym (are n (omega (arith, above, since)) low) ∙ not-listed tag at n above low changed none))))

-- the book keeps the texts of the rows of a query's window
pub rows-kept : (journal : List Change) (n : ℕ) (query : AQuery) (rows : List Row) → HasDocuments (document_at journal n query.collection) (docs journal n query.collection) → rows ≡ window query (docs journal n query.collection) → AreKept journal n query.collection rows
rows-kept journal n query rows have is = subst (AreKept journal n query.collection) (sym is) (window-kept journal n query.collection query (docs journal n query.collection) have)
