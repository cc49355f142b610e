-- Documents in any order, windows of later commits, sets that stand for longer journals, and which results a step changes.
use Rattle.std.proofs.Common.{◌≡◌, ◌≢◌, ℕ, suc, ◌+◌, ◌≤◌, Bool, true, false, not, ◌&&◌, List, ◌++◌, length, length-append, take, drop, filter, Option, inl, inr, refl, sym, ap, subst, ◌∙◌, arith}
use Rattle.std.specs.Bool.{Decides}
use Rattle.std.specs.List.{Contains}
use Rattle.std.specs.Str.{bytes_eq}
use Rattle.std.specs.Cmp.{decided}
use Rattle.std.proofs.lemmas.Bool.{cases_Bool}
use Rattle.std.proofs.lemmas.List.Elements.{recursion_from_All, All-from_recursion, All-contains_itself, All-contains}
use Rattle.std.proofs.lemmas.Option.{slice_get_within}
use Rattle.std.proofs.lemmas.Slice.Eq.{bytes_eq-Decides}
use Rattle.q_doc.specs.Tree.{Tree}
use Rattle.commit_book.specs.declared.change.Change.{Change}
use Rattle.commit_book.specs.declared.change.CommitRow.{CommitRow}
use Rattle.commit_book.specs.CommitRows.{commit_row}
use Rattle.commit_book.specs.Documents.{docs, is_row_of, HasDocuments}
use Rattle.query_core.specs.declared.query.Kind.{Kind}
use Rattle.query_core.specs.declared.query.Kind.TheVariants.{Objects, Ids}
use Rattle.query_core.specs.declared.query.Query.{Query}
use Rattle.query_core.specs.declared.query.Verdict.{Verdict}
use Rattle.query_core.specs.Changes.{passes_by}
use Rattle.query_core.specs.Meaning.{satisfies_if}
use Rattle.query_core.specs.Window.{Row, matches, window}
use Rattle.query_core.proofs.WindowLemmas.{matches_alike, window_all}
use Rattle.result_kinds.specs.Results.{objects, ids, ids_of, result_of}
use Rattle.result_kinds.specs.Same.{same_result, AreOfOneStore}
use Rattle.match_sets.specs.declared.steps.MatchStep.{MatchStep}
use Rattle.match_sets.specs.Contents.{Contents, HasFirst, StandsFor, IsNext, IsSame, window_of, most_rows}
use Rattle.match_sets.specs.Follow.{ArePassing}
use Rattle.match_sets.specs.Told.{step_in, place_where}
use Rattle.match_sets.specs.Windows.{IsStepBetween, ShowsChange, has_changed, quiet}
use Rattle.match_sets.proofs.Journals.{Following, passed, skipped, window_there}

-- ---- the documents in any order

same_test : (id : List ℕ) → ◌≡◌ {A = Row → Bool} (λ row. bytes_eq id row.0) (is_row_of id)
same_test id i row = (decided bytes_eq bytes_eq-Decides).symm id row.0 i

pub any_order : (found : List ℕ → Option (ℕ × Tree)) (q : Query) (rows others : List Row) → HasDocuments found rows → HasDocuments found others → matches q rows ≡ matches q others
any_order found q rows others have own =
    matches_alike q rows others
    (λ id.
    ap (λ (test : Row → Bool). filter test rows) (same_test id)
    ∙ have id
    ∙ sym (own id)
    ∙ sym (ap (λ (test : Row → Bool). filter test others) (same_test id)))

-- ---- windows of later commits

pub same_window : (q : Query) (rows others : List Row) → matches q rows ≡ matches q others → window q rows ≡ window q others
same_window q rows others same = ap (λ (l : List Row). take q.take (drop q.skip l)) same

pub window_later : (following : Following) (set : Contents) (journal : List Change) (n : ℕ) → StandsFor set journal → set.at ≤ n → n ≤ length journal → ArePassing set.query journal set.at n
    → window_of set ≡ window set.query (docs journal n set.query.collection)
window_later following set journal n stands from within passing =
    window_there set journal stands
    ∙ sym (same_window set.query (docs journal n set.query.collection) (docs journal set.at set.query.collection) (skipped following set.query journal set.at n from within passing))

-- ---- sets that stand for a journal

pub stands_longer : ((journal more : List Change) (n : ℕ) (collection : List ℕ) → n ≤ length journal → docs (journal ++ more) n collection ≡ docs journal n collection)
    → (set : Contents) (journal more : List Change) → StandsFor set journal → StandsFor set (journal ++ more)
stands_longer stay set journal more stands = record {
  within = (let size = length-append journal more in let low = stands.within in omega (arith, size, low));
  first = subst (λ (d : List Row). HasFirst set (matches set.query d)) (sym (stay journal more set.at set.query.collection stands.within)) stands.first;
}

pub stands_same : (before after : Contents) (journal : List Change) → IsSame before after → StandsFor before journal → StandsFor after journal
stands_same before after journal is stands = record {
  within = subst (λ (n : ℕ). n ≤ length journal) (sym is.at) stands.within;
  first = record {
    rest = stands.first.rest;
    parts = matches_are ∙ stands.first.parts ∙ ap (λ (l : List Row). l ++ stands.first.rest) (sym is.rows);
    whole = λ w. stands.first.whole (sym is.whole ∙ w);
    window = λ part.
        subst (λ (q : Query). q.skip + q.take ≤ length after.rows) (sym is.query)
        (subst (λ (l : List Row). before.query.skip + before.query.take ≤ length l) (sym is.rows) (stands.first.window (sym is.whole ∙ part)));
    most =
        subst (λ (q : Query). length after.rows ≤ most_rows q) (sym is.query)
        (subst (λ (l : List Row). length l ≤ most_rows before.query) (sym is.rows) stands.first.most);
  };
}
  where
    matches_are : matches after.query (docs journal after.at after.query.collection) ≡ matches before.query (docs journal before.at before.query.collection)
    matches_are =
        ap (λ (q : Query). matches q (docs journal after.at q.collection)) is.query
        ∙ ap (λ (n : ℕ). matches before.query (docs journal n before.query.collection)) is.at

-- ---- which results a step changes

-- rows of one version of a collection are one row, and results are told by versions
abbrev pub Versions : Type 0
Versions = (journal : List Change) (n m : ℕ) (collection : List ℕ) (x y : Row) → Contains (docs journal n collection) x → Contains (docs journal m collection) y → x.1 ≡ y.1 → x ≡ y

abbrev pub ResultsTold : Type 0
ResultsTold = (kind : Kind) (a b : List Row) → AreOfOneStore a b → Decides (same_result kind a b) (result_of kind a ≡ result_of kind b)

contains_window : (q : Query) (rows : List Row) (x : Row) → Contains (window q rows) x → Contains rows x
contains_window q rows x there =
    All-contains (Contains rows) (window q rows) x
    (All-from_recursion (Contains rows) (window q rows) (window_all (Contains rows) q rows (recursion_from_All (Contains rows) rows (All-contains_itself rows))))
    there

one_store : (versions : Versions) (q : Query) (journal : List Change) (n m : ℕ) → AreOfOneStore (window q (docs journal n q.collection)) (window q (docs journal m q.collection))
one_store versions q journal n m = λ x y in_x in_y same_id same_version.
    versions journal n m q.collection x y (contains_window q (docs journal n q.collection) x in_x) (contains_window q (docs journal m q.collection) y in_y) same_version

opposite : (R : Type 0) (b s : Bool) → Decides b (R → ⊥) → Decides s R → b ≡ not s
opposite R true true differs agrees = absurd (differs.0 refl (agrees.0 refl))
opposite R true false differs agrees = refl
opposite R false true differs agrees = refl
opposite R false false differs agrees = differs.1 (λ r. absurd (let e = agrees.1 r in cc))

differ : (written : List ℕ) (old new : List Row) (step : MatchStep) → IsStepBetween written old new step → (kind : Kind) → Decides (has_changed kind step) (result_of kind old ≢ result_of kind new)
differ written old new step between Objects = (
  λ told e. between.objects_changed.0 told (let same : old ≡ new = cc in same),
  λ apart. between.objects_changed.1 (λ e. apart (ap objects e)),
)
differ written old new step between Ids = (
  λ told e. between.ids_changed.0 told (let same : ids_of old ≡ ids_of new = cc in same),
  λ apart. between.ids_changed.1 (λ e. apart (ap ids e)),
)

no_difference : (old new : List Row) (step : MatchStep) → step ≡ quiet → new ≡ old → (kind : Kind) → Decides (has_changed kind step) (result_of kind old ≢ result_of kind new)
no_difference old new step is same kind = (
  λ told. absurd (let off : has_changed kind step ≡ false = ap (has_changed kind) is ∙ none kind in cc),
  λ apart. absurd (apart (ap (result_of kind) (sym same))),
)
  where
    none : (kind : Kind) → has_changed kind quiet ≡ false
    none Objects = refl
    none Ids = refl

-- a renewal whose verdict is (false, false) tells nothing
pub quiet_renewal : (q : Query) (id : List ℕ) (old new : List Row) (verdict : Verdict) (step : MatchStep) → verdict ≡ record { before = false; after = false }
    → step ≡ step_in q new (place_where verdict.before id old) (place_where verdict.after id new) → step ≡ quiet
quiet_renewal q id old new verdict step is told = told ∙ ap (λ (v : Verdict). step_in q new (place_where v.before id old) (place_where v.after id new)) is

-- the next row is one of the journal
pub next_within : (set : Contents) (journal : List Change) (row : CommitRow) (verdict : Verdict) → IsNext set journal row verdict → row.commit ≤ length journal
next_within set journal row verdict next =
    let at : row.commit ≡ suc next.before = ap (λ (r : CommitRow). r.commit) next.row_is in
    let inside = slice_get_within journal next.before next.change next.there in
    omega (arith, at, inside)

module _ (following : Following) (versions : Versions) (results : ResultsTold) (set : Contents) (journal : List Change) (row : CommitRow) (verdict : Verdict) (stands : StandsFor set journal) (next : IsNext set journal row verdict) where
  abbrev q : Query
  q = set.query

  -- of another collection nothing satisfies
  abbrev verdict_where : Bool → Verdict
  verdict_where own = record { before = own && satisfies_if q.filter row.before; after = own && satisfies_if q.filter row.after }

  verdict_other : bytes_eq row.collection q.collection ≡ false → verdict ≡ record { before = false; after = false }
  verdict_other other = next.verdict_is ∙ ap verdict_where other

  passes_other : bytes_eq row.collection q.collection ≡ false → passes_by q next.change.collection (commit_row journal (suc next.before) next.change).before next.change.document ≡ true
  passes_other other =
      let away : bytes_eq next.change.collection q.collection ≡ false = ap (λ (r : CommitRow). bytes_eq r.collection q.collection) (sym next.row_is) ∙ other in
      ap (λ (own : Bool). not (own && satisfies_if q.filter (commit_row journal (suc next.before) next.change).before) && not (own && satisfies_if q.filter next.change.document)) away

  pub change_shown : (new : Contents) (step : MatchStep) → window_of new ≡ window q (docs journal row.commit q.collection) → (row.collection ≡ q.collection → IsStepBetween row.id (window_of set) (window_of new) step)
      → (verdict ≡ record { before = false; after = false } → step ≡ quiet) → (kind : Kind) → ShowsChange kind (window_of set) (window_of new) step
  change_shown new step shown own other kind = record {
    same = opposite (result_of kind (window_of set) ≡ result_of kind (window_of new)) (has_changed kind step) (same_result kind (window_of set) (window_of new)) decides (results kind (window_of set) (window_of new) store);
    results = decides;
  }
    where
      -- where the row is of another collection the window stays
      stays : bytes_eq row.collection q.collection ≡ false → window_of new ≡ window_of set
      stays away =
          let inside = slice_get_within journal next.before next.change next.there in
          shown
          ∙ ap (λ (n : ℕ). window q (docs journal n q.collection)) (ap (λ (r : CommitRow). r.commit) next.row_is)
          ∙ same_window q (docs journal (suc next.before) q.collection) (docs journal next.before q.collection) (passed following q journal next.before next.change next.there (passes_other away))
          ∙ sym (window_later following set journal next.before stands next.above (omega (arith, inside)) next.between)

      decides : Decides (has_changed kind step) (result_of kind (window_of set) ≢ result_of kind (window_of new))
      decides = elim (cases_Bool (bytes_eq row.collection q.collection)) [
        | inl e ↦ differ row.id (window_of set) (window_of new) step (own ((bytes_eq-Decides row.collection q.collection).0 e)) kind
        | inr e ↦ no_difference (window_of set) (window_of new) step (other (verdict_other e)) (stays e) kind
      ]

      store : AreOfOneStore (window_of set) (window_of new)
      store =
          subst (λ (l : List Row). AreOfOneStore l (window_of new)) (sym (window_there set journal stands))
          (subst (λ (l : List Row). AreOfOneStore (window q (docs journal set.at q.collection)) l) (sym shown) (one_store versions q journal set.at row.commit))
