-- The rows that satisfy a query follow a journal commit by commit.
use Rattle.std.proofs.Common.{◌≡◌, ◌⊎◌, ℕ, zero, suc, ◌+◌, ◌-◌, ◌<◌, ◌≤◌, leb, ltb, List, [], ◌∷◌, ◌++◌, length, take, Bool, true, false, not, ◌&&◌, inl, inr, Option, Some, None, option_map, slice_get, refl, sym, ap, ap₂, ◌∙◌, subst, arith, leb-true, leb-false, ltb-false, le-leb}
use Rattle.std.specs.List.{filter}
use Rattle.std.specs.Str.{bytes_eq}
use Rattle.std.specs.Cmp.{decided}
use Rattle.std.proofs.lemmas.Bool.{cases_Bool, and_parts}
use Rattle.std.proofs.lemmas.List.Elements.{filter-append}
use Rattle.std.proofs.lemmas.Option.{slice_get_within}
use Rattle.std.proofs.lemmas.Slice.Eq.{bytes_eq-Decides}
use Rattle.q_doc.specs.Tree.{Tree}
use Rattle.commit_book.specs.declared.change.Change.{Change}
use Rattle.commit_book.specs.declared.change.CommitRow.{CommitRow}
use Rattle.commit_book.specs.CommitRows.{commit_row}
use Rattle.commit_book.specs.Documents as documents
use Rattle.commit_book.specs.Documents.{docs, row_of, HasDocuments}
use Rattle.commit_book.specs.Journal.{put_at, document_after, document_at}
use Rattle.query_core.specs.declared.query.Query.{Query}
use Rattle.query_core.specs.declared.query.Verdict.{Verdict}
use Rattle.query_core.specs.Changes.{is_of, without, list_of, IsChange, placed_if, satisfying, passes_by}
use Rattle.query_core.specs.Meaning.{satisfies, satisfies_if}
use Rattle.query_core.specs.Window.{Row, rows_cmp, in_order, matches, window}
use Rattle.query_core.proofs.ChangeLemmas.{matches_changed}
use Rattle.query_core.proofs.Firsts.{in_order_same}
use Rattle.query_core.proofs.Rising.{filters_swap, filter-in_order, in_order_rises}
use Rattle.query_core.proofs.RowOrder.{rows_cmp_total}
use Rattle.match_sets.specs.Contents.{Contents, HasFirst, StandsFor, IsNext, IsToldBy, window_of, most_rows, rows_after, is_short}
use Rattle.match_sets.specs.declared.steps.MatchStep.{MatchStep}
use Rattle.match_sets.specs.Windows.{quiet}
use Rattle.match_sets.proofs.UndoLemmas.{quiet_told, quiet_rows}
use Rattle.std.proofs.lemmas.List.{take_all}
use Rattle.match_sets.specs.Follow.{verdict_on, Follows}
use Rattle.match_sets.specs.Rows.{new_row, others, HasOld, IsReady, AreApart}
use Rattle.match_sets.proofs.KeptLemmas.{kept_step, first_step, window_shown}
use Rattle.match_sets.proofs.Positions.{filter_none, none_there, only_there, not_true, Up, Above}

-- the two crates' lists of what is there are one
same_list : {X : Type 0} (x : Option X) → documents.list_of x ≡ list_of x
same_list None = refl
same_list (Some x) = refl

bytes_turn : (a b : List ℕ) → bytes_eq a b ≡ bytes_eq b a
bytes_turn = (decided bytes_eq bytes_eq-Decides).symm

-- ---- the rows of one id among those that satisfy

module _ (q : Query) (id : List ℕ) (rows : List Row) where
  abbrev own_matches : List Row
  own_matches = filter (is_of id) (matches q rows)

  own_are : own_matches ≡ in_order (rows_cmp q.order) (filter (λ row. satisfies q.filter row.2) (filter (is_of id) rows))
  own_are =
      filter-in_order (rows_cmp q.order) (rows_cmp_total q.order) (is_of id) (filter (λ row. satisfies q.filter row.2) rows)
      ∙ ap (in_order (rows_cmp q.order)) (filters_swap (is_of id) (λ row. satisfies q.filter row.2) rows)

  own_from : (found : Option (ℕ × Tree)) → filter (is_of id) rows ≡ documents.list_of (row_of id found)
      → own_matches ≡ in_order (rows_cmp q.order) (filter (λ row. satisfies q.filter row.2) (documents.list_of (row_of id found)))
  own_from found e = own_are ∙ ap (λ l. in_order (rows_cmp q.order) (filter (λ row. satisfies q.filter row.2) l)) e

  -- the only one of its id
  one_old : (found : Option (ℕ × Tree)) → filter (is_of id) rows ≡ documents.list_of (row_of id found) → HasOld id (option_map (λ d. d.1) found) (matches q rows)
  one_old None e = inl (own_from None e)
  one_old (Some d) e =
      elim (cases_Bool (satisfies q.filter d.1)) [
        | inl s ↦ (let one = own_from (Some d) e in inr (d.1, refl, (d.0, rw s at one)))
        | inr s ↦ (let one = own_from (Some d) e in inl (rw s at one))
      ]

  -- none, where its document did not satisfy
  no_old : (found : Option (ℕ × Tree)) → filter (is_of id) rows ≡ documents.list_of (row_of id found) → satisfies_if q.filter (option_map (λ d. d.1) found) ≡ false → own_matches ≡ []
  no_old None e s = own_from None e
  no_old (Some d) e s = (let one = own_from (Some d) e in rw s at one)

  -- whose version is that of its document
  own_version : (found : Option (ℕ × Tree)) → filter (is_of id) rows ≡ documents.list_of (row_of id found) → (k : ℕ) (x : Row) → slice_get (matches q rows) k ≡ Some x → is_of id x ≡ true
      → (d : ℕ × Tree) × (found ≡ Some d) × (x.1 ≡ d.0)
  own_version None e k x there own = absurd (none_there (is_of id) (matches q rows) k x (own_from None e) there own)
  own_version (Some d) e k x there own =
      elim (cases_Bool (satisfies q.filter d.1)) [
        | inl s ↦ (
            let one = own_from (Some d) e in
            let alone : own_matches ≡ (id, d.0, d.1) ∷ [] = rw s at one in
            (d, refl, ap (λ (r : Row). r.1) (only_there (is_of id) (matches q rows) k x (id, d.0, d.1) alone there own))
            )
        | inr s ↦ (
            let one = own_from (Some d) e in
            let none : own_matches ≡ [] = rw s at one in
            absurd (none_there (is_of id) (matches q rows) k x none there own)
            )
      ]

  -- no more than one
  few_own : (found : Option (ℕ × Tree)) → filter (is_of id) rows ≡ documents.list_of (row_of id found) → length own_matches ≤ 1
  few_own None e = (let n : length own_matches ≡ 0 = ap length (own_from None e) in omega (arith, n))
  few_own (Some d) e =
      elim (cases_Bool (satisfies q.filter d.1)) [
        | inl s ↦ (
            let one = own_from (Some d) e in
            let alone : own_matches ≡ (id, d.0, d.1) ∷ [] = rw s at one in
            let n : length own_matches ≡ 1 = ap length alone in
            omega (arith, n)
            )
        | inr s ↦ (
            let one = own_from (Some d) e in
            let none : own_matches ≡ [] = rw s at one in
            let n : length own_matches ≡ 0 = ap length none in
            omega (arith, n)
            )
      ]

-- no id is twice among the rows that satisfy
apart_of : (q : Query) (rows : List Row) (found : List ℕ → Option (ℕ × Tree)) → HasDocuments found rows → AreApart (matches q rows)
apart_of q rows found has id = few_own q id rows (found id) (has id)

-- a document is of no later commit
version_within : (journal : List Change) (n : ℕ) (collection id : List ℕ) (d : ℕ × Tree) → document_at journal n collection id ≡ Some d → d.0 ≤ n
version_within journal zero collection id d e = absurd (cc)
version_within journal (suc n) collection id d e = by (slice_get journal n) (λ f. version_within journal n collection id d f) e
  where
    put_version : (document : Option Tree) → put_at (suc n) document ≡ Some d → d.0 ≤ suc n
    put_version None f = absurd (cc)
    put_version (Some tree) f = (let same : (suc n, tree) ≡ d = cc in let v : suc n ≡ d.0 = ap (λ (p : ℕ × Tree). p.0) same in omega (arith, v))

    by : (change : Option Change) → (document_at journal n collection id ≡ Some d → d.0 ≤ n) → document_after collection id (suc n) change (document_at journal n collection id) ≡ Some d → d.0 ≤ suc n
    by None earlier f = (let low = earlier f in omega (arith, low))
    by (Some change) earlier f =
        elim (cases_Bool (bytes_eq change.id id && bytes_eq change.collection collection)) [
          | inl own ↦ put_version change.document (rw own at f)
          | inr other ↦ (let low = earlier (rw other at f) in omega (arith, low))
        ]

-- ---- one commit

-- the new row, where its document satisfies
satisfying_new : (q : Query) (row : CommitRow) → satisfying q (row_of row.id (put_at row.commit row.after)) ≡ new_row row (satisfies_if q.filter row.after)
satisfying_new q row = by row.after refl
  where
    by : (after : Option Tree) → row.after ≡ after → satisfying q (row_of row.id (put_at row.commit after)) ≡ new_row row (satisfies_if q.filter after)
    by None e = refl
    by (Some tree) e = elim (cases_Bool (satisfies q.filter tree)) [ inl s ↦ rw (s, e) refl | inr s ↦ rw s refl ]

module _ (holds : (journal : List Change) (n : ℕ) (collection : List ℕ) → HasDocuments (document_at journal n collection) (docs journal n collection)) (q : Query) (journal : List Change) (n : ℕ) (change : Change) (there : slice_get journal n ≡ Some change) where
  abbrev row : CommitRow
  row = commit_row journal (suc n) change

  abbrev old_rows : List Row
  old_rows = docs journal n q.collection

  abbrev new_rows : List Row
  new_rows = docs journal (suc n) q.collection

  abbrev found : List ℕ → Option (ℕ × Tree)
  found id = document_at journal n q.collection id

  -- what the journal has of an id one commit later
  found_after : (id : List ℕ) → document_at journal (suc n) q.collection id ≡ document_after q.collection id (suc n) (Some change) (found id)
  found_after id = ap (λ c. document_after q.collection id (suc n) c (found id)) there

  -- ---- of the query's collection

  module _ (own : bytes_eq change.collection q.collection ≡ true) where
    before_is : row.before ≡ option_map (λ d. d.1) (found change.id)
    before_is =
        let one : suc n - 1 ≡ n = omega arith in
        ap (λ (m : ℕ). option_map (λ (d : ℕ × Tree). d.1) (document_at journal m change.collection change.id)) one
        ∙ ap (λ (c : List ℕ). option_map (λ (d : ℕ × Tree). d.1) (document_at journal n c change.id)) ((bytes_eq-Decides change.collection q.collection).0 own)

    is_change : IsChange change.id (row_of change.id (put_at (suc n) change.document)) old_rows new_rows
    is_change = record {
      same = λ other apart.
          let away : bytes_eq change.id other ≡ false = bytes_turn change.id other ∙ apart in
          let stays : document_at journal (suc n) q.collection other ≡ found other = found_after other ∙ (rw away refl) in
          holds journal (suc n) q.collection other ∙ ap (λ d. documents.list_of (row_of other d)) stays ∙ sym (holds journal n q.collection other);
      own =
          let itself : bytes_eq change.id change.id ≡ true = (bytes_eq-Decides change.id change.id).1 refl in
          let put : document_at journal (suc n) q.collection change.id ≡ put_at (suc n) change.document = found_after change.id ∙ (rw (itself, own) refl) in
          holds journal (suc n) q.collection change.id ∙ ap (λ d. documents.list_of (row_of change.id d)) put ∙ same_list (row_of change.id (put_at (suc n) change.document));
    }

    changed : matches q new_rows ≡ placed_if (rows_cmp q.order) (without change.id (matches q old_rows)) (satisfying q (row_of change.id (put_at (suc n) change.document)))
    changed = matches_changed q old_rows new_rows change.id (row_of change.id (put_at (suc n) change.document)) is_change

    before_told : (verdict_on q row).before ≡ satisfies_if q.filter (option_map (λ d. d.1) (found change.id))
    before_told = ap (λ b. b && satisfies_if q.filter row.before) own ∙ ap (satisfies_if q.filter) before_is

    after_told : (verdict_on q row).after ≡ satisfies_if q.filter change.document
    after_told = ap (λ b. b && satisfies_if q.filter change.document) own

    none_old : (verdict_on q row).before ≡ false → filter (is_of change.id) (matches q old_rows) ≡ []
    none_old e = no_old q change.id old_rows (found change.id) (holds journal n q.collection change.id) (sym before_told ∙ e)

    others_are : (b : Bool) → (verdict_on q row).before ≡ b → without change.id (matches q old_rows) ≡ others b change.id (matches q old_rows)
    others_are true e = refl
    others_are false e = filter_none (is_of change.id) (matches q old_rows) (none_old e)

    follows_own : Follows q journal n row
    follows_own = record {
      rows =
          changed
          ∙ ap₂ (λ l r. placed_if (rows_cmp q.order) l r) (others_are (verdict_on q row).before refl) (satisfying_new q row ∙ ap (new_row row) (sym after_told));
      old = λ e. subst (λ (d : Option Tree). HasOld change.id d (matches q old_rows)) (sym before_is) (one_old q change.id old_rows (found change.id) (holds journal n q.collection change.id));
      none = λ e f. none_old e;
      absent = λ mine e. none_old e;
      older = λ mine k x there is.
          let (d, at, version) = own_version q change.id old_rows (found change.id) (holds journal n q.collection change.id) k x there is in
          let low = version_within journal n q.collection change.id d at in
          omega (arith, version, low);
      apart = apart_of q old_rows found (holds journal n q.collection);
      apart_after = apart_of q new_rows (document_at journal (suc n) q.collection) (holds journal (suc n) q.collection);
    }

  -- ---- of another collection

  follows_other : bytes_eq change.collection q.collection ≡ false → Follows q journal n row
  follows_other other =
      let before : (verdict_on q row).before ≡ false = ap (λ b. b && satisfies_if q.filter row.before) other in
      let after : (verdict_on q row).after ≡ false = ap (λ b. b && satisfies_if q.filter change.document) other in
      let stay : new_rows ≡ old_rows = ap (λ c. documents.docs_after q.collection (suc n) c old_rows) there ∙ (rw other refl) in
      record {
        rows = ap (matches q) stay ∙ sym (ap₂ (λ b a. placed_if (rows_cmp q.order) (others b change.id (matches q old_rows)) (new_row row a)) before after);
        old = λ e. absurd (cc);
        none = λ e f. absurd (cc);
        absent = λ mine e. absurd (cc);
        older = λ mine k x there is. absurd (cc);
        apart = apart_of q old_rows found (holds journal n q.collection);
        apart_after = apart_of q new_rows (document_at journal (suc n) q.collection) (holds journal (suc n) q.collection);
      }

  pub follows : Follows q journal n row
  follows = elim (cases_Bool (bytes_eq change.collection q.collection)) [ inl e ↦ follows_own e | inr e ↦ follows_other e ]

-- ---- commits that pass by

abbrev pub Following : Type 0
Following = (q : Query) (journal : List Change) (n : ℕ) (change : Change) → slice_get journal n ≡ Some change → Follows q journal n (commit_row journal (suc n) change)

item_at : {X : Type 0} (xs : List X) (k : ℕ) → k < length xs → (x : X) × (slice_get xs k ≡ Some x)
item_at [] k low = absurd (omega arith)
item_at (x ∷ xs) zero low = (x, refl)
item_at (x ∷ xs) (suc k) low = item_at xs k (omega arith)

-- one that passes by leaves the rows
pub passed : (following : Following) (q : Query) (journal : List Change) (n : ℕ) (change : Change) → slice_get journal n ≡ Some change
    → passes_by q change.collection (commit_row journal (suc n) change).before change.document ≡ true → matches q (docs journal (suc n) q.collection) ≡ matches q (docs journal n q.collection)
passed following q journal n change there by =
    let row = commit_row journal (suc n) change in
    let (b, a) = and_parts (not (verdict_on q row).before) (not (verdict_on q row).after) by in
    (following q journal n change there).rows
    ∙ ap₂ (λ x y. placed_if (rows_cmp q.order) (others x change.id (matches q (docs journal n q.collection))) (new_row row y)) (not_true (verdict_on q row).before b) (not_true (verdict_on q row).after a)

-- and so do several
pub skipped : (following : Following) (q : Query) (journal : List Change) (from to : ℕ) → from ≤ to → to ≤ length journal
    → ((n : ℕ) (other : Change) → from ≤ n → n < to → slice_get journal n ≡ Some other → passes_by q other.collection (commit_row journal (suc n) other).before other.document ≡ true)
    → matches q (docs journal to q.collection) ≡ matches q (docs journal from q.collection)
skipped following q journal from zero le within by = (let same : zero ≡ from = omega arith in ap (λ m. matches q (docs journal m q.collection)) same)
skipped following q journal from (suc to) le within by =
    elim (cases_Bool (leb from to)) [
      | inl e ↦
          let low = leb-true from to e in
          let (other, at) = item_at journal to (omega arith) in
          passed following q journal to other at (by to other low (omega arith) at) ∙ skipped following q journal from to low (omega arith) (λ n o f l a. by n o f (omega arith) a)
      | inr e ↦ (let high = leb-false from to e in let same : suc to ≡ from = omega arith in ap (λ m. matches q (docs journal m q.collection)) same)
    ]

-- ---- a set that stands for a journal, and its next row

pub empty_front : (xs ys : List Row) → xs ++ ys ≡ [] → xs ≡ []
empty_front [] ys e = refl
empty_front (x ∷ xs) ys e = absurd (cc)

front_of_one : (xs ys : List Row) (z : Row) → xs ++ ys ≡ z ∷ [] → (xs ≡ []) ⊎ (xs ≡ z ∷ [])
front_of_one [] ys z e = inl refl
front_of_one (x ∷ xs) ys z e =
    let head : x ≡ z = cc in
    let none : xs ≡ [] = empty_front xs ys (cc) in
    inr (ap₂ (λ a l. a ∷ l) head none)

-- what is old among all is old among the first
front_old : (id : List ℕ) (document : Option Tree) (front rest : List Row) → HasOld id document (front ++ rest) → HasOld id document front
front_old id document front rest (inl none) = inl (empty_front (filter (is_of id) front) (filter (is_of id) rest) (sym (filter-append (is_of id) front rest) ∙ none))
front_old id document front rest (inr (tree, is, (version, one))) =
    elim (front_of_one (filter (is_of id) front) (filter (is_of id) rest) (id, version, tree) (sym (filter-append (is_of id) front rest) ∙ one)) [
      | inl none ↦ inl none
      | inr own ↦ inr (tree, is, (version, own))
    ]

front_under : (order : List (List (List ℕ) × Bool)) (x : Row) (front rest : List Row) → Above order x (front ++ rest) → Above order x front
front_under order x [] rest u = tt
front_under order x (y ∷ front) rest u = (u.0, front_under order x front rest u.1)

front_rises : (order : List (List (List ℕ) × Bool)) (front rest : List Row) → Up order (front ++ rest) → Up order front
front_rises order [] rest r = tt
front_rises order (x ∷ front) rest r = (front_under order x front rest r.0, front_rises order front rest r.1)

matches_rise : (q : Query) (rows : List Row) → Up q.order (matches q rows)
matches_rise q rows = in_order_rises (rows_cmp q.order) (rows_cmp_total q.order) (filter (λ row. satisfies q.filter row.2) rows)

-- the new row of a commit is of its id, and there only where the verdict says so
pub new_own : (row : CommitRow) (after : Bool) (new : Row) → new_row row after ≡ Some new → (new.0 ≡ row.id) × (after ≡ true)
new_own row false new e = absurd (cc)
new_own row true new e = by row.after refl
  where
    by : (document : Option Tree) → row.after ≡ document → (new.0 ≡ row.id) × (true ≡ true)
    by None is = absurd (let f : new_row row true ≡ None = ap (option_map (λ (d : Tree). (row.id, row.commit, d))) is in cc)
    by (Some d) is = (let f : new_row row true ≡ Some (row.id, row.commit, d) = ap (option_map (λ (d : Tree). (row.id, row.commit, d))) is in let g : (row.id, row.commit, d) ≡ new = cc in (ap (λ (r : Row). r.0) (sym g), refl))

module _ (following : Following) (set : Contents) (journal : List Change) (row : CommitRow) (verdict : Verdict) (stands : StandsFor set journal) (next : IsNext set journal row verdict) where
  abbrev pub q : Query
  q = set.query

  -- the rows that satisfy before the commit
  abbrev pub all : List Row
  all = matches q (docs journal next.before q.collection)

  pub parts : all ≡ set.rows ++ stands.first.rest
  parts =
      skipped following q journal set.at next.before next.above (let inside = slice_get_within journal next.before next.change next.there in omega (arith, inside)) next.between
      ∙ stands.first.parts

  pub up : Up q.order (set.rows ++ stands.first.rest)
  up = subst (Up q.order) parts (matches_rise q (docs journal next.before q.collection))

  pub step_is : Follows q journal next.before row
  step_is = subst (Follows q journal next.before) (sym next.row_is) (following q journal next.before next.change next.there)

  pub told : verdict ≡ verdict_on q row
  told = next.verdict_is

  pub ready : IsReady q.order row verdict.before set.rows
  ready = record {
    in_order = in_order_same (rows_cmp q.order) (rows_cmp_total q.order) set.rows (front_rises q.order set.rows stands.first.rest up);
    old = λ e.
        front_old row.id row.before set.rows stands.first.rest
        (subst (HasOld row.id row.before) parts (step_is.old (sym (ap (λ (v : Verdict). v.before) told) ∙ e)));
  }

  pub all_after : matches q (docs journal (suc next.before) q.collection) ≡ placed_if (rows_cmp q.order) (others verdict.before row.id (set.rows ++ stands.first.rest)) (new_row row verdict.after)
  all_after =
      step_is.rows
      ∙ ap (λ (v : Verdict). placed_if (rows_cmp q.order) (others v.before row.id all) (new_row row v.after)) (sym told)
      ∙ ap (λ (l : List Row). placed_if (rows_cmp q.order) (others verdict.before row.id l) (new_row row verdict.after)) parts

  pub none_before : (new : Row) → new_row row verdict.after ≡ Some new → verdict.before ≡ false → filter (is_of row.id) (set.rows ++ stands.first.rest) ≡ []
  none_before new e b =
      let after : verdict.after ≡ true = (new_own row verdict.after new e).1 in
      subst (λ (l : List Row). filter (is_of row.id) l ≡ []) parts
      (step_is.none (sym (ap (λ (v : Verdict). v.before) told) ∙ b) (sym (ap (λ (v : Verdict). v.after) told) ∙ after))

  pub commit_is : row.commit ≡ suc next.before
  commit_is = ap (λ (r : CommitRow). r.commit) next.row_is

  enough : is_short set row verdict ≡ false → set.whole ≡ false → q.skip + q.take ≤ length (rows_after set row verdict)
  enough long part =
      let e : ltb (length (rows_after set row verdict)) (q.skip + q.take) ≡ false = sym (ap (λ w. not w && ltb (length (rows_after set row verdict)) (q.skip + q.take)) part) ∙ long in
      ltb-false (length (rows_after set row verdict)) (q.skip + q.take) e

  -- the set that a step leaves stands for the journal at its commit
  pub stands_after : (new : Contents) → is_short set row verdict ≡ false → new.query ≡ q → new.at ≡ row.commit → new.rows ≡ take (most_rows q) (rows_after set row verdict)
      → new.whole ≡ (set.whole && leb (length (rows_after set row verdict)) (most_rows q)) → StandsFor new journal
  stands_after new long query at rows whole =
      let inside = slice_get_within journal next.before next.change next.there in
      let here : new.at ≡ suc next.before = at ∙ commit_is in
      let kept =
      kept_step q.order row.id set.rows stands.first.rest up set.whole verdict.before (new_row row verdict.after) stands.first.whole
      (λ r e. (new_own row verdict.after r e).0) none_before in
      let first : HasFirst new (placed_if (rows_cmp q.order) (others verdict.before row.id (set.rows ++ stands.first.rest)) (new_row row verdict.after)) =
      first_step set new (placed_if (rows_cmp q.order) (others verdict.before row.id (set.rows ++ stands.first.rest)) (new_row row verdict.after)) (rows_after set row verdict) query rows whole kept (enough long) in
      record {
        within = omega (arith, inside, here);
        first =
            subst (HasFirst new)
            (sym all_after ∙ ap (λ (m : ℕ). matches q (docs journal m q.collection)) (sym here) ∙ ap (λ (p : Query). matches p (docs journal new.at p.collection)) (sym query))
            first;
      }

-- the window of a set that stands for a journal
pub window_there : (set : Contents) (journal : List Change) → StandsFor set journal → window_of set ≡ window set.query (docs journal set.at set.query.collection)
window_there set journal stands = window_shown set (matches set.query (docs journal set.at set.query.collection)) stands.first

pub window_at : (set : Contents) (journal : List Change) (q : Query) (commit : ℕ) → StandsFor set journal → set.query ≡ q → set.at ≡ commit → window_of set ≡ window q (docs journal commit q.collection)
window_at set journal q commit stands query at =
    window_there set journal stands
    ∙ ap (λ (p : Query). window p (docs journal set.at p.collection)) query
    ∙ ap (λ (m : ℕ). window q (docs journal m q.collection)) at

-- ---- a commit on which the verdict is (false, false)

pub quiet_step : (set new : Contents) (journal : List Change) (row : CommitRow) (verdict : Verdict) (step : MatchStep) → StandsFor set journal → verdict ≡ record { before = false; after = false }
    → (IsReady set.query.order row verdict.before set.rows → length set.rows ≤ most_rows set.query → new.rows ≡ take (most_rows set.query) (rows_after set row verdict))
    → (IsReady set.query.order row verdict.before set.rows → new.whole ≡ (set.whole && leb (length (rows_after set row verdict)) (most_rows set.query)))
    → (IsReady set.query.order row verdict.before set.rows → IsToldBy set row verdict new.rows step) → (step ≡ quiet) × (new.rows ≡ set.rows) × (new.whole ≡ set.whole)
quiet_step set new journal row verdict step stands is rows whole told = (
  quiet_told set row verdict new.rows step is (told ready_now),
  rows ready_now most ∙ ap (take (most_rows set.query)) same ∙ take_all (most_rows set.query) set.rows most,
  whole ready_now ∙ ap (λ (l : List Row). set.whole && leb (length l) (most_rows set.query)) same ∙ stays,
)
  where
    most : length set.rows ≤ most_rows set.query
    most = stands.first.most

    same : rows_after set row verdict ≡ set.rows
    same = quiet_rows set row verdict is

    ready_now : IsReady set.query.order row verdict.before set.rows
    ready_now = record {
      in_order =
          in_order_same (rows_cmp set.query.order) (rows_cmp_total set.query.order) set.rows
          (front_rises set.query.order set.rows stands.first.rest (subst (Up set.query.order) stands.first.parts (matches_rise set.query (docs journal set.at set.query.collection))));
      old = λ e. absurd (let off : verdict.before ≡ false = ap (λ (v : Verdict). v.before) is in cc);
    }

    and_true : (b : Bool) → (b && true) ≡ b
    and_true true = refl
    and_true false = refl

    stays : (set.whole && leb (length set.rows) (most_rows set.query)) ≡ set.whole
    stays = ap (λ b. set.whole && b) (le-leb (length set.rows) (most_rows set.query) most) ∙ and_true set.whole

-- ---- a set that is started

pub started_stands : (set : Contents) (q : Query) (rows : List Row) (journal : List Change) (at : ℕ) → set.at ≡ at → q ≡ set.query → at ≤ length journal → matches q rows ≡ matches q (docs journal at q.collection) → HasFirst set (matches q rows) → StandsFor set journal
started_stands set q rows journal at at_is query within matches_are first = record {
  within = subst (λ (n : ℕ). n ≤ length journal) (sym at_is) within;
  first =
      subst (HasFirst set)
      (matches_are ∙ ap (λ (p : Query). matches p (docs journal at p.collection)) query ∙ ap (λ (n : ℕ). matches set.query (docs journal n set.query.collection)) (sym at_is)) first;
}
