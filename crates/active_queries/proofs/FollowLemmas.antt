-- How an active query follows the journal, one commit at a time.
use Rattle.std.proofs.Common.{◌≡◌, ◌≢◌, ℕ, zero, suc, ◌-◌, ◌<◌, ◌≤◌, ◌==◌, nat_lt, Bool, true, false, not, ◌&&◌, ◌||◌, if◌then◌else◌, List, [], ◌∷◌, ◌++◌, length, slice_get, filter, All, Option, Some, option_map, inl, inr, refl, sym, ap, ap₂, ◌∙◌, subst, arith, length-append}
use Rattle.std.specs.Bool.{Decides}
use Rattle.std.specs.List.{list_any}
use Rattle.std.proofs.lemmas.Bool.{cases_Bool, cases_lt, ne_eqb, eq-eqb, ltb-false}
use Rattle.std.proofs.lemmas.List.Elements.{All-filter, All-weaker, All-append}
use Rattle.std.proofs.lemmas.List.Folds.{list_any-append, list_any_none}
use Rattle.std.proofs.lemmas.Option.{slice_get_within}
use Rattle.q_doc.specs.Tree.{Tree}
use Rattle.commit_book.specs.declared.change.Change.{Change}
use Rattle.commit_book.specs.declared.change.CommitRow.{CommitRow}
use Rattle.commit_book.specs.CommitRows.{commit_row}
use Rattle.commit_book.specs.Documents.{docs}
use Rattle.commit_book.specs.Journal.{document_at}
use Rattle.query_core.specs.declared.query.Kind.{Kind}
use Rattle.query_core.specs.declared.query.Query.{Query}
use Rattle.query_core.specs.declared.query.Verdict.{Verdict}
use Rattle.query_core.specs.Changes.{passes_by}
use Rattle.query_core.specs.Window.{Row, window}
use Rattle.query_normal.specs.declared.key.KeyShape.{KeyShape}
use Rattle.query_normal.specs.declared.key.KeyShape.TheVariants.{Query as QueryKey}
use Rattle.result_kinds.specs.Results.{QueryResult, ids, result_of}
use Rattle.match_sets.specs.Contents.{Contents, StandsFor, IsNext, window_of}
use Rattle.match_sets.specs.Follow.{ArePassing, verdict_on}
use Rattle.hub_model.specs.Journal.{Finding, absent, present, queried, result_at, same_finding}
use Rattle.hub_model.specs.Outdated.{is_changed}
use Rattle.active_queries.specs.Following.{Following, Follows, FollowsKey, AreFollowing, AreAbove, forgotten, IsRowAfter}

-- ---- lists of commits

-- a commit above all that are listed is not listed
above-absent : (n seen : ℕ) (ns : List ℕ) → All (λ m. m ≤ seen) ns → seen < n → list_any (λ m. m == n) ns ≡ false
above-absent n seen ns low above =
    list_any_none (λ m. m == n) ns
    (All-weaker (λ m. m ≤ seen) (λ m. (m == n) ≡ false) (λ m below. ne_eqb m n (λ same. omega (arith, same, below, above))) ns low)

-- a commit above those that are forgotten is listed as before
kept-listed : (to n : ℕ) (ns : List ℕ) → to < n → list_any (λ m. m == n) (filter (λ m. nat_lt to m) ns) ≡ list_any (λ m. m == n) ns
kept-listed to n [] above = refl
kept-listed to n (m ∷ ns) above = elim (cases_Bool (nat_lt to m)) [
  | inl stays ↦ rw stays (ap (λ (b : Bool). (m == n) || b) (kept-listed to n ns above))
  | inr goes ↦
      let low = ltb-false to m goes in
      let other : (m == n) ≡ false = ne_eqb m n (λ same. omega (arith, same, low, above)) in
      rw (goes, other) (kept-listed to n ns above)
]

-- the list with a commit, where it changed the result
abbrev pub noted : Bool → List ℕ → ℕ → List ℕ
noted shows changed commit = if shows then changed ++ commit ∷ [] else changed

noted-before : (shows : Bool) (changed : List ℕ) (n commit : ℕ) → n < commit → list_any (λ m. m == n) (noted shows changed commit) ≡ list_any (λ m. m == n) changed
noted-before false changed n commit low = refl
noted-before true changed n commit low =
    let other : (commit == n) ≡ false = ne_eqb commit n (λ same. omega (arith, same, low)) in
    list_any-append (λ m. m == n) changed (commit ∷ []) ∙ rw other (or_false (list_any (λ m. m == n) changed))
  where
    or_false : (b : Bool) → (b || false) ≡ b
    or_false true = refl
    or_false false = refl

noted-here : (shows : Bool) (changed : List ℕ) (seen : ℕ) → All (λ m. m ≤ seen) changed → list_any (λ m. m == suc seen) (noted shows changed (suc seen)) ≡ shows
noted-here false changed seen low = above-absent (suc seen) seen changed low (omega arith)
noted-here true changed seen low =
    let own : (suc seen == suc seen) ≡ true = eq-eqb (suc seen) (suc seen) refl in
    list_any-append (λ m. m == suc seen) changed (suc seen ∷ []) ∙ rw own (or_true (list_any (λ m. m == suc seen) changed))
  where
    or_true : (b : Bool) → (b || true) ≡ true
    or_true true = refl
    or_true false = refl

low-more : (changed : List ℕ) (seen : ℕ) → All (λ m. m ≤ seen) changed → All (λ m. m ≤ suc seen) changed
low-more changed seen low = All-weaker (λ m. m ≤ seen) (λ m. m ≤ suc seen) (λ m below. omega (arith, below)) changed low

noted-low : (shows : Bool) (changed : List ℕ) (seen : ℕ) → All (λ m. m ≤ seen) changed → All (λ m. m ≤ suc seen) (noted shows changed (suc seen))
noted-low false changed seen low = low-more changed seen low
noted-low true changed seen low =
    All-append (λ m. m ≤ suc seen) changed (suc seen ∷ []) (low-more changed seen low) one
  where
    one : All (λ m. m ≤ suc seen) (suc seen ∷ [])
    one zero d within = omega arith
    one (suc k) d within = absurd (omega (arith, within))

-- a commit that is noted is above those that were seen
pub noted-above : (shows : Bool) (changed : List ℕ) (n seen commit : ℕ) → n ≤ seen → commit ≡ suc seen → AreAbove n changed → AreAbove n (noted shows changed commit)
noted-above false changed n seen commit low next above = above
noted-above true changed n seen commit low next above = All-append (λ m. n < m) changed (commit ∷ []) above one
  where
    one : All (λ m. n < m) (commit ∷ [])
    one zero d within = omega (arith, low, next)
    one (suc k) d within = absurd (omega (arith, within))

-- ---- whether a commit changes the result

abbrev pub AreTested : Type 0
AreTested = (a b : Finding) → Decides (same_finding a b) (a ≡ b)

one-back : (n : ℕ) → suc n - 1 ≡ n
one-back n = omega arith

abbrev result_in : Finding → QueryResult
result_in absent = ids []
result_in (present version tree) = ids []
result_in (queried result) = result

-- the step tells what the commit does
told : AreTested → (kind : Kind) (query : Query) (journal : List Change) (n : ℕ) (old new : List Row) (shows : Bool) → old ≡ window query (docs journal n query.collection) → new ≡ window query (docs journal (suc n) query.collection)
    → Decides shows (result_of kind old ≢ result_of kind new) → shows ≡ is_changed (QueryKey kind query) journal (suc n)
told tested kind query journal n old new shows old_is new_is decides =
    let key = QueryKey kind query in
    let was : result_at key journal (suc n - 1) ≡ queried (result_of kind old) = ap (result_at key journal) (one-back n) ∙ ap (λ (w : List Row). queried (result_of kind w)) (sym old_is) in
    let is : result_at key journal (suc n) ≡ queried (result_of kind new) = ap (λ (w : List Row). queried (result_of kind w)) (sym new_is) in
    by shows (same_finding (result_at key journal (suc n)) (result_at key journal (suc n - 1))) decides
    (λ same. ap result_in (sym was ∙ sym ((tested (result_at key journal (suc n)) (result_at key journal (suc n - 1))).0 same) ∙ is))
    (λ same. (tested (result_at key journal (suc n)) (result_at key journal (suc n - 1))).1 (is ∙ ap queried (sym same) ∙ sym was))
  where
    by : (shows same : Bool) → Decides shows (result_of kind old ≢ result_of kind new) → (same ≡ true → result_of kind old ≡ result_of kind new) → (result_of kind old ≡ result_of kind new → same ≡ true) → shows ≡ not same
    by true false decides to from = refl
    by true true decides to from = absurd (decides.0 refl (to refl))
    by false true decides to from = refl
    by false false decides to from = decides.1 (λ e. no_false (from e))
      where
        no_false : false ≡ true → ⊥
        no_false e = let h = e in cc

-- a window that stays tells nothing
stays : AreTested → (kind : Kind) (query : Query) (journal : List Change) (n : ℕ) → window query (docs journal (suc n) query.collection) ≡ window query (docs journal n query.collection) → false ≡ is_changed (QueryKey kind query) journal (suc n)
stays tested kind query journal n same =
    let key = QueryKey kind query in
    let equal : result_at key journal (suc n) ≡ result_at key journal (suc n - 1) = ap (λ (w : List Row). queried (result_of kind w)) same ∙ ap (result_at key journal) (sym (one-back n)) in
    sym (ap not ((tested (result_at key journal (suc n)) (result_at key journal (suc n - 1))).1 equal))

-- ---- one commit

-- the query with another set, having seen one commit more
abbrev pub stepped : Following → Contents → Bool → ℕ → Following
stepped a set shows commit = record { kind = a.kind; set = set; seen = commit; from = a.from; changed = noted shows a.changed commit }

-- of the commits up to the next, exactly those are listed that changed the result
exact-more : (key : KeyShape) (journal : List Change) (from seen : ℕ) (changed : List ℕ) (shows : Bool) → All (λ m. m ≤ seen) changed → shows ≡ is_changed key journal (suc seen)
    → ((n : ℕ) → from < n → n ≤ seen → list_any (λ m. m == n) changed ≡ is_changed key journal n)
    → (n : ℕ) → from < n → n ≤ suc seen → list_any (λ m. m == n) (noted shows changed (suc seen)) ≡ is_changed key journal n
exact-more key journal from seen changed shows low tells exact n above within = elim (cases_lt n (suc seen)) [
  | inl below ↦ noted-before shows changed n (suc seen) below ∙ exact n above (omega (arith, below))
  | inr least ↦
      let last : n ≡ suc seen = omega (arith, least, within) in
      subst (λ (m : ℕ). list_any (λ k. k == m) (noted shows changed (suc seen)) ≡ is_changed key journal m) (sym last) (noted-here shows changed seen low ∙ tells)
]

-- the commits that passed by, and one more
passing-more : (query : Query) (journal : List Change) (from n : ℕ) (change : Change) → slice_get journal n ≡ Some change → passes_by query change.collection (commit_row journal (suc n) change).before change.document ≡ true
    → ArePassing query journal from n → ArePassing query journal from (suc n)
passing-more query journal from n change there passes before k other above below at = elim (cases_lt k n) [
  | inl low ↦ before k other above low at
  | inr high ↦
      let last : k ≡ n = omega (arith, high, below) in
      let one : Some change ≡ Some other = sym there ∙ sym (ap (slice_get journal) last) ∙ at in
      let same : change ≡ other = (let h = one in cc) in
      subst (λ (m : ℕ). passes_by query other.collection (commit_row journal (suc m) other).before other.document ≡ true) (sym last)
      (subst (λ (c : Change). passes_by query c.collection (commit_row journal (suc n) c).before c.document ≡ true) same passes)
]

neither : (a b : Bool) → (a || b) ≡ false → (not a && not b) ≡ true
neither false false e = refl
neither true b e = absurd (let h = e in cc)
neither false true e = absurd (let h = e in cc)

-- a row whose verdict is neither passes by
row-passes : (query : Query) (journal : List Change) (n : ℕ) (row : CommitRow) (change : Change) (verdict : Verdict) → row ≡ commit_row journal (suc n) change → verdict ≡ verdict_on query row → (verdict.before || verdict.after) ≡ false
    → passes_by query change.collection (commit_row journal (suc n) change).before change.document ≡ true
row-passes query journal n row change verdict row_is verdict_is none =
    let on : verdict ≡ verdict_on query (commit_row journal (suc n) change) = verdict_is ∙ ap (verdict_on query) row_is in
    neither (verdict_on query (commit_row journal (suc n) change)).before (verdict_on query (commit_row journal (suc n) change)).after
    (sym (ap (λ (v : Verdict). v.before || v.after) on) ∙ none)

-- a commit that passes by is seen
pub seen-passing : AreTested
    → ((q : Query) (journal : List Change) (n : ℕ) (change : Change) → slice_get journal n ≡ Some change → passes_by q change.collection (commit_row journal (suc n) change).before change.document ≡ true
    → window q (docs journal (suc n) q.collection) ≡ window q (docs journal n q.collection))
    → (a : Following) (journal : List Change) (row : CommitRow) (verdict : Verdict) → IsRowAfter journal a.seen row → verdict ≡ verdict_on a.set.query row → (verdict.before || verdict.after) ≡ false
    → (kind : Kind) (query : Query) → Follows kind query a journal → Follows kind query (stepped a a.set false row.commit) journal
seen-passing tested passed a journal row verdict next verdict_is none kind query follows =
    let change = next.0 in
    let there = next.1 in
    let row_is = next.2 in
    let number : row.commit ≡ suc a.seen = ap (λ (r : CommitRow). r.commit) row_is in
    let inside = slice_get_within journal a.seen change there in
    let forward = follows.forward in
    let begun = follows.begun in
    let passes = row-passes a.set.query journal a.seen row change verdict row_is verdict_is none in
    let same = passed a.set.query journal a.seen change there passes in
    let tells : false ≡ is_changed (QueryKey kind query) journal (suc a.seen) = subst (λ (q : Query). false ≡ is_changed (QueryKey kind q) journal (suc a.seen)) follows.query_is (stays tested kind a.set.query journal a.seen same) in
    subst (λ (n : ℕ). Follows kind query (stepped a a.set false n) journal) (sym number) (record {
      kind_is = follows.kind_is;
      query_is = follows.query_is;
      stands = follows.stands;
      forward = omega (arith, forward);
      within = omega (arith, inside);
      begun = omega (arith, begun);
      passed = passing-more a.set.query journal a.set.at a.seen change there passes follows.passed;
      listed = noted-low false a.changed a.seen follows.listed;
      exact = exact-more (QueryKey kind query) journal a.from a.seen a.changed false follows.listed tells follows.exact;
    })

-- the next commit is the set's next
pub is-next : (kind : Kind) (query : Query) (a : Following) (journal : List Change) (row : CommitRow) (verdict : Verdict) → Follows kind query a journal → IsRowAfter journal a.seen row → verdict ≡ verdict_on a.set.query row → IsNext a.set journal row verdict
is-next kind query a journal row verdict follows next verdict_is = record {
  before = a.seen;
  change = next.0;
  there = next.1;
  row_is = next.2;
  above = follows.forward;
  between = follows.passed;
  verdict_is = verdict_is;
}

-- a commit that does not pass by is seen with a step
pub seen-stepping : AreTested
    → ((set : Contents) (journal : List Change) (n : ℕ) → StandsFor set journal → set.at ≤ n → n ≤ length journal → ArePassing set.query journal set.at n
    → window_of set ≡ window set.query (docs journal n set.query.collection))
    → (a : Following) (set : Contents) (journal : List Change) (row : CommitRow) (shows : Bool) → IsRowAfter journal a.seen row → StandsFor set journal → set.at ≡ row.commit → set.query ≡ a.set.query
    → Decides shows (result_of a.kind (window_of a.set) ≢ result_of a.kind (window_of set))
    → (kind : Kind) (query : Query) → Follows kind query a journal → Follows kind query (stepped a set shows row.commit) journal
seen-stepping tested shown a set journal row shows next stands at same_query decides kind query follows =
    let change = next.0 in
    let there = next.1 in
    let number : row.commit ≡ suc a.seen = ap (λ (r : CommitRow). r.commit) next.2 in
    let inside = slice_get_within journal a.seen change there in
    let begun = follows.begun in
    let at_is : set.at ≡ suc a.seen = at ∙ number in
    let query_is : set.query ≡ query = same_query ∙ follows.query_is in
    let old_is : window_of a.set ≡ window query (docs journal a.seen query.collection) =
    subst (λ (q : Query). window_of a.set ≡ window q (docs journal a.seen q.collection)) follows.query_is (shown a.set journal a.seen follows.stands follows.forward follows.within follows.passed) in
    let none : ArePassing set.query journal set.at (suc a.seen) = (λ k other above below there. absurd (omega (arith, above, below, at_is))) in
    let new_is : window_of set ≡ window query (docs journal (suc a.seen) query.collection) =
    subst (λ (q : Query). window_of set ≡ window q (docs journal (suc a.seen) q.collection)) query_is (shown set journal (suc a.seen) stands (omega (arith, at_is)) (omega (arith, inside)) none) in
    let tells : shows ≡ is_changed (QueryKey kind query) journal (suc a.seen) =
    told tested kind query journal a.seen (window_of a.set) (window_of set) shows old_is new_is (subst (λ (k : Kind). Decides shows (result_of k (window_of a.set) ≢ result_of k (window_of set))) follows.kind_is decides) in
    subst (λ (n : ℕ). Follows kind query (stepped a set shows n) journal) (sym number) (record {
      kind_is = follows.kind_is;
      query_is = query_is;
      stands = stands;
      forward = omega (arith, at_is);
      within = omega (arith, inside);
      begun = omega (arith, begun);
      passed = none;
      listed = noted-low shows a.changed a.seen follows.listed;
      exact = exact-more (QueryKey kind query) journal a.from a.seen a.changed shows follows.listed tells follows.exact;
    })

-- ---- changed commits that are forgotten

pub follows-forgotten : (kind : Kind) (query : Query) (a : Following) (journal : List Change) (to : ℕ) → to ≤ a.seen → Follows kind query a journal → Follows kind query (forgotten to a) journal
follows-forgotten kind query a journal to low follows =
    let begun = follows.begun in record {
      kind_is = follows.kind_is;
      query_is = follows.query_is;
      stands = follows.stands;
      forward = follows.forward;
      within = follows.within;
      begun = omega (arith, begun, low);
      passed = follows.passed;
      listed = All-filter (λ n. nat_lt to n) (λ n. n ≤ a.seen) a.changed follows.listed;
      exact = λ n above within. kept-listed to n a.changed (omega (arith, above)) ∙ follows.exact n (omega (arith, above)) within;
    }

-- the same of an entry
pub entry-forgotten : (journal : List Change) (to : ℕ) (e : KeyShape × Following) → (to ≤ e.1.seen) × FollowsKey journal e → FollowsKey journal (e.0, forgotten to e.1)
entry-forgotten journal to e both =
    let follows = both.1 in
    (follows.0, follows.1, follows.2, follows-forgotten follows.0 follows.1 e.1 journal to both.0 follows.3)

-- ---- longer journals

there-before : {X : Type 0} (xs ys : List X) (n : ℕ) (x : X) → n < length xs → slice_get (xs ++ ys) n ≡ Some x → slice_get xs n ≡ Some x
there-before [] ys n x low there = absurd (omega (arith, low))
there-before (z ∷ xs) ys zero x low there = there
there-before (z ∷ xs) ys (suc n) x low there = there-before xs ys n x (omega (arith, low)) there

pub follows-longer : ((set : Contents) (journal more : List Change) → StandsFor set journal → StandsFor set (journal ++ more))
    → ((journal more : List Change) (n : ℕ) (collection id : List ℕ) → n ≤ length journal → document_at (journal ++ more) n collection id ≡ document_at journal n collection id)
    → ((key : KeyShape) (journal more : List Change) (n : ℕ) → n ≤ length journal → result_at key (journal ++ more) n ≡ result_at key journal n)
    → (kind : Kind) (query : Query) (a : Following) (journal more : List Change) → Follows kind query a journal → Follows kind query a (journal ++ more)
follows-longer stands_longer documents results kind query a journal more follows =
    let within = follows.within in
    let longer = length-append journal more in record {
      kind_is = follows.kind_is;
      query_is = follows.query_is;
      stands = stands_longer a.set journal more follows.stands;
      forward = follows.forward;
      within = omega (arith, within, longer);
      begun = follows.begun;
      passed = λ n other above below there.
          let at = there-before journal more n other (omega (arith, below, within)) there in
          subst (λ (found : Option (ℕ × Tree)). passes_by a.set.query other.collection (option_map (λ d. d.1) found) other.document ≡ true)
          (sym (documents journal more (suc n - 1) other.collection other.id (omega (arith, below, within))))
          (follows.passed n other above below at);
      listed = follows.listed;
      exact = λ n above low.
          follows.exact n above low
          ∙ ap₂ (λ (x y : Finding). not (same_finding x y)) (sym (results (QueryKey kind query) journal more n (omega (arith, low, within)))) (sym (results (QueryKey kind query) journal more (n - 1) (omega (arith, low, within))));
    }

-- the same of all
pub all-longer : ((set : Contents) (journal more : List Change) → StandsFor set journal → StandsFor set (journal ++ more))
    → ((journal more : List Change) (n : ℕ) (collection id : List ℕ) → n ≤ length journal → document_at (journal ++ more) n collection id ≡ document_at journal n collection id)
    → ((key : KeyShape) (journal more : List Change) (n : ℕ) → n ≤ length journal → result_at key (journal ++ more) n ≡ result_at key journal n)
    → (journal more : List Change) (entries : List (KeyShape × Following)) → AreFollowing journal entries → AreFollowing (journal ++ more) entries
all-longer stands_longer documents results journal more entries all k d within =
    let follows = all k d within in
    (follows.0, follows.1, follows.2, follows-longer stands_longer documents results follows.0 follows.1 _ journal more follows.3)
