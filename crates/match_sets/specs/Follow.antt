-- Internal. How the rows that satisfy a query follow the commits of a journal.
use Rattle.std.specs.Prelude.{◌≡◌, ◌<◌, ◌≤◌, ℕ, suc, true, false, List, [], Some, slice_get, filter, bytes_eq}
use Rattle.commit_book.specs.declared.change.Change.{Change}
use Rattle.commit_book.specs.declared.change.CommitRow.{CommitRow}
use Rattle.commit_book.specs.CommitRows.{commit_row}
use Rattle.commit_book.specs.Documents.{docs}
use Rattle.query_core.specs.declared.query.Query.{Query}
use Rattle.query_core.specs.declared.query.Verdict.{Verdict}
use Rattle.query_core.specs.Changes.{is_of, placed_if, verdict_of, passes_by}
use Rattle.query_core.specs.Window.{Row, rows_cmp, matches}
use Rattle.match_sets.specs.Rows.{new_row, others, HasOld, AreApart}

-- the verdict on a commit
abbrev pub verdict_on : Query → CommitRow → Verdict
verdict_on q row = verdict_of q row.collection row.before row.after

-- each commit above the first, up to the second, passes by the query
abbrev pub ArePassing : Query → List Change → ℕ → ℕ → Type 0
ArePassing q journal from to = (n : ℕ) (other : Change) → from ≤ n → n < to → slice_get journal n ≡ Some other
    → passes_by q other.collection (commit_row journal (suc n) other).before other.document ≡ true

-- The rows that satisfy at the commit are those before it, without the old row of the commit and with the new one put
-- in, each where the verdict says so. The old row, where it satisfied, is the only one of its id, and where it did not
-- there is none. No id is there twice, and the old row is of an older version.
pub record Follows (q : Query) (journal : List Change) (n : ℕ) (row : CommitRow) : Type 0 where
  pub rows : matches q (docs journal (suc n) q.collection) ≡ placed_if (rows_cmp q.order) (others (verdict_on q row).before row.id (matches q (docs journal n q.collection))) (new_row row (verdict_on q row).after)
  pub old : (verdict_on q row).before ≡ true → HasOld row.id row.before (matches q (docs journal n q.collection))
  pub none : (verdict_on q row).before ≡ false → (verdict_on q row).after ≡ true → filter (is_of row.id) (matches q (docs journal n q.collection)) ≡ []
  pub absent : bytes_eq row.collection q.collection ≡ true → (verdict_on q row).before ≡ false → filter (is_of row.id) (matches q (docs journal n q.collection)) ≡ []
  pub older : bytes_eq row.collection q.collection ≡ true → (k : ℕ) (x : Row) → slice_get (matches q (docs journal n q.collection)) k ≡ Some x → is_of row.id x ≡ true → x.1 < row.commit
  pub apart : AreApart (matches q (docs journal n q.collection))
  pub apart_after : AreApart (matches q (docs journal (suc n) q.collection))
