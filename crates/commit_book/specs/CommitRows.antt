-- Internal. The commits as a caller receives them, each with the document before it.
use Rattle.std.specs.Prelude.{ℕ, ◌-◌, List, take, drop, map, option_map}
use Rattle.std.specs.List.{enumerate_from}
use Rattle.commit_book.specs.declared.change.Change.{Change}
use Rattle.commit_book.specs.declared.change.CommitRow.{CommitRow}
use Rattle.commit_book.specs.Journal.{document_at}

-- a commit with the documents of its record before and after it
abbrev pub commit_row : List Change → ℕ → Change → CommitRow
commit_row journal commit change = record {
  commit = commit;
  collection = change.collection;
  id = change.id;
  before = option_map (λ d. d.1) (document_at journal (commit - 1) change.collection change.id);
  after = change.document;
}

-- the commits after `from`, up to `to`
abbrev pub commit_rows : List Change → ℕ → ℕ → List CommitRow
commit_rows journal from to = map (λ c. commit_row journal c.0 c.1) (take (to - from) (drop from (enumerate_from 1 journal)))
