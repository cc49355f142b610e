use Rattle.std.proofs.Common.{◌≡◌}
use Rattle.commit_book.specs.CommitRows.{commit_rows}
use Rattle.commit_book.proofs.book.Book.commits.Given as goal

abbrev pub invariant-loop-index : goal.invariant-loop-index
invariant-loop-index l = l.rows.items ≡ commit_rows l.self.journal l.from l.index
