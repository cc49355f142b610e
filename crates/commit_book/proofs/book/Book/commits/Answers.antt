use Rattle.std.proofs.Common.{List, [], ◌∷◌, ◌++◌, sym, ap, ◌∙◌, arith}
use Rattle.commit_book.specs.declared.change.CommitRow.{CommitRow}
use Rattle.commit_book.specs.CommitRows.{commit_rows}
use Rattle.commit_book.proofs.CommitLemmas.{item_at, commit_rows_more}
use Rattle.commit_book.proofs.book.Book.commits.Goals as goal

-- the next row is that of the next commit
pub loop-index-preserved : goal.loop-index-preserved
loop-index-preserved c =
    let here = item_at c.args.self.now.journal c.loop-index.index (omega arith) in
    c.in_ok-push.ensures.items
    ∙ ap (λ (rows : List CommitRow). rows ++ c.in_ok-commit_row.field-0 ∷ []) c.loop-index.invariant
    ∙ ap (λ (row : CommitRow). commit_rows c.args.self.now.journal c.args.from c.loop-index.index ++ row ∷ []) (c.in_ok-commit_row.ensures here.0 here.1)
    ∙ sym (commit_rows_more c.args.self.now.journal c.args.from c.loop-index.index here.0 (omega arith) here.1)
