use Rattle.std.proofs.Common.{rules}
use Rattle.commit_book.specs.Journal.{document_at}
use Rattle.commit_book.proofs.DocumentLemmas.{docs_rise, docs_hold, sorted_by_ids}
use Rattle.commit_book.proofs.book.Book.docs_at.Goals as goal

-- sorted by their ids, they are the documents
pub returns : goal.returns
returns c =
    sorted_by_ids (document_at c.args.self.now.journal c.args.commit c.args.collection.now) c.in_ok-rows.rows.items _ _ c.in_ok-rows.ensures
    (docs_hold c.args.self.now.journal c.args.commit c.args.collection.now) (docs_rise c.args.self.now.journal c.args.commit c.args.collection.now)
    c.in_ok-sort_by.ensures.sorted c.in_ok-sort_by.ensures.stable (λ a r q k. search rules)
