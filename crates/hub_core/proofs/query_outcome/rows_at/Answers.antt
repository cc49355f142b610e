-- the documents of the book are those of the collection, and their order does not matter
use Rattle.std.proofs.Common.{ap, ◌∙◌}
use Rattle.query_core.specs.Window.{window}
use Rattle.commit_book.specs.Journal.{document_at}
use Rattle.hub_core.proofs.QueryLemmas.{window-of-documents}
use Rattle.hub_core.proofs.query_outcome.rows_at.Goals as goal

pub returns : goal.returns
returns c =
    c.in_ok-rows.ensures
    ∙ ap (window c.args.query.now) c.of-documents.ensures
    ∙ window-of-documents (document_at c.args.book.now.journal c.args.commit c.args.query.now.collection) c.args.query.now _ _
    c.in_ok-documents_of.ensures (c.collections_have_the_documents_of_their_records.ensures c.args.book.now.journal c.args.commit c.args.query.now.collection)
