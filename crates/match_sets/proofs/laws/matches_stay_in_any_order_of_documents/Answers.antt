use Rattle.commit_book.specs.Documents.{docs}
use Rattle.commit_book.specs.Journal.{document_at}
use Rattle.match_sets.proofs.LawLemmas.{any_order}
use Rattle.match_sets.proofs.laws.matches_stay_in_any_order_of_documents.Goals as goal

-- of each id both have the same
pub returns : goal.returns
returns c = λ q journal n rows have.
    any_order (document_at journal n q.collection) q rows (docs journal n q.collection) have (c.collections_have_the_documents_of_their_records.ensures journal n q.collection)
