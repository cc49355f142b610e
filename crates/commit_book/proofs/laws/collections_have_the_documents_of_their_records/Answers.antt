use Rattle.commit_book.proofs.DocumentLemmas.{docs_hold}
use Rattle.commit_book.proofs.laws.collections_have_the_documents_of_their_records.Goals as goal

-- by the changes in turn
pub returns : goal.returns
returns c = docs_hold
