use Rattle.commit_book.proofs.GrowLemmas.{document_prefix, docs_prefix}
use Rattle.commit_book.proofs.laws.older_commits_stay.Goals as goal

-- the first changes are the same
pub returns-clause-documents : goal.returns-clause-documents
returns-clause-documents c = document_prefix

pub returns-clause-collections : goal.returns-clause-collections
returns-clause-collections c = docs_prefix
