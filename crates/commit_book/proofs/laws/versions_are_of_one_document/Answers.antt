use Rattle.commit_book.proofs.VersionLemmas.{one_document}
use Rattle.commit_book.proofs.laws.versions_are_of_one_document.Goals as goal

-- by the change of that number
pub returns : goal.returns
returns c = one_document
