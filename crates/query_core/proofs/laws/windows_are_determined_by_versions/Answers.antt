use Rattle.query_core.proofs.WindowLemmas.{windows_determined}
use Rattle.query_core.proofs.laws.windows_are_determined_by_versions.Goals as goal

-- each row of a window is a document
pub returns : goal.returns
returns c = windows_determined
