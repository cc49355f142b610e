-- none is there
use Rattle.match_index.proofs.FoundLemmas.{distinct_none}
use Rattle.match_index.proofs.keeping.push_value.Goals as goal

pub returns-in-None-clause-once : goal.returns-in-None-clause-once
returns-in-None-clause-once c = rw (c.in-None.is) distinct_none
