-- at the spot of the key
use Rattle.match_index.proofs.keeping.take_at.Goals as goal

pub returns-clause-query : goal.returns-clause-query
returns-clause-query c = λ query. rw (c.in-Some.ensures.name, c.in-Some.ensures.probe) at c.take_spot.ensures
