use Rattle.active_queries.proofs.LiftLemmas.{have-seen}
use Rattle.active_queries.proofs.followers.Followers.seen.Goals as goal

pub returns : goal.returns
returns c = rw (← c.self.view_is) (have-seen c.self.inside.seen c.self.inside.from c.self.inside.held.entries)
