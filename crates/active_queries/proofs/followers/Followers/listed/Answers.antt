use Rattle.std.proofs.Common.{subst, sym}
use Rattle.active_queries.specs.Queries.{AreListed, all_lifted}
use Rattle.active_queries.proofs.ListedLemmas.{listed-lifted}
use Rattle.active_queries.proofs.followers.Followers.listed.Goals as goal

pub returns-clause-listed : goal.returns-clause-listed
returns-clause-listed c = rw (← c.self.view_is)
    (subst (AreListed (all_lifted c.self.inside.seen c.self.inside.from c.self.inside.held.entries)) (sym c.as_slice.ensures.keys) (listed-lifted c.self.inside.seen c.self.inside.from c.self.inside.held.entries c.self.inside.listed.keys c.self.invariant.listed))
