use Rattle.active_queries.proofs.LiftLemmas.{all-begun, on-following, on-seen, on-above}
use Rattle.active_queries.proofs.ListedLemmas.{indexed-on}
use Rattle.active_queries.proofs.queries.ActiveQueries.follow.Goals as goal

pub returns-clause-following : goal.returns-clause-following
returns-clause-following c = rw (← c.self.view_is) (on-following c.args.book.now.journal c.self.inside.followers.entries c.follow.new.self.entries c.follow.ensures.on)

pub returns-clause-begun : goal.returns-clause-begun
returns-clause-begun c = rw (← c.self.view_is) (all-begun c.args.book.now.journal c.self.inside.followers.entries c.follow.new.self.entries c.follow.ensures.on)

pub returns-clause-seen : goal.returns-clause-seen
returns-clause-seen c = rw (← c.self.view_is) (on-seen c.args.book.now.journal c.self.inside.followers.entries c.follow.new.self.entries c.follow.ensures.on)

pub returns-clause-above : goal.returns-clause-above
returns-clause-above c = rw (← c.self.view_is) (on-above c.args.book.now.journal c.self.inside.followers.entries c.follow.new.self.entries c.follow.ensures.on)

-- the keys are the same
pub invariant_of-self : goal.invariant_of-self
invariant_of-self c = record { indexed = indexed-on c.args.book.now.journal c.self.inside.followers.entries c.follow.new.self.entries c.self.inside.ready c.self.inside.index c.follow.ensures.on c.self.invariant.indexed }
