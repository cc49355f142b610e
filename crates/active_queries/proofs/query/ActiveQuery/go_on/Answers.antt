use Rattle.std.proofs.Common.{subst}
use Rattle.active_queries.specs.Following.{Following, HasFollowed}
use Rattle.active_queries.proofs.query.ActiveQuery.go_on.Goals as goal

-- what is common was taken first
pub returns-clause-on : goal.returns-clause-on
returns-clause-on c = subst (λ (a : Following). HasFollowed c.args.book.now.journal a c.follow_to.new.self) c.settle.ensures (record { follows = c.follow_to.ensures.follows; from = c.follow_to.ensures.from; seen = c.follow_to.ensures.seen; above = c.follow_to.ensures.above })
