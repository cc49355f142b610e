use Rattle.std.proofs.Common.{subst}
use Rattle.active_queries.specs.Following.{Following, HasFollowed}
use Rattle.active_queries.proofs.query.ActiveQuery.go_on_by.Goals as goal

-- what is common was taken first
pub returns-clause-on : goal.returns-clause-on
returns-clause-on c = subst (λ (a : Following). HasFollowed c.args.book.now.journal a c.see.new.self) c.settle.ensures (record { follows = c.see.ensures.follows; from = c.see.ensures.from; seen = c.see.ensures.seen; above = c.see.ensures.above })
