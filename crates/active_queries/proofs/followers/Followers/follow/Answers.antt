use Rattle.std.proofs.Common.{sym, arith}
use Rattle.active_queries.proofs.LiftLemmas.{all_stay, none-reached, reached-at}
use Rattle.active_queries.proofs.followers.Followers.follow.Goals as goal

pub returns-in_default-clause-on : goal.returns-in_default-clause-on
returns-in_default-clause-on c = all_stay c.args.book.now.journal c.args.self.now.entries

-- there is no query of the key
pub returns-in_default-clause-reached : goal.returns-in_default-clause-reached
returns-in_default-clause-reached c = rw (← c.self.view_is) (none-reached c.args.key.now c.args.to c.self.inside.seen c.self.inside.from c.self.inside.held.entries c.in_default.ensures.found)

pub returns-then-to-max-clause-on : goal.returns-then-to-max-clause-on
returns-then-to-max-clause-on c = all_stay c.args.book.now.journal c.args.self.now.entries

-- it has seen the commit
pub returns-then-to-max-clause-reached : goal.returns-then-to-max-clause-reached
returns-then-to-max-clause-reached c =
    rw (← c.self.view_is)
    (reached-at c.args.key.now c.args.to c.self.inside.seen c.self.inside.from c.self.inside.held.entries c.in-Some.index c.index.result.now (sym c.in-Some.ensures.index) c.index.ensures (omega (arith, c.if-to-max.true, c.max.ensures, c.seen.ensures)))
