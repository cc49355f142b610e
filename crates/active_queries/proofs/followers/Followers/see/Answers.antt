use Rattle.std.proofs.Common.{◌≤◌}
use Rattle.active_queries.proofs.LiftLemmas.{all_stay, none-lifted, none-there}
use Rattle.active_queries.proofs.followers.Followers.see.Goals as goal

pub returns-in_default-clause-on : goal.returns-in_default-clause-on
returns-in_default-clause-on c = all_stay c.args.book.now.journal c.args.self.now.entries

-- there is no query of the key
pub returns-in_default-clause-reached : goal.returns-in_default-clause-reached
returns-in_default-clause-reached c =
    rw (← c.self.view_is) (none-there (λ e. c.args.row.now.commit ≤ e.1.seen) c.args.key.now _ (none-lifted c.args.key.now c.self.inside.seen c.self.inside.from c.self.inside.held.entries c.in_default.ensures.found))
