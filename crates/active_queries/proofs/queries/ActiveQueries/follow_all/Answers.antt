use Rattle.active_queries.proofs.LiftLemmas.{all-begun, on-following, on-seen, on-above}
use Rattle.active_queries.proofs.queries.ActiveQueries.follow_all.Goals as goal

pub returns-clause-following : goal.returns-clause-following
returns-clause-following c = on-following c.args.book.now.journal c.args.self.now.entries c.see_rows.new.self.entries c.see_rows.ensures.on

pub returns-clause-begun : goal.returns-clause-begun
returns-clause-begun c = all-begun c.args.book.now.journal c.args.self.now.entries c.see_rows.new.self.entries c.see_rows.ensures.on

pub returns-clause-seen : goal.returns-clause-seen
returns-clause-seen c = on-seen c.args.book.now.journal c.args.self.now.entries c.see_rows.new.self.entries c.see_rows.ensures.on

pub returns-clause-above : goal.returns-clause-above
returns-clause-above c = on-above c.args.book.now.journal c.args.self.now.entries c.see_rows.new.self.entries c.see_rows.ensures.on
