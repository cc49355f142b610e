use Rattle.active_queries.proofs.IndexedLemmas.{indexed-added}
use Rattle.active_queries.proofs.queries.ActiveQueries.add.Goals as goal

-- the key that was ready has its query
pub invariant_of-self : goal.invariant_of-self
invariant_of-self c = record {
  indexed = indexed-added c.self.inside.followers.entries c.add.new.self.entries c.args.key c.args.query c.self.inside.ready c.self.inside.index (rw (← c.self.view_is) at c.requires.ready) c.add.ensures c.self.invariant.indexed;
}
