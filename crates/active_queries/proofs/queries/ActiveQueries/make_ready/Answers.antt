use Rattle.std.proofs.Common.{Option, subst}
use Rattle.query_normal.specs.declared.key.KeyShape.{KeyShape}
use Rattle.active_queries.specs.Queries.{AreIndexed}
use Rattle.active_queries.proofs.IndexedLemmas.{indexed-more}
use Rattle.active_queries.proofs.queries.ActiveQueries.make_ready.Goals as goal

pub invariant_of-self-2 : goal.invariant_of-self-2
invariant_of-self-2 c = record {
  indexed =
      indexed-more c.self.inside.followers.entries c.args.key.now c.args.copy c.self.inside.index c.insert.new.index c.requires.copy
      (subst (λ (r : Option KeyShape). AreIndexed c.self.inside.followers.entries r c.self.inside.index) (rw (← c.self.view_is) at c.requires.none) c.self.invariant.indexed) c.in_ok-insert.ensures.ok;
}
