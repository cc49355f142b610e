use Rattle.std.proofs.Common.{Option, is_some, not, ap, subst, sym, ◌∙◌}
use Rattle.query_normal.specs.declared.key.KeyShape.{KeyShape}
use Rattle.active_queries.specs.Queries.{AreIndexed}
use Rattle.active_queries.proofs.IndexedLemmas.{indexed-there, indexed-gone}
use Rattle.active_queries.proofs.queries.ActiveQueries.drop_ready.Goals as goal

-- it has no query
pub invariant_of-self : goal.invariant_of-self
invariant_of-self c = record {
  indexed =
      subst (λ (r : Option KeyShape). AreIndexed c.self.inside.followers.entries r c.remove.new.self) (sym c.take.ensures.after)
      (indexed-gone c.self.inside.followers.entries c.in-Some.key c.self.inside.index c.remove.new.self (ap is_some (sym c.get.ensures) ∙ c.is_none.ensures ∙ ap not c.if-is_none.true)
      (subst (λ (r : Option KeyShape). AreIndexed c.self.inside.followers.entries r c.self.inside.index) (sym c.in-Some.ensures.value) c.self.invariant.indexed) c.remove.ensures.held);
}

-- it has one
pub invariant_of-self-else-is_none : goal.invariant_of-self-else-is_none
invariant_of-self-else-is_none c = record {
  indexed =
      subst (λ (r : Option KeyShape). AreIndexed c.self.inside.followers.entries r c.self.inside.index) (sym c.take.ensures.after)
      (indexed-there c.self.inside.followers.entries c.in-Some.key c.self.inside.index (ap is_some (sym c.get.ensures) ∙ c.is_none.ensures ∙ ap not c.if-is_none.false)
      (subst (λ (r : Option KeyShape). AreIndexed c.self.inside.followers.entries r c.self.inside.index) (sym c.in-Some.ensures.value) c.self.invariant.indexed));
}
