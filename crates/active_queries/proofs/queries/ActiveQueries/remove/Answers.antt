use Rattle.std.proofs.Common.{sym, ◌∙◌}
use Rattle.active_queries.proofs.IndexedLemmas.{indexed-kept, indexed-less}
use Rattle.active_queries.proofs.queries.ActiveQueries.remove.Goals as goal

pub invariant_of-self : goal.invariant_of-self
invariant_of-self c = record {
  indexed = indexed-less c.self.inside.followers.entries c.remove.new.self.entries c.args.key.now c.self.inside.ready c.self.inside.index c.remove-then-not-is_ready.new.self (sym c.is_ready.ensures ∙ c.if-not-is_ready.true) c.remove.ensures.gone c.remove.ensures.others c.remove-then-not-is_ready.ensures.held c.self.invariant.indexed;
}

pub invariant_of-self-else-not-is_ready : goal.invariant_of-self-else-not-is_ready
invariant_of-self-else-not-is_ready c = record {
  indexed = indexed-kept c.self.inside.followers.entries c.remove.new.self.entries c.args.key.now c.self.inside.ready c.self.inside.index (sym c.is_ready.ensures ∙ c.if-not-is_ready.false) c.remove.ensures.others c.self.invariant.indexed;
}

pub returns-then-not-is_ready-clause-among : goal.returns-then-not-is_ready-clause-among
returns-then-not-is_ready-clause-among c = rw (← c.self.view_is) c.remove.ensures.among

pub returns-else-not-is_ready-clause-among : goal.returns-else-not-is_ready-clause-among
returns-else-not-is_ready-clause-among c = rw (← c.self.view_is) c.remove.ensures.among
