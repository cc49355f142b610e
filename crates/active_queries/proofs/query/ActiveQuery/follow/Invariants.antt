use Rattle.std.proofs.Common.{◌≡◌, ◌≤◌, ◌-◌, ℕ}
use Rattle.query_core.specs.declared.query.Kind.{Kind}
use Rattle.query_core.specs.declared.query.Query.{Query}
use Rattle.active_queries.specs.Following.{Follows, AreAbove}
use Rattle.active_queries.proofs.query.ActiveQuery.follow.Given as goal

abbrev pub invariant-loop-self : goal.invariant-loop-self
invariant-loop-self l = record {
  follows : (kind : Kind) (query : Query) → Follows kind query l.fn.self l.book.journal → Follows kind query l.self l.book.journal;
  from : l.self.from ≡ l.fn.self.from;
  seen : l.fn.self.seen ≤ l.self.seen;
  above : (n : ℕ) → n ≤ l.fn.self.seen → AreAbove n l.fn.self.changed → AreAbove n l.self.changed;
}

-- each turn sees one commit
abbrev pub decreases-loop-self : goal.decreases-loop-self
decreases-loop-self l = l.to - l.self.seen
