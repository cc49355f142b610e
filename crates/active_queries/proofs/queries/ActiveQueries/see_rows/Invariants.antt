use Rattle.std.proofs.Common.{◌≡◌, ◌≤◌, ◌+◌, length}
use Rattle.active_queries.specs.Queries.{AllGoOn, HaveSeen}
use Rattle.active_queries.proofs.queries.ActiveQueries.see_rows.Given as goal

-- each query has seen the commits of the rows so far
abbrev pub invariant-loop-index : goal.invariant-loop-index
invariant-loop-index l = record {
  on : AllGoOn l.book.journal l.fn.self.entries l.self.entries;
  seen : HaveSeen (l.from + l.index) l.self.entries;
  end : l.index-end ≡ length l.rows;
  spare : l.fn.self.spare ≤ l.self.spare;
  ready : l.self.ready ≡ l.fn.self.ready;
}
