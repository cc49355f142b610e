use Rattle.std.proofs.Common.{◌≡◌, ◌≤◌, ◌-◌, true, length, take, All}
use Rattle.std.specs.List.{list_any}
use Rattle.query_normal.specs.Keys.{same_key}
use Rattle.active_queries.specs.Queries.{AllGoOn, HaveSeen}
use Rattle.active_queries.proofs.followers.Followers.see_each.Given as goal

-- the queries of the keys so far have seen the commit
abbrev pub invariant-loop-index : goal.invariant-loop-index
invariant-loop-index l = record {
  on : AllGoOn l.book.journal l.fn.self.entries l.self.entries;
  recent : HaveSeen (l.row.commit - 1) l.self.entries;
  reached : All (λ e. list_any (same_key e.0) (take l.index l.keys) ≡ true → l.row.commit ≤ e.1.seen) l.self.entries;
  end : l.index-end ≡ length l.keys;
  spare : l.fn.self.spare ≤ l.self.spare;
}
