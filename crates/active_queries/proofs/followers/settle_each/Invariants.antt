use Rattle.std.proofs.Common.{◌≡◌, ◌≤◌, ◌++◌, length, take, drop}
use Rattle.indexmap.specs.IndexMap.{spare}
use Rattle.active_queries.specs.Queries.{all_lifted}
use Rattle.active_queries.proofs.followers.settle_each.Given as goal

abbrev pub invariant-loop-index : goal.invariant-loop-index
invariant-loop-index l = record {
  entries : l.held.entries ≡ all_lifted l.seen l.from (take l.index l.initial.held.entries) ++ drop l.index l.initial.held.entries;
  end : l.index-end ≡ length l.initial.held.entries;
  spare : spare l.initial.held ≤ spare l.held;
}
