-- the sum so far, and what is left
use Rattle.std.proofs.Common.{◌≡◌, ◌≤◌, ◌+◌, ◌-◌, ◌^◌, min, drop}
use Rattle.durable_book.specs.Journals.{costs_of, journal_of}
use Rattle.durable_book.proofs.records.costs_of.Given as goal

abbrev pub invariant-loop-said : goal.invariant-loop-said
invariant-loop-said l = record {
  so_far : min (l.sum + costs_of (journal_of (drop l.said-index l.records))) (2 ^ 64 - 1) ≡ min (costs_of (journal_of l.records)) (2 ^ 64 - 1);
  small : l.sum ≤ 2 ^ 64 - 1;
}
