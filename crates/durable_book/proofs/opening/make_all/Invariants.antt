-- the hub has made the records so far
use Rattle.std.proofs.Common.{◌≡◌}
use Rattle.durable_book.proofs.LoopLemmas.{IsMaking}
use Rattle.durable_book.proofs.opening.make_all.Given as goal

abbrev pub invariant-loop-said : goal.invariant-loop-said
invariant-loop-said l = record {
  setting : l.hub.setting ≡ l.initial.hub.setting;
  making : IsMaking l.initial.hub.setting l.hub l.records l.said-index;
}
