-- the last moment so far, and what is left
use Rattle.std.proofs.Common.{◌≡◌, drop, fold}
use Rattle.durable_book.specs.Journals.{last_moment, moment_behind}
use Rattle.durable_book.proofs.records.last_moment.Given as goal

abbrev pub invariant-loop-said : goal.invariant-loop-said
invariant-loop-said l = fold moment_behind l.last (drop l.said-index l.records) ≡ last_moment l.records
