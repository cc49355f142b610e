use Rattle.std.proofs.Common.{◌≡◌, ◌-◌}
use Rattle.query_lang.specs.FilterReading.{negated_times}
use Rattle.query_lang.proofs.operands.negated.Given as goal

abbrev pub invariant-nots : goal.invariant-nots
invariant-nots l = negated_times l.nots l.fn.filter ≡ negated_times (l.nots - l.counter) l.filter
