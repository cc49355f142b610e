-- the head was read from the first byte on
use Rattle.std.proofs.Common.{arith, Option, Some, subst, IfSome, ◌+◌, ◌<◌, ◌^◌}
use Rattle.store_base.specs.declared.head.FoundHead.{FoundHead}
use Rattle.store_base.proofs.BeginLemmas.{begin_refused}
use Rattle.store_base.proofs.reader.BaseReader.begin.Goals as goal

pub invariant_of-result : goal.invariant_of-result
invariant_of-result g c =
    let P : Option FoundHead → Type 0 = λ o. IfSome o (λ f. f.head.horizon + 1 < 2 ^ 64) in
    let low : c.in-Ok-Some.found.head.horizon + 1 < 2 ^ 64 = subst P c.in-Ok-Some.field-0-is c.in-Ok-Some.ensures.horizon in
    record { some = omega arith; within = omega arith; horizon = low; waits = tt }

pub returns-in-Err-clause-refused : goal.returns-in-Err-clause-refused
returns-in-Err-clause-refused g c = λ bytes s.
    begin_refused c.new-window.result c.read_head.new.window (g.K.Disk.at c.args.disk).history (g.K.Disk.at c.args.disk).faults bytes c.in-Err.refusal c.new-window.ensures c.in-Err.ensures.found s
