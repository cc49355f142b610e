-- the bytes so far, and those that are left
use Rattle.std.proofs.Common.{◌≡◌, ◌-◌, ◌++◌}
use Rattle.crash_core.specs.Steps.{bytes_from}
use Rattle.world_core.specs.Draws.{after}
use Rattle.crash_core.proofs.machine.drawn_bytes.Given as goal

abbrev pub invariant-loop-place : goal.invariant-loop-place
invariant-loop-place l = record {
  bytes : l.draws.items ++ bytes_from (l.count - l._place) l.generator.number ≡ bytes_from l.count l.initial.generator.number;
  number : after (l.count - l._place) l.generator.number ≡ after l.count l.initial.generator.number;
}
