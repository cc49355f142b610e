-- the records so far are those that were read, and nothing was written since the beginning
use Rattle.std.proofs.Common.{◌≤◌}
use Rattle.record_log.specs.Openings.{LeavesBegun}
use Rattle.record_log.proofs.OpenLemmas.{IsOpening}
use Rattle.record_log.proofs.opened.open_log.Given as goal

abbrev pub invariant-loop-n : goal.invariant-loop-n
invariant-loop-n g l = record {
  read : IsOpening (g.K.Disk.at l.fn.disk).history l.opening.history l.opening.gate l.records.items;
  left : LeavesBegun (g.K.Disk.at l.fn.disk).history l.opening.history;
  faults : (g.K.Disk.at l.fn.disk).faults ≤ l.opening.faults;
}
