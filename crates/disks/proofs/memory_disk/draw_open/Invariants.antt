-- the bytes so far, and behind them what the rest gives with the draws that are left
use Rattle.std.proofs.Common.{◌≡◌, ◌≤◌, ◌++◌, length, take, drop}
use Rattle.disks.specs.Devices.{drawn, is_open_by}
use Rattle.disks.proofs.memory_disk.draw_open.Given as goal

abbrev pub invariant-loop-place : goal.invariant-loop-place
invariant-loop-place l = record {
  used : l.used ≤ length l.draws;
  size : length l.bytes ≡ length l.initial.bytes;
  drawn : drawn (is_open_by l.synced l.ranges) 0 l.initial.bytes l.draws
      ≡ take l.place l.bytes ++ drawn (is_open_by l.synced l.ranges) l.place (drop l.place l.bytes) (drop l.used l.draws);
}
