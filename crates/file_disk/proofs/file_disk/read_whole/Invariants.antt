-- so many bytes were read, and the buffer has its length
use Rattle.std.proofs.Common.{◌≡◌, ◌≤◌, length}
use Rattle.file_disk.proofs.file_disk.read_whole.Given as goal

abbrev pub invariant-loop : goal.invariant-loop
invariant-loop g l =
    (goal.iterator-loop g).can_next l.iterator' × (goal.iterator-loop g).is_finite l.iterator'
    × (l.count ≤ length l.into) × (length l.into ≡ length l.initial.into)
