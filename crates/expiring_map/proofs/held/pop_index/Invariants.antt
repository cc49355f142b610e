use Rattle.std.proofs.Common.{◌≤◌}
use Rattle.std.specs.BinaryHeap.{IsHeap, heap_items, heap_len, heap_capacity}
use Rattle.expiring_map.specs.Due.{queue_cmp, overdue, IsCovered}
use Rattle.expiring_map.proofs.held.pop_index.Given as goal

abbrev pub invariant-loop-due : goal.invariant-loop-due
invariant-loop-due g l = record {
  ordered : IsHeap queue_cmp (heap_items l.queue);
  covered : IsCovered l.held.entries (heap_items l.queue);
  len : heap_len l.queue ≤ heap_len l.initial.queue;
  space : heap_len l.queue ≤ heap_capacity l.queue;
  capacity : heap_capacity l.initial.queue ≤ heap_capacity l.queue;
}

-- each step takes out an index that is due, and puts it in only for a later second
abbrev pub decreases-loop-due : goal.decreases-loop-due
decreases-loop-due g l = overdue l.moment (heap_items l.queue)
