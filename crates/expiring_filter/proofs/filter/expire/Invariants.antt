use Rattle.std.proofs.Common.{◌≡◌, length}
use Rattle.expiring_map.specs.Entries.{seconds_of}
use Rattle.expiring_filter.specs.Held.{IsCounted, LosesPast}
use Rattle.expiring_filter.proofs.filter.expire.Given as goal

abbrev pub invariant-loop-key : goal.invariant-loop-key
invariant-loop-key l = record {
  counted : IsCounted l.counters.log2_bits l.counters.hashes (seconds_of l.keys.entries) l.counters.counts.items l.counters.bits.items;
  lost : LosesPast l.moment (seconds_of l.initial.keys.entries) (seconds_of l.keys.entries);
  reserved : l.keys.reserved ≡ l.initial.keys.reserved;
  log2_bits : l.counters.log2_bits ≡ l.initial.counters.log2_bits;
  hashes : l.counters.hashes ≡ l.initial.counters.hashes;
}

-- each step takes a key out
abbrev pub decreases-loop-key : goal.decreases-loop-key
decreases-loop-key l = length l.keys.entries
