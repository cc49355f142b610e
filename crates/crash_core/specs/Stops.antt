-- Believed. What a put leaves that is stopped: it writes its record behind its closed gate and the next gate behind that, syncs, opens its gate, and syncs.
use Rattle.std.specs.Prelude.{ℕ, ◌+◌, Bool, ◌&&◌, nat_eq, nat_lt, if◌then◌else◌, List, length, slice_index}
use Rattle.commit_book.specs.declared.change.Change.{Change}
use Rattle.record_log.specs.Frames.{open_gate}
use Rattle.record_log.specs.Records.{body_of}

-- what a put writes at first: the kind in one byte, the clock in 8, the length of the body in 4, the body, and the next gate in one
abbrev pub written_bytes : Change → ℕ
written_bytes change = 14 + length (body_of change)

-- how many bytes may be any behind so many calls of a put that writes so many at first: behind the first call these, behind the third its gate, and else none
abbrev pub open_after : (size calls : ℕ) → ℕ
open_after size calls = if nat_eq calls 1 then size else (if nat_eq calls 3 then 1 else 0)

-- whether a put that stopped behind so many calls is found behind a crash: its gate was drawn as an open one
abbrev pub is_stored : ℕ → List ℕ → Bool
is_stored calls drawn = nat_eq calls 3 && (nat_lt 0 (length drawn) && nat_eq (slice_index drawn 0) open_gate)
