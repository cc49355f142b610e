use Rattle.issued_expiries.proofs.LawLemmas.{clock_ends, held_ends, idle_ends}
use Rattle.issued_expiries.proofs.laws.calls_leave_the_unexpired_copies.Goals as goal

pub returns : goal.returns
returns c = record { clock = clock_ends; held = held_ends; idle = idle_ends }
