-- By the list of calls, the newest first.
use Rattle.expiring_filter.proofs.EventLemmas.{held_ends, second_ends}
use Rattle.expiring_filter.proofs.laws.calls_leave_the_unexpired_keys.Goals as goal

pub returns : goal.returns
returns c = record { held = held_ends; seconds = second_ends }
