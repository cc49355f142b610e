use denote.Param.Send.{sendable}
use Rattle.std.proofs.Crossing.{crosses}
use Rattle.atomic_table.proofs.owned.Table.TheSendSync as TheTable
use Rattle.atomic_table.proofs.send_lease.SendLease.TheSendSync as TheLease
use Rattle.atomic_table.proofs.shared.Seat.TheSendSync as TheSeat
use Rattle.atomic_table.proofs.shared.Shared.TheSendSync as TheShared
use Rattle.turnstile.proofs.gate.Turnstile.TheSendSync as TheTurnstile
use Rattle.quaestor.proofs.main.Goals as goal

-- who keeps the commits of a connection in a file may cross to its thread
pub run-status-requires-send-P-Keeper-Hand : goal.run-status-requires-send-P-Keeper-Hand
run-status-requires-send-P-Keeper-Hand g c κs = search (TheSeat.the_send, TheTurnstile.the_send, TheTurnstile.the_sync, TheTable.the_send, TheTable.the_sync, TheLease.the_send, TheLease.the_sync, TheShared.the_send, TheShared.the_sync, crosses, sendable) depth 120 fits 100000
