-- What may cross threads: a shared log, its seats, and one who hands records to it, where its disk may.
use mathlib.Core.List.{[], ◌∷◌}
use mir.Syntax.{Sym}
use denote.RattleType.{RattleType}
use denote.Struct.Tuple.{TupleAt, type_at}
use denote.Param.Send.{IsSend, IsSync, sendable}
use denote.Param.SendFields.{as_row_send, declared_send}
use denote.Struct.Field.{row_field}
use Rattle.std.proofs.Crossing.{crosses}
use Rattle.std.specs.contracts.alloc.Global as Global
use Rattle.std.specs.contracts.impls.GlobalAllocator.TheImpl as TheGlobal
use Rattle.std.specs.contracts.option.Option as Option
use Rattle.std.specs.contracts.sync.Arc as Arc
use Rattle.atomic_table.proofs.owned.Table.TheSendSync as TheTable
use Rattle.atomic_table.proofs.send_lease.SendLease.TheSendSync as TheLease
use Rattle.atomic_table.proofs.shared.Seat.TheSendSync as TheSeat
use Rattle.atomic_table.proofs.shared.Shared.TheSendSync as TheShared
use Rattle.atomic_table.specs.contracts.shared.Seat as Seat
use Rattle.disks.specs.declared.disk.Disk.{Ghosts}
use Rattle.turnstile.proofs.gate.Turnstile.TheSendSync as TheTurnstile
use Rattle.turnstile.specs.contracts.view.View as View
use Rattle.shared_log.specs.contracts.hand.LogHand as LogHand
use Rattle.shared_log.specs.contracts.log_value.LogValue as LogValue
use Rattle.shared_log.specs.contracts.noted.Noted as Noted
use Rattle.shared_log.specs.contracts.noted.OpenedLog as OpenedLog
use Rattle.shared_log.specs.contracts.shared.SharedLog as SharedLog

-- what crosses on its own
ruleset crossing = (TheSeat.the_send, TheTurnstile.the_send, TheTurnstile.the_sync, TheTable.the_send, TheTable.the_sync, TheLease.the_send, TheLease.the_sync, TheShared.the_send, TheShared.the_sync, crosses, sendable)

-- a seat at the turnstile of a shared log
abbrev pub SeatRow : (K : RattleType) → Ghosts K.Denot → RattleType
SeatRow K d = Seat.the_row (Option.the_row (LogValue.the_row K d)) (View.the_row Noted.the_row (OpenedLog.the_row K d))

-- a shared log with many owners
abbrev pub SharedRow : (K : RattleType) → Ghosts K.Denot → RattleType
SharedRow K d = Arc.the_row (SharedLog.the_row K d) Global.the_row TheGlobal.ghosts

-- the value of its turnstile
pub value_send : (K : RattleType) (d : Ghosts K.Denot) → IsSend K → IsSend (LogValue.the_row K d)
value_send K d disk = search (crosses, sendable) depth 60 fits 20000

pub seat_send : (K : RattleType) (d : Ghosts K.Denot) → IsSend K → IsSend (SeatRow K d)
seat_send K d disk = let value = value_send K d disk in search crossing depth 60 fits 20000

-- the shared log itself
pub log_send : (K : RattleType) (d : Ghosts K.Denot) → IsSend K → IsSend (SharedLog.the_row K d)
log_send K d disk = let value = value_send K d disk in search crossing depth 60 fits 20000

pub log_sync : (K : RattleType) (d : Ghosts K.Denot) → IsSend K → IsSync (SharedLog.the_row K d)
log_sync K d disk = let value = value_send K d disk in search crossing depth 60 fits 20000

pub shared_send : (K : RattleType) (d : Ghosts K.Denot) → IsSend K → IsSend (SharedRow K d)
shared_send K d disk = search (log_send K d disk, log_sync K d disk, crosses, sendable) depth 60 fits 20000

-- one who hands records to it
pub hand_send : (R K : RattleType) (d : Ghosts K.Denot) → IsSend R → IsSend K → IsSend (LogHand.the_row R K d)
hand_send R K d handle disk =
    let whole : IsSend Global.the_row = search (crosses, sendable) depth 60 fits 20000 in
    declared_send (LogHand.the_type R K d) (as_row_send (row_field R) handle, (whole, (shared_send K d disk, (seat_send K d disk, search (crosses, sendable) depth 60 fits 20000))))

-- a closure that has one in it, whatever its name
pub moved_send : (name : Sym) (R K : RattleType) (d : Ghosts K.Denot) → IsSend R → IsSend K → IsSend (TupleAt name (LogHand.the_row R K d ∷ []))
moved_send name R K d handle disk = declared_send (type_at name (LogHand.the_row R K d ∷ [])) (as_row_send (row_field (LogHand.the_row R K d)) (hand_send R K d handle disk), tt)
