-- Believed. The exit status of the program.
use Rattle.std.specs.Prelude.{ℕ}
use Rattle.client_session.specs.declared.refusal.SessionRefusal.{SessionRefusal}
use Rattle.client_session.specs.declared.refusal.SessionRefusal.TheVariants as refusal
use Rattle.q_outside.specs.declared.served.Why.{Why}
use Rattle.q_outside.specs.declared.served.Why.TheVariants as ends
use Rattle.quaestor_prog.specs.declared.reading.ReadEnd.{ReadEnd}
use Rattle.quaestor_prog.specs.declared.reading.ReadEnd.TheVariants as reads
use Rattle.quaestor_prog.specs.declared.status.Status.{Status}
use Rattle.quaestor_prog.specs.declared.status.Status.TheVariants.{Done, Words, ReadFault, WriteFault, Memory, BadInput, RequestLimit, PlaceFault, LinkFault, Refused, StoreFault}
use Rattle.quaestor_serve.specs.declared.serve_end.ServeWhy.{ServeWhy}
use Rattle.quaestor_serve.specs.declared.serve_end.ServeWhy.TheVariants as causes

-- the number that the program exits with
abbrev pub code_of : Status → ℕ
code_of Done = 0
code_of Words = 2
code_of ReadFault = 3
code_of WriteFault = 4
code_of Memory = 5
code_of BadInput = 6
code_of RequestLimit = 7
code_of PlaceFault = 8
code_of LinkFault = 9
code_of Refused = 10
code_of StoreFault = 11

-- the status of a connection that ended for a reason
abbrev pub status_of : Why → Status
status_of ends.InputEnd = Done
status_of ends.CloseAsked = Done
status_of ends.Stopped = Done
status_of ends.Truncated = BadInput
status_of (ends.BadFraming place) = BadInput
status_of ends.RequestLimit = RequestLimit
status_of ends.ReadFault = ReadFault
status_of ends.WriteFault = WriteFault

-- the status of a server that ended for a reason
abbrev pub status_of_server : ServeWhy → Status
status_of_server causes.Limit = Done
status_of_server causes.Closed = Done
status_of_server causes.DoorFault = PlaceFault
status_of_server causes.Memory = Memory
status_of_server causes.Unfilled = StoreFault

-- the status of a session that has no answer
abbrev pub status_of_refusal : SessionRefusal → Status
status_of_refusal refusal.LinkFault = LinkFault
status_of_refusal (refusal.BadReply place) = Refused
status_of_refusal (refusal.Status code) = Refused
status_of_refusal (refusal.Behind floor got) = Refused
status_of_refusal refusal.Memory = Memory

-- the status of a read that ended so
abbrev pub status_of_read : ReadEnd → Status
status_of_read reads.Answered = Done
status_of_read reads.WriteFault = WriteFault
status_of_read (reads.Refused refused) = status_of_refusal refused

-- the status where the sink failed behind an end that had this one: the first cause in time
abbrev pub or_write_fault : Status → Status
or_write_fault Done = WriteFault
or_write_fault status = status
