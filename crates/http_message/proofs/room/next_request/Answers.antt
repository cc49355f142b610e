use Rattle.std.proofs.Common.{ap}
use Rattle.http_message.specs.Room.{last_message}
use Rattle.http_message.specs.Taken.{RequestState}
use Rattle.http_message.proofs.TakenLemmas.{taken_seen, taken_incomplete, waits_for_none}
use Rattle.http_message.proofs.room.next_request.Goals as goal

-- the buffers are seen as what their fields hold
pub invariant_of-buffer : goal.invariant_of-buffer
invariant_of-buffer g c = (c.in-Ok.ensures.next (last_message c.buffer.inside.buffers c.buffer.inside.last_request)).1

pub returns-in-Ok-clause-taken : goal.returns-in-Ok-clause-taken
returns-in-Ok-clause-taken g c =
    taken_seen _ _ _ _ _ _ _ _ c.buffer.view_is
    (c.in-Ok.ensures.next (last_message c.buffer.inside.buffers c.buffer.inside.last_request)).0

pub returns-in-Ok-clause-waits : goal.returns-in-Ok-clause-waits
returns-in-Ok-clause-waits g c = waits_for_none _ _ _ _ (ap (λ (r : RequestState). r.bytes) c.buffer.view_is) c.next_in.ensures.waits

pub returns-in-Err-clause-taken : goal.returns-in-Err-clause-taken
returns-in-Err-clause-taken g c =
    rw c.taken.ensures
    (taken_seen _ _ _ _ _ _ _ _ c.buffer.view_is
    (taken_incomplete _ _ _ _ _ _ _ c.in-Err.incomplete
    (c.in-Err.ensures.next (last_message c.buffer.inside.buffers c.buffer.inside.last_request))))

pub returns-in-Err-clause-waits : goal.returns-in-Err-clause-waits
returns-in-Err-clause-waits g c = waits_for_none _ _ _ _ (ap (λ (r : RequestState). r.bytes) c.buffer.view_is) c.next_in.ensures.waits
