-- Internal. What taking the next item answers, and when it waits for more bytes.
use Rattle.std.specs.Prelude.{◌≡◌, ◌⊎◌, ℕ, Bool, List, Result, Ok, Err}
use Rattle.q_outside.specs.Ends.{End}
use Rattle.http_message.specs.Buffers.{Contents}
use Rattle.http_message.specs.Item.{IsOpen}
use Rattle.http_message.specs.Room.{IsLastRequest, last_message, state_of}
use Rattle.http_message.specs.Incomplete.{taken_by}
use Rattle.http_message.specs.Taken.{RequestState, IsTaken}
use Rattle.http_message.specs.declared.next.Next.{Next}
use Rattle.http_message.specs.declared.incomplete.Incomplete.{Incomplete}

-- the answer, with what the buffers hold then
abbrev pub IsNext : (source source' sink sink' : End) → (buffer : RequestState) → (buffers' : Contents) → Result Next Incomplete → Type 0
IsNext source source' sink sink' buffer buffers' (Ok next) =
    IsTaken source source' sink sink' buffer (state_of buffers'.bytes next.offset (last_message buffers' next.last_request)) next.taken
    × IsLastRequest buffers' next.last_request
IsNext source source' sink sink' buffer buffers' (Err incomplete) =
    IsTaken source source' sink sink' buffer buffer (taken_by incomplete)

-- nothing is taken from the source, or no item is whole in the bytes that are held
abbrev pub Waits : (source source' : End) → (held : List ℕ) → Type 0
Waits source source' held = (source' ≡ source) ⊎ ((expected : Bool) × IsOpen held expected)
