-- Internal. What is in the buffers for a connection's requests.
use Rattle.std.specs.Prelude.{ℕ, ◌≤◌, List, length, take}
use Rattle.httparse.specs.Spans.{IsRequestWithin}
use Rattle.http_message.specs.Buffers.{Contents}
use Rattle.http_message.specs.Message.{Message, message_in}
use Rattle.http_message.specs.Taken.{RequestState}
use Rattle.http_message.specs.declared.last_request.LastRequest.{LastRequest}

-- the last request
abbrev pub last_message : Contents → LastRequest → Message
last_message buffers last_request = message_in (take last_request.text buffers.text) buffers.spans last_request.parts (take last_request.body buffers.body)

-- its parts lie in the buffers
pub record IsLastRequest (buffers : Contents) (last_request : LastRequest) : Type 0 where
  pub text_within : last_request.text ≤ length buffers.text
  pub parts : IsRequestWithin (take last_request.text buffers.text) buffers.spans last_request.parts
  pub body_within : last_request.body ≤ length buffers.body

-- what contracts see
abbrev pub state_of : List ℕ → ℕ → Message → RequestState
state_of bytes offset message = record { bytes = bytes; offset = offset; message = message }
