-- Internal. What a client reads of the replies that the server gives to requests.
use Rattle.std.specs.Prelude.{◌≡◌, ◌⊎◌, ℕ, ◌≤◌, Bool, false, List, ◌++◌, length, Some, Result, Err}
use Rattle.q_outside.specs.Ends.{End}
use Rattle.client_model.specs.declared.reply.Reply.{Reply}
use Rattle.http_front.specs.ReplyText.{IsReplyText, body_of, clock_of, head_of}
use Rattle.http_front.specs.declared.shape.Shape.{Shape}
use Rattle.http_front.specs.declared.told.Told.{Told}
use Rattle.client_wire.specs.Numbers.{body_limit}
use Rattle.client_wire.specs.Taking.{TakesReply}
use Rattle.client_wire.specs.declared.refusal.Lacks.{Lacks}
use Rattle.client_wire.specs.declared.refusal.WireRefusal.{WireRefusal}
use Rattle.client_wire.specs.declared.refusal.WireRefusal.TheVariants as wire
use Rattle.wire_law.specs.Printed.{IsReplyRead}

-- where the request is no HEAD, and no page asks by OPTIONS what it may send: from a source that begins with the text of what is answered and does not fail, that reply is read, and what follows is left;
-- unless memory runs out
abbrev pub ToldIsRead : Shape → Told → (size : ℕ) → (close : Bool) → Type 0
ToldIsRead shape told size close =
    (page text rest : List ℕ) (source source' : End) (result : Result (Reply × Lacks) WireRefusal)
    → shape.head ≡ false → shape.asks ≡ false → length (body_of told page) ≡ size → size ≤ body_limit
    → IsReplyText shape told page close text → source.bytes ≡ Some (text ++ rest)
    → source'.faults ≡ source.faults → TakesReply source source' result
    → (result ≡ Err wire.Memory)
    ⊎ IsReplyRead (head_of shape told size close) (clock_of told) (body_of told page) rest source' result
