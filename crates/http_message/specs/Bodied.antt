-- Internal. How a body of some framing came.
use Rattle.std.specs.Prelude.{◌≡◌, ℕ, ◌≤◌, List, length, take}
use Rattle.httparse.specs.Grammar.{RequestHead}
use Rattle.http_message.specs.Framing.{expects_continue}
use Rattle.http_message.specs.Item.{Item, request, unframed, is_head_request, IsFramed}
use Rattle.http_message.specs.Limits.{coding_limit}
use Rattle.http_message.specs.Message.{message_of}
use Rattle.http_message.specs.declared.framing.Framing.{Framing}
use Rattle.http_message.specs.declared.coding.Coded.{Coded}
use Rattle.http_message.specs.declared.coding.Coded.TheVariants.{Whole, Broken}

-- The bytes are a body of this framing and this length, and give this item after any head.
pub record IsBodied (framing : Framing) (item : RequestHead → Item) (total : ℕ) (bytes : List ℕ) : Type 0 where
  pub framed : (head : RequestHead) → IsFramed head framing bytes (item head)
  pub size_is : length bytes ≡ total
  pub limit : total ≤ coding_limit

-- how a body of this framing came, into the start of this buffer
abbrev pub IsBody : Framing → (body : List ℕ) → Coded → List ℕ → Type 0
IsBody framing body (Whole size total) bytes =
    (size ≤ length body) × IsBodied framing (λ head. request (message_of head (take size body))) total bytes
IsBody framing body (Broken refused total) bytes =
    IsBodied framing (λ head. unframed refused (expects_continue head framing) (is_head_request head)) total bytes
