-- Believed. What `next_request` answers.
use Rattle.std.specs.Prelude.{◌≡◌, ℕ, ◌+◌, ◌<◌, ◌≤◌, Bool, true, false, List, [], ◌++◌, length, if◌then◌else◌, codes}
use Rattle.q_outside.specs.Ends.{End, IsEnded, TookBytes, GaveBytes, GavePart}
use Rattle.http_message.specs.Item.{Item, request, unframed, continues, IsItem, IsOpen, ExpectsContinue}
pub use Rattle.http_message.specs.Limits.{item_limit}
use Rattle.http_message.specs.Message.{Message}
use Rattle.http_message.specs.Text.{is_blank}
use Rattle.http_message.specs.declared.taken.Taken.{Taken}
use Rattle.http_message.specs.declared.taken.Taken.TheVariants.{Request, Framing, InputEnd, Truncated, ReadFault, WriteFault}

-- What contracts see of the buffers for a connection's requests.
pub record RequestState : Type 0 where
  -- the bytes that were taken and are not used yet
  pub bytes : List ℕ
  -- the number of bytes that were used since the buffers were cleared
  pub offset : ℕ
  -- the last request
  pub message : Message

-- what is given before the reply to an item that expects it (RFC 9110, section 15.2.1)
abbrev pub continue_text : List ℕ
continue_text = codes "HTTP/1.1 100 Continue\r\n\r\n"

-- where it is expected
abbrev pub continue_where : Bool → List ℕ
continue_where expected = if expected then continue_text else []

-- Of the bytes that were held and those that were taken, these are used, and the others are held.
pub record Uses (source source' : End) (buffer buffer' : RequestState) (used : List ℕ) : Type 0 where
  pub got : List ℕ
  pub took : TookBytes source source' got
  pub bytes : buffer.bytes ++ got ≡ used ++ buffer'.bytes
  pub offset : buffer'.offset ≡ buffer.offset + length used
  pub limit : length used ≤ item_limit

-- The next item was taken, and the sink was given what begins its text.
pub record TakesItem (source source' sink sink' : End) (buffer buffer' : RequestState) (item : Item) : Type 0 where
  pub used : List ℕ
  pub uses : Uses source source' buffer buffer' used
  pub is : IsItem used item
  pub some : 0 < length used
  pub gave : GaveBytes sink sink' (continue_where (continues item))

-- No item is whole in what is left and was taken, and the sink was given what begins its text.
pub record IsIncomplete (source source' sink sink' : End) (buffer : RequestState) (blank : Bool) : Type 0 where
  pub got : List ℕ
  pub took : TookBytes source source' got
  pub expected : Bool
  pub is_open : IsOpen (buffer.bytes ++ got) expected
  pub gave : GaveBytes sink sink' (continue_where expected)
  pub blank_is : is_blank (buffer.bytes ++ got) ≡ blank

-- A head that expects `100 Continue` has come, and the sink failed inside that text.
pub record ContinueFails (source source' sink sink' : End) (buffer : RequestState) : Type 0 where
  pub got : List ℕ
  pub took : TookBytes source source' got
  pub expected : ExpectsContinue (buffer.bytes ++ got)
  pub gave : GavePart sink sink' continue_text

-- by the answer: what was taken from the source and given to the sink, and why no item is there
abbrev pub IsTaken : (source source' sink sink' : End) → (buffer buffer' : RequestState) → Taken → Type 0
IsTaken source source' sink sink' buffer buffer' (Request offset) =
    TakesItem source source' sink sink' buffer buffer' (request buffer'.message) × (offset ≡ buffer.offset)
IsTaken source source' sink sink' buffer buffer' (Framing refused offset head) =
    (expected : Bool) × TakesItem source source' sink sink' buffer buffer' (unframed refused expected head)
    × (offset ≡ buffer.offset)
IsTaken source source' sink sink' buffer buffer' InputEnd =
    IsEnded source'.bytes × IsIncomplete source source' sink sink' buffer true
IsTaken source source' sink sink' buffer buffer' Truncated =
    IsEnded source'.bytes × IsIncomplete source source' sink sink' buffer false
IsTaken source source' sink sink' buffer buffer' ReadFault =
    (source.faults < source'.faults) × ((blank : Bool) × IsIncomplete source source' sink sink' buffer blank)
IsTaken source source' sink sink' buffer buffer' WriteFault = ContinueFails source source' sink sink' buffer

-- where the bytes that are held begin with a whole item, nothing is taken from the source
abbrev pub WaitsForNone : (source source' : End) → (held : List ℕ) → Type 0
WaitsForNone source source' held =
    (piece rest : List ℕ) (item : Item) → IsItem piece item → held ≡ piece ++ rest → source' ≡ source
