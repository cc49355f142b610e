-- Internal. What was taken from a source for a head or for a body.
use Rattle.std.specs.Prelude.{◌≡◌, ℕ, ◌<◌, ◌≤◌, List, length, Result, Ok, Err}
use Rattle.q_outside.specs.Ends.{End, IsEnded, TookBytes}
use Rattle.http_message.specs.Limits.{head_limit}
use Rattle.http_message.specs.Text.{Unfinished, beginning_of}
use Rattle.client_wire.specs.Heads.{IsCut}
use Rattle.client_wire.specs.Numbers.{body_limit}
use Rattle.client_wire.specs.Taking.{IsAccepted, IsRefused, TookSuch}
use Rattle.client_wire.specs.declared.reply.ContentRefusal.{ContentRefusal}
use Rattle.client_wire.specs.declared.reply.ContentRefusal.TheVariants as content
use Rattle.client_wire.specs.declared.reply.Front.{Front}
use Rattle.client_wire.specs.declared.refusal.WireRefusal.{WireRefusal}
use Rattle.client_wire.specs.declared.refusal.WireRefusal.TheVariants as wire

-- A head that is taken was taken from a source.
pub record TookFront (source source' : End) (found : Front) : Type 0 where
  pub front : List ℕ
  pub took : TookBytes source source' front
  pub accepted : IsAccepted front found.parts found.size
  pub length_is : found.length ≡ length front
  pub short : found.length ≤ head_limit
  pub limit : found.size ≤ body_limit

-- what was taken from a source for a head
abbrev pub TakesFront : (source source' : End) → Result Front WireRefusal → Type 0
TakesFront source source' (Ok found) = TookFront source source' found
TakesFront source source' (Err (wire.BadReply place)) = TookSuch source source' (λ got. IsRefused got place)
TakesFront source source' (Err (wire.Truncated taken)) =
    TookSuch source source' (λ got. (beginning_of got ≡ Unfinished) × (taken ≡ length got)) × IsEnded source'.bytes
TakesFront source source' (Err wire.ReadFault) =
    TookSuch source source' (λ got. beginning_of got ≡ Unfinished) × (source.faults < source'.faults)
TakesFront source source' (Err wire.Memory) = ⊥

-- what was taken from a source for a body of this length
abbrev pub TakesContent : (source source' : End) → ℕ → Result (List ℕ) ContentRefusal → Type 0
TakesContent source source' size (Ok body) = (length body ≡ size) × TookBytes source source' body
TakesContent source source' size (Err (content.Short short)) =
    TookSuch source source' (λ part. (length part ≡ short.taken) × (short.taken < size)) × IsCut source source' short.cut
TakesContent source source' size (Err content.Memory) = TookSuch source source' (λ part. length part ≤ size)
