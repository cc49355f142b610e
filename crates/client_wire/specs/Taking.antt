-- Internal. What a client takes from a source for a reply, and what it is read as (RFC 9112, sections 2, 4 and 6).
use Rattle.std.specs.Prelude.{◌≡◌, ◌≢◌, ◌⊎◌, ℕ, ◌+◌, ◌<◌, ◌≤◌, List, ◌++◌, length, take, Result, Ok, Err, is_none, min, unwrap_or}
use Rattle.q_base.specs.Moment.{greatest_moment}
use Rattle.q_outside.specs.Ends.{End, IsEnded, TookBytes}
use Rattle.http_message.specs.Fields.{Pair}
use Rattle.http_message.specs.Text.{BareCr, Text, TooLarge, Unfinished, beginning_of, empty_lines_before_head}
use Rattle.client_model.specs.declared.reply.Reply.{Reply}
use Rattle.client_wire.specs.ReplyFields.{parts_of, verdict_of}
use Rattle.client_wire.specs.ReplyHead.{IsReplyHead, IsNoReplyHead}
use Rattle.client_wire.specs.declared.judge.Verdict.TheVariants.{RefusedAt, Unsized, Sized}
use Rattle.client_wire.specs.declared.parts.ReplyParts.{ReplyParts}
use Rattle.client_wire.specs.declared.refusal.Lacks.{Lacks}
use Rattle.client_wire.specs.declared.refusal.WireRefusal.{WireRefusal}
use Rattle.client_wire.specs.declared.refusal.WireRefusal.TheVariants as wire

-- the reply of these parts and this body: an absent commit or date is 0, an absent until is the date; no date is above the greatest moment
abbrev pub reply_with : ReplyParts → List ℕ → Reply
reply_with parts body = record {
  status = parts.status;
  commit = unwrap_or parts.commit 0;
  version = parts.version;
  until = unwrap_or parts.until (unwrap_or parts.date 0);
  date = min (unwrap_or parts.date 0) greatest_moment;
  max_age = parts.max_age;
  tag = parts.tag;
  body = body;
}

-- which of the fields that a read needs are absent
abbrev pub lacks_of : ReplyParts → Lacks
lacks_of parts = record { commit = is_none parts.commit; until = is_none parts.until }

-- The bytes show what a stream begins with, and no fewer of them do.
pub record IsFront (front : List ℕ) : Type 0 where
  pub shown : beginning_of front ≢ Unfinished
  pub fewer : (n : ℕ) → n < length front → beginning_of (take n front) ≡ Unfinished

-- The bytes are a head, and no byte more, that is taken: a body of this length follows.
pub record IsAccepted (front : List ℕ) (parts : ReplyParts) (size : ℕ) : Type 0 where
  pub is_front : IsFront front
  pub text : List ℕ
  pub begins : beginning_of front ≡ Text text
  pub status : ℕ
  pub fields : List Pair
  pub head : IsReplyHead text status fields
  pub verdict_is : verdict_of text status fields ≡ Sized size
  pub parts_are : parts ≡ parts_of status fields

-- The bytes are a head with a field that is refused, whose value begins at this place.
pub record IsRefusedField (front : List ℕ) (place : ℕ) : Type 0 where
  pub text : List ℕ
  pub begins : beginning_of front ≡ Text text
  pub status : ℕ
  pub fields : List Pair
  pub head : IsReplyHead text status fields
  pub at : ℕ
  pub verdict_is : verdict_of text status fields ≡ RefusedAt at
  pub place_is : place ≡ empty_lines_before_head front + at

-- The bytes are a head without the length of the body that follows.
pub record IsUnsized (front : List ℕ) : Type 0 where
  pub text : List ℕ
  pub begins : beginning_of front ≡ Text text
  pub status : ℕ
  pub fields : List Pair
  pub head : IsReplyHead text status fields
  pub verdict_is : verdict_of text status fields ≡ Unsized

-- The bytes begin with the text of a head, which is none of a reply.
pub record IsUnreadable (front : List ℕ) : Type 0 where
  pub text : List ℕ
  pub begins : beginning_of front ≡ Text text
  pub none : IsNoReplyHead text

-- the head is refused as a whole: it is not complete in its limit, is none, or lacks the length
abbrev pub IsRefusedWhole : List ℕ → Type 0
IsRefusedWhole front = ((beginning_of front ≡ BareCr) ⊎ (beginning_of front ≡ TooLarge)) ⊎ (IsUnreadable front ⊎ IsUnsized front)

-- the bytes are a head, and no byte more, that is refused at this place
abbrev pub IsRefused : List ℕ → ℕ → Type 0
IsRefused front place = IsFront front × ((IsRefusedWhole front × (place ≡ 0)) ⊎ IsRefusedField front place)

-- The bytes are a head that is taken and a part of its body.
pub record IsPartOfBody (bytes : List ℕ) : Type 0 where
  pub front : List ℕ
  pub part : List ℕ
  pub parts : ReplyParts
  pub size : ℕ
  pub accepted : IsAccepted front parts size
  pub fits : length part ≤ size
  pub bytes_are : bytes ≡ front ++ part

-- the bytes go no further than a reply does
abbrev pub IsWithinReply : List ℕ → Type 0
IsWithinReply bytes = (beginning_of bytes ≡ Unfinished) ⊎ IsPartOfBody bytes

-- The same, and the reply goes further.
pub record IsShortBody (bytes : List ℕ) : Type 0 where
  pub front : List ℕ
  pub part : List ℕ
  pub parts : ReplyParts
  pub size : ℕ
  pub accepted : IsAccepted front parts size
  pub short : length part < size
  pub bytes_are : bytes ≡ front ++ part

-- the bytes are a beginning of a reply that is not whole
abbrev pub IsUnfinished : List ℕ → Type 0
IsUnfinished bytes = (beginning_of bytes ≡ Unfinished) ⊎ IsShortBody bytes

-- These bytes of a source are a reply.
pub record TookReply (source source' : End) (reply : Reply) (lacks : Lacks) : Type 0 where
  pub front : List ℕ
  pub body : List ℕ
  pub parts : ReplyParts
  pub accepted : IsAccepted front parts (length body)
  pub took : TookBytes source source' (front ++ body)
  pub reply_is : reply ≡ reply_with parts body
  pub lacks_is : lacks ≡ lacks_of parts

-- These bytes of a source are so.
pub record TookSuch (source source' : End) (is_so : List ℕ → Type 0) : Type 0 where
  pub got : List ℕ
  pub took : TookBytes source source' got
  pub says : is_so got

-- what was taken from a source for a reply, and no byte more, and how it is answered
abbrev pub TakesReply : (source source' : End) → Result (Reply × Lacks) WireRefusal → Type 0
TakesReply source source' (Ok (reply, lacks)) = TookReply source source' reply lacks
TakesReply source source' (Err (wire.BadReply place)) = TookSuch source source' (λ got. IsRefused got place)
TakesReply source source' (Err (wire.Truncated taken)) =
    TookSuch source source' (λ got. IsUnfinished got × (taken ≡ length got)) × IsEnded source'.bytes
TakesReply source source' (Err wire.ReadFault) = TookSuch source source' IsUnfinished × (source.faults < source'.faults)
TakesReply source source' (Err wire.Memory) = TookSuch source source' IsWithinReply
