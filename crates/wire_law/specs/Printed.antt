-- Internal. What a client reads of the replies that the server prints.
use Rattle.std.specs.Prelude.{◌≡◌, ◌⊎◌, ℕ, ◌<◌, ◌≤◌, Bool, true, false, ◌==◌, nat_lt, if◌then◌else◌, List, ◌++◌, length, Option, Some, None, Result, Ok, Err}
use Rattle.q_outside.specs.Ends.{End}
use Rattle.client_model.specs.declared.reply.Reply.{Reply}
use Rattle.http_front.specs.Date.{IsDateOf}
use Rattle.http_front.specs.Reply.{head_fields, head_text}
use Rattle.http_front.specs.declared.head.Head.{Head}
use Rattle.client_wire.specs.Numbers.{body_limit}
use Rattle.client_wire.specs.ReplyFields.{parts_of, verdict_of}
use Rattle.client_wire.specs.Taking.{IsAccepted, TakesReply, lacks_of, reply_with}
use Rattle.client_wire.specs.declared.judge.Verdict.TheVariants.{Sized}
use Rattle.client_wire.specs.declared.parts.ReplyParts.{ReplyParts}
use Rattle.client_wire.specs.declared.refusal.Lacks.{Lacks}
use Rattle.client_wire.specs.declared.refusal.WireRefusal.{WireRefusal}
use Rattle.client_wire.specs.declared.refusal.WireRefusal.TheVariants as wire

-- the date that a client reads of a head whose date is this second
abbrev pub printed_date : Bool → ℕ → Option ℕ
printed_date true seconds = Some seconds
printed_date false seconds = None

-- the parts that a client reads of such a head
abbrev pub printed_parts : Head → ℕ → ReplyParts
printed_parts h seconds = record {
  status = h.status;
  commit = h.commit;
  version = h.version;
  until = h.until;
  date = printed_date h.dated seconds;
  max_age = if nat_lt 0 h.ttl then Some h.ttl else None;
  tag = h.tag;
}

-- the length of the body that a client reads of a head: none follows a 304 (RFC 9110, section 15.4.5)
abbrev pub printed_size : Head → Option ℕ
printed_size h = if h.status == 304 then Some 0 else h.length

-- A body of this length follows the head, within a client's limit, and the date is the text of this second.
pub record IsPrinted (h : Head) (seconds : ℕ) (date : List ℕ) (size : ℕ) : Type 0 where
  pub dated : IsDateOf seconds date
  pub size_is : printed_size h ≡ Some size
  pub limit : size ≤ body_limit

-- A client takes the fields of the head, and reads of them what was printed. The text matters only where one is refused.
pub record IsReadBack (h : Head) (seconds : ℕ) (date : List ℕ) (size : ℕ) : Type 0 where
  pub parts_are : parts_of h.status (head_fields h date) ≡ printed_parts h seconds
  pub verdict_is : (text : List ℕ) → verdict_of text h.status (head_fields h date) ≡ Sized size

-- the fields of the head are read as what they were printed of
abbrev pub FieldsAreRead : Head → Type 0
FieldsAreRead h = (seconds : ℕ) (date : List ℕ) (size : ℕ) → IsPrinted h seconds date size → IsReadBack h seconds date size

-- the text of the head
abbrev pub printed_head : Head → List ℕ → List ℕ
printed_head h date = head_text h.status (head_fields h date)

-- the text of the head is one that is taken, by its last byte and no earlier, as what it was printed of
abbrev pub HeadIsTaken : Head → Type 0
HeadIsTaken h =
    (seconds : ℕ) (date : List ℕ) (size : ℕ) → IsPrinted h seconds date size
    → IsAccepted (printed_head h date) (printed_parts h seconds) size

-- The reply was read, and the source has left what follows it.
pub record IsReplyRead
    (h : Head) (seconds : ℕ) (body rest : List ℕ) (source' : End) (result : Result (Reply × Lacks) WireRefusal) : Type 0 where
  pub reply_is : result ≡ Ok (reply_with (printed_parts h seconds) body, lacks_of (printed_parts h seconds))
  pub left : source'.bytes ≡ Some rest

-- from a source that begins with the head and a body and does not fail, that reply is read, and what follows is left;
-- unless memory runs out
abbrev pub ReplyIsRead : Head → Type 0
ReplyIsRead h =
    (seconds : ℕ) (date body rest : List ℕ) (source source' : End) (result : Result (Reply × Lacks) WireRefusal)
    → IsPrinted h seconds date (length body) → source.bytes ≡ Some (printed_head h date ++ (body ++ rest))
    → source'.faults ≡ source.faults → TakesReply source source' result
    → (result ≡ Err wire.Memory) ⊎ IsReplyRead h seconds body rest source' result

-- of a source that shows no more than a part of the head and a body, ends there and does not fail, no reply is read:
-- the answer is how many bytes came, or that memory ran out
abbrev pub PartIsTruncated : Head → Type 0
PartIsTruncated h =
    (seconds : ℕ) (date body part more : List ℕ) (source source' : End) (result : Result (Reply × Lacks) WireRefusal)
    → IsPrinted h seconds date (length body) → part ++ more ≡ printed_head h date ++ body → 0 < length more
    → source.bytes ≡ Some part → source'.faults ≡ source.faults → TakesReply source source' result
    → (result ≡ Err wire.Memory) ⊎ (result ≡ Err (wire.Truncated (length part)))
