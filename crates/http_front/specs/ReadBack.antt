-- Internal. Replies are read back as what they are.
use Rattle.std.specs.Prelude.{◌≡◌, ℕ, ◌++◌, Bool, true, false, List, map, Some, Ok}
use Rattle.httparse.specs.Grammar.{ResponseHead, ReadsResponse, status_code}
use Rattle.httparse.specs.Spans.{name_and_value}
use Rattle.http1.specs.Fields.{Header, known_fields}
use Rattle.http1.specs.Framing.{is_bodiless_status, response_framing}
use Rattle.http1.specs.declared.framing.Framing.TheVariants.{Length, NoBody}
use Rattle.http1.specs.declared.framing.MethodKind.TheVariants.{Other}
use Rattle.http_front.specs.Date.{IsDateOf}
use Rattle.http_front.specs.Reply.{head_text, head_fields}
use Rattle.http_front.specs.ReplyText.{IsReplyText}
use Rattle.http_front.specs.declared.head.Head.{Head}
use Rattle.http_front.specs.declared.shape.Shape.{Shape}
use Rattle.http_front.specs.declared.told.Told.{Told}

-- By the grammar of `httparse` the bytes begin with a head of this status and these fields, and the rest follows it.
pub record IsRead (bytes : List ℕ) (status : ℕ) (fields : List Header) (rest : List ℕ) : Type 0 where
  pub head : ResponseHead
  pub reads : ReadsResponse bytes head rest
  pub status_is : status_code head ≡ status
  pub fields_are : map name_and_value head.fields ≡ fields

-- a head with a date of a moment is read back, whatever follows it
abbrev pub ReadsBack : Head → Type 0
ReadsBack head =
    (seconds : ℕ) (date rest : List ℕ) → IsDateOf seconds date
    → IsRead (head_text head.status (head_fields head date) ++ rest) head.status (head_fields head date) rest

-- a head with a length frames just this number of bytes (RFC 9112, section 6.3), but for a status without a body
abbrev pub FramesItsBody : Head → Type 0
FramesItsBody head =
    (date : List ℕ) (size : ℕ) → head.length ≡ Some size → is_bodiless_status head.status ≡ false
    → response_framing Other head.status 1 (known_fields (head_fields head date)) ≡ Ok (Length size)

-- a head whose status has no body ends its reply, whatever its fields say
abbrev pub EndsWithItsHead : Head → Type 0
EndsWithItsHead head =
    (date : List ℕ) → is_bodiless_status head.status ≡ true
    → response_framing Other head.status 1 (known_fields (head_fields head date)) ≡ Ok NoBody

-- bytes begin with one head alone
abbrev pub OneReplyIsRead : Type 0
OneReplyIsRead =
    (bytes : List ℕ) (status other : ℕ) (fields others : List Header) (rest more : List ℕ)
    → IsRead bytes status fields rest → IsRead bytes other others more
    → (status ≡ other) × (fields ≡ others) × (rest ≡ more)

-- what is answered has one text
abbrev pub RepliesHaveOneText : Type 0
RepliesHaveOneText =
    (shape : Shape) (told : Told) (page : List ℕ) (close : Bool) (text other : List ℕ)
    → IsReplyText shape told page close text → IsReplyText shape told page close other → text ≡ other
