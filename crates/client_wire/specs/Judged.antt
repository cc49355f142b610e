-- Internal. What the text of a head is.
use Rattle.std.specs.Prelude.{◌≡◌, ℕ, ◌≤◌, List, length, map, take, Result, Ok, Err}
use Rattle.httparse.specs.Spans.{header_bytes, IsResponseWithin}
use Rattle.httparse.specs.declared.spans.HeaderSpan.{HeaderSpan}
use Rattle.httparse.specs.declared.spans.ResponseSpans.{ResponseSpans}
use Rattle.http_message.specs.Fields.{Pair}
use Rattle.client_wire.specs.Numbers.{body_limit}
use Rattle.client_wire.specs.ReplyFields.{parts_of, verdict_of}
use Rattle.client_wire.specs.ReplyHead.{IsNoReplyHead, IsReplyHead}
use Rattle.client_wire.specs.declared.judge.Accepted.{Accepted}
use Rattle.client_wire.specs.declared.judge.HeadRefusal.{HeadRefusal}
use Rattle.client_wire.specs.declared.judge.HeadRefusal.TheVariants as head
use Rattle.client_wire.specs.declared.judge.Verdict.{Verdict}
use Rattle.client_wire.specs.declared.judge.Verdict.TheVariants.{RefusedAt, Unsized, Sized}

-- The spans say where the parts of the head that the text is are in it.
pub record IsHeadAt (text : List ℕ) (spans : List HeaderSpan) (parts : ResponseSpans) : Type 0 where
  pub within : IsResponseWithin text spans parts
  pub head : IsReplyHead text parts.code (map (header_bytes text) (take parts.headers spans))

-- the place of a refused field is within the text, and the length of a body within its limit
abbrev pub IsBounded : List ℕ → Verdict → Type 0
IsBounded text (RefusedAt at) = at ≤ length text
IsBounded text Unsized = Unit {0}
IsBounded text (Sized size) = size ≤ body_limit

-- The text is a head that is taken.
pub record IsAcceptedText (text : List ℕ) (accepted : Accepted) : Type 0 where
  pub status : ℕ
  pub fields : List Pair
  pub head : IsReplyHead text status fields
  pub verdict_is : verdict_of text status fields ≡ Sized accepted.size
  pub parts_are : accepted.parts ≡ parts_of status fields
  pub limit : accepted.size ≤ body_limit

-- The text is a head with a field that is refused.
pub record IsRefusedText (text : List ℕ) (at : ℕ) : Type 0 where
  pub status : ℕ
  pub fields : List Pair
  pub head : IsReplyHead text status fields
  pub verdict_is : verdict_of text status fields ≡ RefusedAt at
  pub within : at ≤ length text

-- The text is a head without the length of its body.
pub record IsUnsizedText (text : List ℕ) : Type 0 where
  pub status : ℕ
  pub fields : List Pair
  pub head : IsReplyHead text status fields
  pub verdict_is : verdict_of text status fields ≡ Unsized

-- what the text of a head is
abbrev pub IsReadText : List ℕ → Result Accepted HeadRefusal → Type 0
IsReadText text (Ok accepted) = IsAcceptedText text accepted
IsReadText text (Err head.NoHead) = IsNoReplyHead text
IsReadText text (Err head.Unsized) = IsUnsizedText text
IsReadText text (Err (head.At at)) = IsRefusedText text at
