-- The text of what the server answers is that of a head and of the body that it announces.
use Rattle.std.proofs.Common.{◌≡◌, ℕ, ◌-◌, ◌≤◌, ◌^◌, min, Bool, true, false, List, ◌++◌, length, refl, ◌∙◌, ap, subst, arith, append_assoc}
use Rattle.std.specs.Prelude.{Some}
use Rattle.hub_model.specs.declared.entry.Answer.{Answer}
use Rattle.hub_model.specs.declared.entry.Found.TheVariants.{Missing, At}
use Rattle.hub_model.specs.declared.entry.Outcome.{Outcome}
use Rattle.hub_model.specs.declared.entry.Outcome.TheVariants.{Whole, Same, Absent}
use Rattle.hub_model.specs.declared.entry.Written.{Written}
use Rattle.hub_model.specs.declared.entry.Written.TheVariants.{Done, Precondition, Full}
use Rattle.http_message.specs.declared.refusal.FramingRefusal.TheVariants.{BadHead, HeadTooLarge, BadLength, BadCoding, BodyTooLarge}
use Rattle.http_front.specs.ReplyText.{body_of, clock_of, given_body, head_of, is_asked, outcome_body, read_head, written_head}
use Rattle.http_front.specs.declared.refused.DocumentReason.TheVariants.{NotJson, NotObject, TooDeep, NotWhole}
use Rattle.http_front.specs.declared.refused.Refused.{Refused}
use Rattle.http_front.specs.declared.refused.Refused.TheVariants.{Framing, BadHost, Misdirected, BadTarget, NoRoute, BadMethod, NoLength, BadEncoding, BadTag, BadFilter, BadDocument}
use Rattle.http_front.specs.declared.shape.Shape.{Shape}
use Rattle.http_front.specs.declared.told.Told.{Told}
use Rattle.http_front.specs.declared.told.Told.TheVariants.{Write, Read, Match, Dropped, Page, Count, Purges, Refusal, Memory, Unkept}
use Rattle.client_wire.specs.Numbers.{body_limit}
use Rattle.wire_law.specs.Printed.{IsPrinted, ReplyIsRead, printed_head, printed_size}
use Rattle.wire_law.specs.Told.{ToldIsRead}

written_sized : (put : Bool) (written : Written) (size : ℕ) (close : Bool) → printed_size (written_head put written size close) ≡ Some size
written_sized true (Done commit Missing clock) size close = refl
written_sized true (Done commit (At version) clock) size close = refl
written_sized false (Done commit before clock) size close = refl
written_sized put (Precondition found clock) size close = refl
written_sized put (Full bytes clock) size close = refl

read_sized : (answer : Answer) (outcome : Outcome) (close : Bool)
    → printed_size (read_head answer outcome (length (outcome_body outcome)) close) ≡ Some (length (outcome_body outcome))
read_sized answer (Whole text version) close = refl
read_sized answer (Same tag version) close = refl
read_sized answer Absent close = refl

-- no refusal has the status 304, and none has no length but that of a method where a page asks
refusal_sized : (shape : Shape) (refused : Refused) (clock size : ℕ) (close : Bool) → shape.asks ≡ false → printed_size (head_of shape (Refusal refused clock) size close) ≡ Some size
refusal_sized shape (Framing BadHead) clock size close quiet = rw quiet refl
refusal_sized shape (Framing HeadTooLarge) clock size close quiet = rw quiet refl
refusal_sized shape (Framing BadLength) clock size close quiet = rw quiet refl
refusal_sized shape (Framing BadCoding) clock size close quiet = rw quiet refl
refusal_sized shape (Framing BodyTooLarge) clock size close quiet = rw quiet refl
refusal_sized shape BadHost clock size close quiet = rw quiet refl
refusal_sized shape Misdirected clock size close quiet = rw quiet refl
refusal_sized shape BadTarget clock size close quiet = rw quiet refl
refusal_sized shape NoRoute clock size close quiet = rw quiet refl
refusal_sized shape (BadMethod allow) clock size close quiet = rw quiet refl
refusal_sized shape NoLength clock size close quiet = rw quiet refl
refusal_sized shape BadEncoding clock size close quiet = rw quiet refl
refusal_sized shape BadTag clock size close quiet = rw quiet refl
refusal_sized shape (BadFilter r) clock size close quiet = rw quiet refl
refusal_sized shape (BadDocument NotJson) clock size close quiet = rw quiet refl
refusal_sized shape (BadDocument NotObject) clock size close quiet = rw quiet refl
refusal_sized shape (BadDocument TooDeep) clock size close quiet = rw quiet refl
refusal_sized shape (BadDocument NotWhole) clock size close quiet = rw quiet refl

-- the length that a head announces is that of the body
told_sized : (shape : Shape) (told : Told) (page : List ℕ) (close : Bool) → shape.asks ≡ false → length (body_of told page) ≤ body_limit
    → printed_size (head_of shape told (length (body_of told page)) close) ≡ Some (length (body_of told page))
told_sized shape (Write written) page close quiet limit = written_sized shape.put written (length (body_of (Write written) page)) close
told_sized shape (Read answer) page close quiet limit = read_sized answer answer.result close
told_sized shape (Match matched) page close quiet limit = refl
told_sized shape (Dropped dropped) page close quiet limit = refl
told_sized shape (Page clock) page close quiet limit = refl
told_sized shape (Count stats) page close quiet limit = refl
told_sized shape (Purges reply) page close quiet limit =
    let size = length (body_of (Purges reply) page) in
    let same : min size (2 ^ 64 - 1) ≡ size = omega (arith, limit) in
    ap (λ (n : ℕ). Some n) same
told_sized shape (Refusal refused clock) page close quiet limit = refusal_sized shape refused clock (length (body_of (Refusal refused clock) page)) close quiet
told_sized shape Memory page close quiet limit = refl
told_sized shape Unkept page close quiet limit = refl

not_asked : (shape : Shape) (told : Told) → shape.asks ≡ false → is_asked shape told ≡ false
not_asked shape (Write written) quiet = refl
not_asked shape (Read answer) quiet = refl
not_asked shape (Match matched) quiet = refl
not_asked shape (Dropped dropped) quiet = refl
not_asked shape (Page clock) quiet = refl
not_asked shape (Count stats) quiet = refl
not_asked shape (Purges reply) quiet = refl
not_asked shape (Refusal refused clock) quiet = rw quiet refl
not_asked shape Memory quiet = refl
not_asked shape Unkept quiet = refl

body_given : (shape : Shape) (told : Told) (body : List ℕ) → shape.head ≡ false → shape.asks ≡ false → given_body shape told body ≡ body
body_given shape told body get quiet = rw (not_asked shape told quiet, get) refl

-- what the server answers, the client reads
pub told_read : (shape : Shape) (told : Told) (size : ℕ) (close : Bool) → ReplyIsRead (head_of shape told size close) → ToldIsRead shape told size close
told_read shape told size close law page text rest source source' result get quiet size_is limit is shown none took =
    let body = body_of told page in
    let head = head_of shape told size close in
    let sized : printed_size head ≡ Some (length body) =
    subst (λ (n : ℕ). printed_size (head_of shape told n close) ≡ Some (length body)) size_is (told_sized shape told page close quiet (omega (arith, size_is, limit))) in
    let given : text ≡ printed_head head is.date ++ body =
    is.text_is ∙ ap (λ (n : ℕ). printed_head (head_of shape told n close) is.date ++ given_body shape told body) size_is
    ∙ ap (λ (b : List ℕ). printed_head head is.date ++ b) (body_given shape told body get quiet) in
    let bytes : source.bytes ≡ Some (printed_head head is.date ++ (body ++ rest)) =
    shown ∙ ap (λ (t : List ℕ). Some (t ++ rest)) given ∙ ap Some (append_assoc (printed_head head is.date) body rest) in
    let printed : IsPrinted head (clock_of told) is.date (length body) = record { dated = is.dated; size_is = sized; limit = omega (arith, size_is, limit) } in
    law (clock_of told) is.date body rest source source' result printed bytes none took
