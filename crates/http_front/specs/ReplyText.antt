-- Believed. The reply to each request: its status, its fields and its body.
use Rattle.std.specs.Prelude.{◌≡◌, ℕ, ◌+◌, ◌-◌, ◌^◌, max, min, Bool, true, false, ◌&&◌, ◌||◌, List, [], ◌++◌, length, Option, Some, None, if◌then◌else◌, codes, decimal}
use Rattle.std.specs.List.{join_by}
use Rattle.json.specs.Print.{quoted}
use Rattle.hub_model.specs.Reply.{PurgesTold, told_of}
use Rattle.hub_model.specs.declared.entry.Answer.{Answer}
use Rattle.hub_model.specs.declared.entry.Found.{Found}
use Rattle.hub_model.specs.declared.entry.Found.TheVariants.{Missing, At}
use Rattle.hub_model.specs.declared.entry.Outcome.{Outcome}
use Rattle.hub_model.specs.declared.entry.Outcome.TheVariants.{Whole, Same, Absent}
use Rattle.hub_model.specs.declared.entry.Stats.{Stats}
use Rattle.hub_model.specs.declared.entry.Written.{Written}
use Rattle.hub_model.specs.declared.entry.Written.TheVariants.{Done, Precondition, Full}
use Rattle.http_message.specs.declared.refusal.FramingRefusal.TheVariants.{BadHead, HeadTooLarge, BadLength, BadCoding, BodyTooLarge}
use Rattle.http_front.specs.Date.{IsDateOf}
use Rattle.http_front.specs.Origins.{LeaveTold, no_leave}
use Rattle.http_front.specs.Reply.{Reply, head_text, head_fields, reply_text}
use Rattle.http_front.specs.declared.head.Head.{Head}
use Rattle.http_front.specs.declared.head.MediaType.TheVariants.{Json, OctetStream}
use Rattle.http_front.specs.declared.refused.Allow.{Allow}
use Rattle.http_front.specs.declared.refused.DocumentReason.TheVariants.{NotJson, NotObject, TooDeep, NotWhole}
use Rattle.http_front.specs.declared.refused.FilterReason.{FilterReason}
use Rattle.http_front.specs.declared.refused.FilterReason.TheVariants as reason
use Rattle.http_front.specs.declared.refused.FilterRefusal.{FilterRefusal}
use Rattle.http_front.specs.declared.refused.QueryField.{QueryField}
use Rattle.http_front.specs.declared.refused.QueryField.TheVariants as field
use Rattle.http_front.specs.declared.refused.Refused.{Refused}
use Rattle.http_front.specs.declared.refused.Refused.TheVariants.{Framing, BadHost, Misdirected, BadTarget, NoRoute, BadMethod, NoLength, BadEncoding, BadTag, BadFilter, BadDocument}
use Rattle.http_front.specs.declared.shape.Shape.{Shape}
use Rattle.http_front.specs.declared.told.Told.{Told}
use Rattle.http_front.specs.declared.told.Told.TheVariants.{Write, Read, Match, Dropped, Page, Count, Purges, Refusal, Memory, Unkept}

-- the name of a field in a query
abbrev pub field_name : QueryField → List ℕ
field_name field.Filter = codes "f"
field_name field.Order = codes "o"
field_name field.Skip = codes "s"
field_name field.Take = codes "n"
field_name field.Kind = codes "k"
field_name field.From = codes "from"

-- the word of a reason
abbrev pub reason_word : FilterReason → List ℕ
reason_word reason.Syntax = codes "syntax"
reason_word reason.BadNumber = codes "bad_number"
reason_word reason.TooManyPaths = codes "too_many_paths"
reason_word reason.TooMany = codes "too_many"
reason_word reason.TooNested = codes "too_nested"
reason_word reason.TooDeep = codes "too_deep"

-- the body of the refusal of a query's field
abbrev pub filter_body : FilterRefusal → List ℕ
filter_body r =
    codes "{\"error\":\"bad_filter\",\"field\":\"" ++ field_name r.field ++ codes "\",\"place\":" ++ decimal r.place
    ++ codes ",\"reason\":\"" ++ reason_word r.reason ++ codes "\"}"

-- How a refusal is answered.
pub record Failure : Type 0 where
  pub status : ℕ
  pub body : List ℕ

-- a failure of this status and this body
abbrev pub failure : ℕ → List ℕ → Failure
failure status body = record { status = status; body = body }

-- the status and the body of each refusal
abbrev pub refusal : Refused → Failure
refusal (Framing BadHead) = failure 400 (codes "{\"error\":\"bad_head\"}")
refusal (Framing HeadTooLarge) = failure 431 (codes "{\"error\":\"head_too_large\"}")
refusal (Framing BadLength) = failure 400 (codes "{\"error\":\"bad_length\"}")
refusal (Framing BadCoding) = failure 501 (codes "{\"error\":\"bad_coding\"}")
refusal (Framing BodyTooLarge) = failure 413 (codes "{\"error\":\"body_too_large\"}")
refusal BadHost = failure 400 (codes "{\"error\":\"bad_host\"}")
refusal Misdirected = failure 421 (codes "{\"error\":\"misdirected\"}")
refusal BadTarget = failure 400 (codes "{\"error\":\"bad_target\"}")
refusal NoRoute = failure 404 (codes "{\"error\":\"no_route\"}")
refusal (BadMethod allow) = failure 405 (codes "{\"error\":\"bad_method\"}")
refusal NoLength = failure 411 (codes "{\"error\":\"no_length\"}")
refusal BadEncoding = failure 415 (codes "{\"error\":\"bad_encoding\"}")
refusal BadTag = failure 400 (codes "{\"error\":\"bad_tag\"}")
refusal (BadFilter r) = failure 400 (filter_body r)
refusal (BadDocument NotJson) = failure 422 (codes "{\"error\":\"bad_document\",\"reason\":\"not_json\"}")
refusal (BadDocument NotObject) = failure 422 (codes "{\"error\":\"bad_document\",\"reason\":\"not_object\"}")
refusal (BadDocument TooDeep) = failure 422 (codes "{\"error\":\"bad_document\",\"reason\":\"too_deep\"}")
refusal (BadDocument NotWhole) = failure 422 (codes "{\"error\":\"bad_document\",\"reason\":\"not_whole\"}")

-- the methods that a refusal lists
abbrev pub allowed : Refused → Option Allow
allowed (BadMethod allow) = Some allow
allowed refused = None

-- the version of what a write found
abbrev pub found_text : Found → List ℕ
found_text Missing = codes "null"
found_text (At version) = decimal version

-- the body of the reply to a write
abbrev pub written_body : Written → List ℕ
written_body (Done commit before clock) = codes "{\"commit\":" ++ decimal commit ++ codes "}"
written_body (Precondition found clock) = codes "{\"error\":\"precondition\",\"found\":" ++ found_text found ++ codes "}"
written_body (Full bytes clock) = codes "{\"bytes\":" ++ decimal bytes ++ codes ",\"error\":\"store_full\"}"

-- the body of a read
abbrev pub outcome_body : Outcome → List ℕ
outcome_body (Whole text version) = text
outcome_body (Same tag version) = []
outcome_body Absent = codes "{\"error\":\"absent\"}"

-- the body of the counts
abbrev pub stats_body : Stats → List ℕ
stats_body s =
    codes "{\"clock\":" ++ decimal s.clock ++ codes ",\"commits\":" ++ decimal s.commits ++ codes ",\"front\":"
    ++ decimal s.front ++ codes "}"

-- the body of a list of purges: the text of each key is a string of JSON (RFC 8259, section 7)
unfoldable pub purges_body : PurgesTold → List ℕ
purges_body told =
    codes "{\"from\":" ++ decimal told.from ++ codes ",\"front\":" ++ decimal told.front ++ codes ",\"keys\":["
    ++ join_by quoted (codes ",") told.texts ++ codes "],\"last\":" ++ decimal told.last ++ codes "}"

-- the body of each reply, with the bytes of the page where it is one
abbrev pub body_of : Told → List ℕ → List ℕ
body_of (Write written) page = written_body written
body_of (Read answer) page = outcome_body answer.result
body_of (Match matched) page = codes "{\"front\":" ++ decimal matched.front ++ codes "}"
body_of (Dropped dropped) page = codes "{\"horizon\":" ++ decimal dropped.horizon ++ codes "}"
body_of (Page clock) page = page
body_of (Count stats) page = stats_body stats
body_of (Purges reply) page = purges_body (told_of reply)
body_of (Refusal refused clock) page = (refusal refused).body
body_of Memory page = codes "{\"error\":\"memory\"}"
body_of Unkept page = codes "{\"error\":\"unkept\"}"

-- a head that has a date, a body of JSON of this length, and no field of the store
abbrev pub json_head : ℕ → ℕ → Bool → Head
json_head status size close = record {
  status = status;
  dated = true;
  media = Some Json;
  length = Some size;
  tag = None;
  ttl = 0;
  shared = 0;
  allow = None;
  commit = None;
  version = None;
  until = None;
  leave = no_leave;
  calls = None;
  close = close;
}

-- the status of a write that was accepted: a PUT creates where it found nothing
abbrev pub write_status : Bool → Found → ℕ
write_status true Missing = 201
write_status true (At version) = 200
write_status false before = 200

-- the head of the reply to a write
abbrev pub written_head : Bool → Written → ℕ → Bool → Head
written_head put (Done commit before clock) size close =
    record (json_head (write_status put before) size close) { commit = Some commit }
written_head put (Precondition found clock) size close = json_head 412 size close
written_head put (Full bytes clock) size close = json_head 507 size close

-- the head of the reply to a read, which may be fresh for a time
abbrev pub answer_head : Answer → ℕ → ℕ → Bool → Head
answer_head a status size close =
    record (json_head status size close) {
      ttl = a.ttl;
      shared = a.shared;
      commit = Some a.commit;
      until = Some (a.clock + max a.ttl a.shared);
    }

-- the head of a read that finds a result, of one that the caller knows (RFC 9110, section 15.4.5), and of one that finds none
abbrev pub read_head : Answer → Outcome → ℕ → Bool → Head
read_head a (Whole text version) size close =
    record (answer_head a 200 size close) {
      tag = Some a.commit;
      version = version;
    }
read_head a (Same tag version) size close =
    record (answer_head a 304 size close) {
      media = None;
      length = None;
      tag = Some tag;
      version = version;
    }
read_head a Absent size close = answer_head a 404 size close

-- the method of a request is refused
abbrev pub is_of_method : Refused → Bool
is_of_method (BadMethod allow) = true
is_of_method (Framing refused) = false
is_of_method BadHost = false
is_of_method Misdirected = false
is_of_method BadTarget = false
is_of_method NoRoute = false
is_of_method NoLength = false
is_of_method BadEncoding = false
is_of_method BadTag = false
is_of_method (BadFilter r) = false
is_of_method (BadDocument reason) = false

-- the methods that a page may call, where it may read the reply
abbrev pub calls_by : Option (List ℕ) → Option Allow → Option Allow
calls_by None allow = None
calls_by (Some origin) allow = allow

-- the head of the reply to a page that asks what it may send: its status has no body and no length (RFC 9110, section 8.6)
abbrev pub asked_head : LeaveTold → Option Allow → Bool → Head
asked_head leave allow close =
    record (json_head 204 0 close) {
      media = None;
      length = None;
      allow = allow;
      calls = calls_by leave.allow allow;
    }

-- the head of a refusal; where a page asks, that of its method lists what it may send
abbrev pub refusal_head : Shape → Refused → ℕ → Bool → Head
refusal_head shape refused size close =
    if shape.asks && is_of_method refused then asked_head shape.leave (allowed refused) close
    else record (json_head (refusal refused).status size close) { allow = allowed refused }

-- the head of each reply, of the length of its body, without what it says of pages; a list of purges tells the
-- greatest number of 64 bits where it is longer
abbrev pub told_head : Shape → Told → ℕ → Bool → Head
told_head shape (Write written) size close = written_head shape.put written size close
told_head shape (Read answer) size close = read_head answer answer.result size close
told_head shape (Match matched) size close = json_head 200 size close
told_head shape (Dropped dropped) size close = json_head 200 size close
told_head shape (Page clock) size close = record (json_head 200 size close) { media = Some OctetStream }
told_head shape (Count stats) size close = json_head 200 size close
told_head shape (Purges reply) size close = json_head 200 (min size (2 ^ 64 - 1)) close
told_head shape (Refusal refused clock) size close = refusal_head shape refused size close
told_head shape Memory size close = record (json_head 503 size close) { dated = false }
told_head shape Unkept size close = record (json_head 503 size close) { dated = false }

-- the head of each reply
abbrev pub head_of : Shape → Told → ℕ → Bool → Head
head_of shape told size close = record (told_head shape told size close) { leave = shape.leave }

-- the moment of a write's date
abbrev pub written_clock : Written → ℕ
written_clock (Done commit before clock) = clock
written_clock (Precondition found clock) = clock
written_clock (Full bytes clock) = clock

-- the moment of a reply's date
abbrev pub clock_of : Told → ℕ
clock_of (Write written) = written_clock written
clock_of (Read answer) = answer.clock
clock_of (Match matched) = matched.clock
clock_of (Dropped dropped) = dropped.clock
clock_of (Page clock) = clock
clock_of (Count stats) = stats.clock
clock_of (Purges reply) = reply.clock
clock_of (Refusal refused clock) = clock
clock_of Memory = 0
clock_of Unkept = 0

-- a reply says what a page may send, in place of a refusal of its method
abbrev pub is_asked : Shape → Told → Bool
is_asked shape (Refusal refused clock) = shape.asks && is_of_method refused
is_asked shape (Write written) = false
is_asked shape (Read answer) = false
is_asked shape (Match matched) = false
is_asked shape (Dropped dropped) = false
is_asked shape (Page clock) = false
is_asked shape (Count stats) = false
is_asked shape (Purges reply) = false
is_asked shape Memory = false
is_asked shape Unkept = false

-- what follows a reply's head: a reply to HEAD has no body (RFC 9110, section 9.3.2), and one that says what a page may send
abbrev pub given_body : Shape → Told → List ℕ → List ℕ
given_body shape told body = if is_asked shape told || shape.head then [] else body

-- the reply, with the text of its date: to HEAD it has the head that GET would get, and no body
abbrev pub reply_of : Shape → Told → List ℕ → List ℕ → Bool → Reply
reply_of shape told page date close =
    let body = body_of told page in
    let head = head_of shape told (length body) close in
    record { status = head.status; fields = head_fields head date; body = given_body shape told body }

-- The text is that of a head that is dated by this clock.
pub record IsHeadText (head : Head) (clock : ℕ) (text : List ℕ) : Type 0 where
  pub date : List ℕ
  pub dated : IsDateOf clock date
  pub text_is : text ≡ head_text head.status (head_fields head date)

-- The text is that of a reply, dated by the reply's own clock.
pub record IsReplyText (shape : Shape) (told : Told) (page : List ℕ) (close : Bool) (text : List ℕ) : Type 0 where
  pub date : List ℕ
  pub dated : IsDateOf (clock_of told) date
  pub text_is : text ≡ reply_text (reply_of shape told page date close)
