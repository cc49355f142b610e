-- Internal. What a link over a source and a sink gives, takes and answers.
use Rattle.std.specs.Prelude.{◌≡◌, ◌≢◌, ◌⊎◌, ℕ, ◌+◌, ◌<◌, Bool, true, false, ◌&&◌, ◌||◌, ◌==◌, List, Option, None, is_none, Result, Ok, Err, IsErr}
use Rattle.q_outside.specs.Ends.{End, GaveBytes, GavePart}
use Rattle.flat_snapshot.specs.Reading.{read_page}
use Rattle.flat_snapshot.specs.declared.read.PageRefusal.{PageRefusal}
use Rattle.flat_snapshot.specs.declared.read.PageRefusal.TheVariants as no_page
use Rattle.query_normal.specs.Pages.{Page}
use Rattle.query_normal.specs.declared.key.KeyShape.{KeyShape}
use Rattle.query_normal.specs.declared.key.KeyShape.TheVariants.{Record, Query}
use Rattle.hub_model.specs.Setting.{default_setting}
use Rattle.client_model.specs.declared.reply.Reply.{Reply}
use Rattle.client_session.specs.Link.{Exchange, HasCounted, LinkView, through, direct, page, is_read_status, is_write_status}
use Rattle.client_session.specs.declared.ask.ClientAsk.{ClientAsk}
use Rattle.client_session.specs.declared.ask.ClientAsk.TheVariants as ask
use Rattle.client_session.specs.declared.ask.LinkRefusal.{LinkRefusal}
use Rattle.client_session.specs.declared.ask.LinkRefusal.TheVariants as refusal
use Rattle.client_session.specs.declared.last.LastReplies.{LastReplies}
use Rattle.client_wire.specs.Requests.{request_text}
use Rattle.client_wire.specs.Taking.{TakesReply}
use Rattle.client_wire.specs.declared.refusal.Lacks.{Lacks}
use Rattle.client_wire.specs.declared.refusal.WireRefusal.TheVariants as wire

-- the key is that of a record
abbrev pub is_record : KeyShape → Bool
is_record (Record collection id) = true
is_record (Query kind normal) = false

-- a reply lacks a field that it needs: one to a read the commit or the until, and with a document of a record the version; one to an accepted write the commit
abbrev pub is_lacking : ClientAsk → Reply → Lacks → Bool
is_lacking (ask.Read key no_cache) reply lacks =
    (is_read_status reply.status && (lacks.commit || lacks.until))
    || ((reply.status == 200) && is_record key && is_none reply.version)
is_lacking ask.Page reply lacks = false
is_lacking (ask.Put collection id text condition) reply lacks = is_write_status reply.status && lacks.commit
is_lacking (ask.Delete collection id condition) reply lacks = is_write_status reply.status && lacks.commit

-- The two ends of a link before a call and after it.
pub record Ends : Type 0 where
  pub source : End
  pub source' : End
  pub sink : End
  pub sink' : End

-- what was read from a source
abbrev pub IsRead : (source source' : End) → Result (Reply × Lacks) LinkRefusal → Type 0
IsRead source source' (Ok read) = TakesReply source source' (Ok read)
IsRead source source' (Err (refusal.BadReply place)) =
    TakesReply source source' (Err (wire.BadReply place)) ⊎ TakesReply source source' (Err (wire.Truncated place))
IsRead source source' (Err refusal.Fault) = TakesReply source source' (Err wire.ReadFault)
IsRead source source' (Err refusal.Memory) = TakesReply source source' (Err wire.Memory)
IsRead source source' (Err (refusal.Status code)) = ⊥

-- nothing was given or taken, for want of memory; or the sink failed inside the text, and nothing was taken
abbrev pub GivesNoText : Ends → List ℕ → Result (Reply × Lacks) LinkRefusal → Type 0
GivesNoText e text (Ok read) = ⊥
GivesNoText e text (Err refusal.Fault) = GavePart e.sink e.sink' text × (e.source' ≡ e.source)
GivesNoText e text (Err refusal.Memory) = (e.sink' ≡ e.sink) × (e.source' ≡ e.source)
GivesNoText e text (Err refused) = ⊥

-- the text was given whole, and then this was read; or it was not given whole
abbrev pub Reads : Ends → List ℕ → Result (Reply × Lacks) LinkRefusal → Type 0
Reads e text result = (GaveBytes e.sink e.sink' text × IsRead e.source e.source' result) ⊎ GivesNoText e text result

-- A reply was read, and it lacks a field or not.
pub record ReadsOne (e : Ends) (asked : ClientAsk) (host : List ℕ) (reply : Reply) (is_short : Bool) : Type 0 where
  pub lacks : Lacks
  pub reads : Reads e (request_text asked host) (Ok (reply, lacks))
  pub short_is : is_lacking asked reply lacks ≡ is_short

-- Some reply was read that lacks a field.
pub record ReadsShort (e : Ends) (asked : ClientAsk) (host : List ℕ) : Type 0 where
  pub reply : Reply
  pub reads : ReadsOne e asked host reply true

-- what an ask was answered
abbrev pub IsAnswered : Ends → (host : List ℕ) → ClientAsk → Result Reply LinkRefusal → Type 0
IsAnswered e host asked (Ok reply) = ReadsOne e asked host reply false
IsAnswered e host asked (Err (refusal.BadReply place)) =
    Reads e (request_text asked host) (Err (refusal.BadReply place)) ⊎ (ReadsShort e asked host × (place ≡ 0))
IsAnswered e host asked (Err refusal.Fault) = Reads e (request_text asked host) (Err refusal.Fault)
IsAnswered e host asked (Err refusal.Memory) = Unit {0}
IsAnswered e host asked (Err (refusal.Status code)) = ⊥

-- A reply to the ask for the page was read.
pub record ReadsPage (e : Ends) (host : List ℕ) (is_so : Reply → Type 0) : Type 0 where
  pub reply : Reply
  pub reads : ReadsOne e ask.Page host reply false
  pub says : is_so reply

-- what the ask for the page was answered: the page that the body of a reply with status 200 is
abbrev pub IsPageAnswered : Ends → (host : List ℕ) → Result Page LinkRefusal → Type 0
IsPageAnswered e host (Ok p) = ReadsPage e host (λ reply. (reply.status ≡ 200) × (read_page reply.body ≡ Ok p))
IsPageAnswered e host (Err (refusal.Status code)) = ReadsPage e host (λ reply. (reply.status ≡ code) × (code ≢ 200))
IsPageAnswered e host (Err (refusal.BadReply place)) =
    Reads e (request_text ask.Page host) (Err (refusal.BadReply place))
    ⊎ (ReadsPage e host (λ reply. (reply.status ≡ 200) × IsErr (read_page reply.body)) × (place ≡ 0))
IsPageAnswered e host (Err refusal.Fault) = Reads e (request_text ask.Page host) (Err refusal.Fault)
IsPageAnswered e host (Err refusal.Memory) = Unit {0}

-- what a call of the link was answered
abbrev pub IsCallAnswered : Ends → (host : List ℕ) → Exchange → Type 0
IsCallAnswered e host (through asked told) = IsAnswered e host asked told
IsCallAnswered e host (direct asked told) = IsAnswered e host asked told
IsCallAnswered e host (page told) = IsPageAnswered e host told

-- what contracts see of the link: the faults of both its ends, its bad replies and its last replies, and no history
abbrev pub view_by : End → End → ℕ → LastReplies → LinkView
view_by source sink bad_replies last = record {
  setting = default_setting;
  history = None;
  faults = source.faults + sink.faults;
  bad_replies = bad_replies;
  last = last;
}

-- the counts rose as this answer asks, whatever is kept of replies
abbrev pub IsCounted : Ends → (bad_replies bad_replies' : ℕ) → Option LinkRefusal → Type 0
IsCounted e bad_replies bad_replies' reason =
    (before last : LastReplies) → HasCounted (view_by e.source e.sink bad_replies before) (view_by e.source' e.sink' bad_replies' last) reason

-- a bad reply at this place was counted; or the count is at its end, and the answer is that for want of memory
abbrev pub IsBadCounted : (bad_replies bad_replies' place : ℕ) → LinkRefusal → Type 0
IsBadCounted bad_replies bad_replies' place refused =
    ((refused ≡ refusal.BadReply place) × (bad_replies < bad_replies'))
    ⊎ ((refused ≡ refusal.Memory) × (bad_replies' ≡ bad_replies))

-- bytes that are no page were counted as a bad reply at 0; or memory ran out, and nothing was counted
abbrev pub IsPageRefused : PageRefusal → (bad_replies bad_replies' : ℕ) → LinkRefusal → Type 0
IsPageRefused reason bad_replies bad_replies' refused =
    ((reason ≡ no_page.Memory) × (refused ≡ refusal.Memory) × (bad_replies' ≡ bad_replies))
    ⊎ ((reason ≢ no_page.Memory) × IsBadCounted bad_replies bad_replies' 0 refused)
