-- Internal. What contracts see of a link, what its calls do to that, and what a link that tells a history owes.
use Rattle.std.specs.Prelude.{◌≡◌, ◌<◌, ◌≤◌, ◌==◌, ℕ, Bool, true, false, ◌||◌, List, [], ◌∷◌, ◌++◌, Option, Some, None, Result, Ok, Err}
use Rattle.q_doc.specs.Tree.{Tree}
use Rattle.q_doc.specs.Printed.{printed}
use Rattle.query_normal.specs.Pages.{Page}
use Rattle.query_normal.specs.declared.key.KeyShape.{KeyShape}
use Rattle.commit_book.specs.declared.change.Change.{Change}
use Rattle.hub_model.specs.declared.entry.Condition.{Condition}
use Rattle.hub_model.specs.declared.entry.Entry.{Entry}
use Rattle.hub_model.specs.declared.entry.Entry.TheVariants.{Write}
use Rattle.hub_model.specs.declared.entry.Found.{Found}
use Rattle.hub_model.specs.declared.entry.Written.TheVariants.{Done}
use Rattle.hub_model.specs.Desk.{IsPrefix}
use Rattle.hub_model.specs.Legal.{IsLegal}
use Rattle.hub_model.specs.Reply.{written}
use Rattle.hub_model.specs.Setting.{Setting}
use Rattle.hub_model.specs.State.{at_moment}
use Rattle.hub_model.specs.Step.{state_of}
use Rattle.client_model.specs.declared.reply.Reply.{Reply}
use Rattle.client_model.specs.Issued.{IsIssued, IsFetched}
use Rattle.client_session.specs.declared.ask.ClientAsk.{ClientAsk}
use Rattle.client_session.specs.declared.ask.ClientAsk.TheVariants as ask
use Rattle.client_session.specs.declared.ask.LinkRefusal.{LinkRefusal}
use Rattle.client_session.specs.declared.ask.LinkRefusal.TheVariants as refusal
use Rattle.client_session.specs.declared.last.Kept.{Kept}
use Rattle.client_session.specs.declared.last.LastReplies.{LastReplies}

-- What contracts see of a link.
pub record LinkView : Type 0 where
  pub setting : Setting
  -- the history behind it, where it tells one
  pub history : Option (List Entry)
  pub faults : ℕ
  -- the number of its answers that a reply is not of the format
  pub bad_replies : ℕ
  pub last : LastReplies

-- One call of a link, and its answer.
pub data Exchange : Type 0 where
  through : ClientAsk → Result Reply LinkRefusal → Exchange
  direct : ClientAsk → Result Reply LinkRefusal → Exchange
  page : Result Page LinkRefusal → Exchange

-- what is kept of a reply
abbrev pub kept_of : Reply → Kept
kept_of reply = record { status = reply.status; commit = reply.commit; until = reply.until }

-- what is kept after an answer: of a reply that reply, and else what there was
abbrev pub kept_after : Option Kept → Result Reply LinkRefusal → Option Kept
kept_after old (Ok reply) = Some (kept_of reply)
kept_after old (Err refused) = old

-- the same of `direct`, which keeps nothing of a reply to a page
abbrev pub direct_after : Option Kept → ClientAsk → Result Reply LinkRefusal → Option Kept
direct_after old ask.Page told = old
direct_after old asked told = kept_after old told

-- another status beside what was kept
abbrev pub with_status : ℕ → Option Kept → Kept
with_status code None = record { status = code; commit = 0; until = 0 }
with_status code (Some kept) = record kept { status = code }

-- what is kept where a page was refused: the status of its reply, where that is why
abbrev pub refused_after : Option Kept → LinkRefusal → Option Kept
refused_after old (refusal.Status code) = Some (with_status code old)
refused_after old refused = old

-- what is kept after a call
abbrev pub last_after : LastReplies → Exchange → LastReplies
last_after last (through asked told) = record last { through = kept_after last.through told }
last_after last (direct asked told) = record last { direct = direct_after last.direct asked told }
last_after last (page (Ok p)) = record last { page = Some (record { front = p.front; moment = p.moment }) }
last_after last (page (Err refused)) = record last { direct = refused_after last.direct refused }

-- why a call had no reply
abbrev pub reason_of : {X : Type 0} → Result X LinkRefusal → Option LinkRefusal
reason_of (Ok x) = None
reason_of (Err refused) = Some refused

-- the same of a call
abbrev pub refusal_of : Exchange → Option LinkRefusal
refusal_of (through asked told) = reason_of told
refusal_of (direct asked told) = reason_of told
refusal_of (page told) = reason_of told

-- a fault and a reply that is not of the format each raise their count
abbrev pub Rises : LinkView → LinkView → Option LinkRefusal → Type 0
Rises old new (Some refusal.Fault) = old.faults < new.faults
Rises old new (Some (refusal.BadReply place)) = old.bad_replies < new.bad_replies
Rises old new other = Unit {0}

-- Counts never fall, and rise with what is counted.
pub record HasCounted (old new : LinkView) (reason : Option LinkRefusal) : Type 0 where
  pub faults : old.faults ≤ new.faults
  pub bad_replies : old.bad_replies ≤ new.bad_replies
  pub rises : Rises old new reason

-- whether a status is that of a read: there is a result, or no document
abbrev pub is_read_status : ℕ → Bool
is_read_status status = status == 200 || status == 404

-- whether a status is that of an accepted write: of a document that there was, or of a new one
abbrev pub is_write_status : ℕ → Bool
is_write_status status = status == 200 || status == 201

-- ---- a link that tells a history

-- it has no reply only for a fault or for want of memory
abbrev pub IsSincere : LinkRefusal → Type 0
IsSincere (refusal.BadReply place) = ⊥
IsSincere (refusal.Status code) = ⊥
IsSincere refused = Unit {0}

-- a reply to a read is issued in it
abbrev pub IsReadReply : Setting → List Entry → KeyShape → Result Reply LinkRefusal → Type 0
IsReadReply g history key (Ok reply) = IsIssued g history key reply
IsReadReply g history key (Err refused) = IsSincere refused

-- a page is fetched in it
abbrev pub IsPageReply : Setting → List Entry → Result Page LinkRefusal → Type 0
IsPageReply g history (Ok p) = IsFetched g history p
IsPageReply g history (Err refused) = IsSincere refused

-- what a document or a deletion is asked by: the printed text, or none
abbrev pub text_of_change : Option Tree → Option (List ℕ)
text_of_change None = None
text_of_change (Some tree) = Some (printed tree)

-- A write was accepted in what the history gained, as this commit.
pub record IsWritten (g : Setting) (old new : List Entry) (collection id : List ℕ) (text : Option (List ℕ)) (condition : Condition) (commit : ℕ) : Type 0 where
  -- the entries before it
  pub before : List Entry
  pub moment : ℕ
  pub change : Change
  pub before_is : Found
  pub clock : ℕ
  pub grew : IsPrefix old before
  pub begins : IsPrefix (before ++ Write moment change condition ∷ []) new
  pub collection_is : change.collection ≡ collection
  pub id_is : change.id ≡ id
  pub text_is : text_of_change change.document ≡ text
  pub done : written g change condition (at_moment (state_of g before) moment) ≡ Done commit before_is clock

-- where the status is that of an accepted write
abbrev pub IsWriteReply : Bool → Setting → List Entry → List Entry → List ℕ → List ℕ → Option (List ℕ) → Condition → ℕ → Type 0
IsWriteReply true g old new collection id text condition commit = IsWritten g old new collection id text condition commit
IsWriteReply false g old new collection id text condition commit = Unit {0}

-- what a link that tells its history answers: replies and pages of it, and of an accepted write its commit
abbrev pub IsOf : Setting → List Entry → List Entry → Exchange → Type 0
IsOf g old new (through (ask.Read key no_cache) told) = IsReadReply g new key told
IsOf g old new (direct (ask.Read key no_cache) told) = IsReadReply g new key told
IsOf g old new (direct (ask.Put collection id text condition) (Ok reply)) = IsWriteReply (is_write_status reply.status) g old new collection id (Some text) condition reply.commit
IsOf g old new (direct (ask.Delete collection id condition) (Ok reply)) = IsWriteReply (is_write_status reply.status) g old new collection id None condition reply.commit
IsOf g old new (page told) = IsPageReply g new told
IsOf g old new x = Unit {0}

-- The history gained entries, stays legal, and the answer is of it.
pub record IsTold (g : Setting) (old new : List Entry) (x : Exchange) : Type 0 where
  pub grew : IsPrefix old new
  pub legal : IsLegal g old → IsLegal g new
  pub of : IsOf g old new x

-- a link that tells its history goes on telling it
abbrev pub Tells : Setting → Option (List Entry) → Option (List Entry) → Exchange → Type 0
Tells g None new x = new ≡ None
Tells g (Some old) new x = (longer : List Entry) × (new ≡ Some longer) × IsTold g old longer x

-- What a call does to what contracts see of a link.
pub record Went (old new : LinkView) (x : Exchange) : Type 0 where
  pub setting : new.setting ≡ old.setting
  pub tells : Tells old.setting old.history new.history x
  pub counts : HasCounted old new (refusal_of x)
  pub kept : new.last ≡ last_after old.last x

-- one call, by the link's own relation and by what contracts see of it
abbrev pub Calls : {L : Type 0} → (L → LinkView) → (L → Exchange → L → Type 0) → L → Exchange → L → Type 0
Calls at answers first x last = answers first x last × Went (at first) (at last) x

-- from one state to another these calls were made, in order, and no others
abbrev pub Passed : {L : Type 0} → (L → Exchange → L → Type 0) → L → List Exchange → L → Type 0
Passed calls first [] last = first ≡ last
Passed {L} calls first (x ∷ xs) last = (next : L) × calls first x next × Passed calls next xs last

-- calls were made from one state to another, and this is true of the list of them
abbrev pub Makes : {L : Type 0} → (L → LinkView) → (L → Exchange → L → Type 0) → L → L → (List Exchange → Type 0) → Type 0
Makes at answers first last is_so = (xs : List Exchange) × Passed (Calls at answers) first xs last × is_so xs
