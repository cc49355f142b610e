-- Internal. Which calls of a link a read makes, and what it answers then.
use Rattle.std.specs.Prelude.{◌≡◌, ◌==◌, ℕ, true, false, if◌then◌else◌, nat_lt, max, List, [], ◌∷◌, Option, Some, None, Result, Ok, Err, IfOk}
use Rattle.query_normal.specs.Pages.{Page}
use Rattle.query_normal.specs.Keys.{key_text}
use Rattle.query_normal.specs.declared.key.KeyShape.{KeyShape}
use Rattle.q_doc.specs.Printed.{printed}
use Rattle.result_kinds.specs.Results.{text_of_result}
use Rattle.flat_snapshot.specs.declared.sight.Sight.{Sight}
use Rattle.flat_snapshot.specs.Sight.{sight_of}
use Rattle.client_core.specs.declared.choice.Why.{Why}
use Rattle.client_core.specs.Choice.{front_of, commit_with, why_before, why_with}
use Rattle.hub_model.specs.declared.entry.Entry.{Entry}
use Rattle.hub_model.specs.Journal.{Finding, absent, present, queried, result_at}
use Rattle.hub_model.specs.Legal.{IsLegal}
use Rattle.hub_model.specs.Setting.{Setting}
use Rattle.hub_model.specs.Step.{state_of}
use Rattle.client_model.specs.declared.reply.Reply.{Reply}
use Rattle.client_model.specs.Issued.{IsFetched}
use Rattle.client_session.specs.declared.ask.ClientAsk.{ClientAsk}
use Rattle.client_session.specs.declared.ask.ClientAsk.TheVariants as ask
use Rattle.client_session.specs.declared.ask.LinkRefusal.{LinkRefusal}
use Rattle.client_session.specs.declared.ask.LinkRefusal.TheVariants as link
use Rattle.client_session.specs.declared.read_out.Body.{Body}
use Rattle.client_session.specs.declared.read_out.Body.TheVariants as body
use Rattle.client_session.specs.declared.read_out.ReadOut.{ReadOut}
use Rattle.client_session.specs.declared.read_out.Way.TheVariants as way
use Rattle.client_session.specs.declared.reading.Chosen.{Chosen}
use Rattle.client_session.specs.declared.reading.Chosen.TheVariants as chosen
use Rattle.client_session.specs.declared.reading.Position.{Position}
use Rattle.client_session.specs.declared.refusal.SessionRefusal.{SessionRefusal}
use Rattle.client_session.specs.declared.refusal.SessionRefusal.TheVariants as refusal
use Rattle.client_session.specs.Link.{Exchange, through, direct, LinkView, is_read_status}

-- a refusal of the link as the session's
abbrev pub refused_of : LinkRefusal → SessionRefusal
refused_of link.Fault = refusal.LinkFault
refused_of (link.BadReply place) = refusal.BadReply place
refused_of link.Memory = refusal.Memory
refused_of (link.Status code) = refusal.Status code

-- a text as a record's document, where it has a version, and else as the result of a query
abbrev pub body_with : Option ℕ → List ℕ → Body
body_with (Some version) text = body.Document version text
body_with None text = body.List text

-- what the reply to a read has
abbrev pub body_in : Reply → Body
body_in reply = if reply.status == 404 then body.Absent else body_with reply.version reply.body

-- the same of what a key finds
abbrev pub body_of : Finding → Body
body_of absent = body.Absent
body_of (present version tree) = body.Document version (printed tree)
body_of (queried result) = body.List (text_of_result result)

-- below this commit no answer of the server is taken
abbrev pub lowest : Position → ℕ
lowest p = max (front_of p.sight) p.floor

-- the server's answer to a read: at its own commit
abbrev pub by_server : Position → Why → Result Reply LinkRefusal → Result ReadOut SessionRefusal
by_server p cause (Err refused) = Err (refused_of refused)
by_server p cause (Ok reply) =
    if is_read_status reply.status
    then (if nat_lt reply.commit (lowest p) then Err (refusal.Behind (lowest p) reply.commit) else Ok (record { body = body_in reply; commit = reply.commit; way = way.Direct cause }))
    else Err (refusal.Status reply.status)

-- a copy is the answer, unless there is a cause to ask the server
abbrev pub unless_cause : Position → Reply → Option Why → Chosen
unless_cause p reply None = chosen.Answered (Ok (record { body = body_in reply; commit = commit_with p.sight reply.commit; way = way.Cached }))
unless_cause p reply (Some cause) = chosen.Asks cause

-- what follows from the answer of the caches: an accepted copy is at the page's front too
abbrev pub by_copy : Position → Result Reply LinkRefusal → Chosen
by_copy p (Err refused) = chosen.Answered (Err (refused_of refused))
by_copy p (Ok reply) =
    if is_read_status reply.status then unless_cause p reply (why_with p.sight p.is_whitelisted reply.commit reply.until p.floor)
    else chosen.Answered (Err (refusal.Status reply.status))

-- These calls were made for a read, the first ask to the caches and the second to the server, and this was answered: none for want of memory; one of the server, where there is a cause before any copy is asked for; one of the caches; and then one of the server where the copy gives a cause.
abbrev pub IsChosenBy : Position → ClientAsk → ClientAsk → List Exchange → Result ReadOut SessionRefusal → Type 0
IsChosenBy p first second [] result = result ≡ Err refusal.Memory
IsChosenBy p first second (direct asked told ∷ []) result =
    (cause : Why) × (why_before p.level p.sight p.is_whitelisted ≡ Some cause) × (asked ≡ second) × (result ≡ by_server p cause told)
IsChosenBy p first second (through asked told ∷ []) result =
    (why_before p.level p.sight p.is_whitelisted ≡ None) × (asked ≡ first) × (by_copy p told ≡ chosen.Answered result)
IsChosenBy p first second (through asked told ∷ direct asked_then told_then ∷ []) result =
    (cause : Why) × (why_before p.level p.sight p.is_whitelisted ≡ None) × (asked ≡ first) × (by_copy p told ≡ chosen.Asks cause) × (asked_then ≡ second) × (result ≡ by_server p cause told_then)
IsChosenBy p first second xs result = ⊥

-- the same of a key: only the server's reply is asked for without caches
abbrev pub IsReadBy : Position → KeyShape → List Exchange → Result ReadOut SessionRefusal → Type 0
IsReadBy p key xs result = IsChosenBy p (ask.Read key false) (ask.Read key true) xs result

-- what a held page says of a key
abbrev pub sight_by : Option Page → KeyShape → Option Sight
sight_by None key = None
sight_by (Some p) key = Some (sight_of p (key_text key))

-- a history that is told is legal, and the held page was fetched in it
abbrev pub HoldsIn : Setting → Option Page → List Entry → Type 0
HoldsIn g None history = IsLegal g history
HoldsIn g (Some p) history = IsLegal g history × IsFetched g history p

-- the same of a link that may tell none
abbrev pub HoldsFor : Setting → Option Page → Option (List Entry) → Type 0
HoldsFor g held None = Unit {0}
HoldsFor g held (Some history) = HoldsIn g held history

-- the same of what contracts see of a link
abbrev pub Holds : LinkView → Option Page → Type 0
Holds v held = HoldsFor v.setting held v.history

-- a read is the result of the key at its commit, in a history that is told
abbrev pub IsResultIn : Setting → Option (List Entry) → KeyShape → ReadOut → Type 0
IsResultIn g None key out = Unit {0}
IsResultIn g (Some history) key out = out.body ≡ body_of (result_at key (state_of g history).journal out.commit)

-- the same of what contracts see of a link
abbrev pub IsResult : LinkView → KeyShape → ReadOut → Type 0
IsResult v key out = IsResultIn v.setting v.history key out

-- a read by a held page that was fetched in a history that is told is the result of the key at its commit
abbrev pub IsFresh : LinkView → LinkView → Position → KeyShape → Result ReadOut SessionRefusal → Type 0
IsFresh v w p key result = (held : Option Page) → p.sight ≡ sight_by held key → Holds v held → IfOk result (λ out. IsResult w key out)

-- a page that was fetched in the history stays one of it
abbrev pub StaysHeld : LinkView → LinkView → Type 0
StaysHeld v w = (held : Option Page) → Holds v held → Holds w held
