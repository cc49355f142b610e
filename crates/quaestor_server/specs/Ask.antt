-- Believed. What the items of a connection ask of the store, and the replies to them.
use Rattle.std.specs.Prelude.{◌≡◌, ℕ, ◌≤◌, Bool, true, List, length, Result, Ok, Err}
use Rattle.flat_snapshot.specs.PageText.{page_text}
use Rattle.http_front.specs.Asks.{shape_of, unframed_shape}
use Rattle.http_front.specs.Hosts.{ask_to, is_early_to}
use Rattle.http_front.specs.Routes.{all_routes}
use Rattle.http_front.specs.declared.ask.Ask.{Ask}
use Rattle.http_front.specs.declared.ask.Ask.TheVariants.{Write, Read, Purges, MatchAll, Horizon, Fetch, Stats}
use Rattle.http_front.specs.declared.refused.Refused.{Refused}
use Rattle.http_front.specs.declared.refused.Refused.TheVariants.{Framing}
use Rattle.http_front.specs.declared.shape.Shape.{Shape}
use Rattle.http_front.specs.declared.told.Told.{Told}
use Rattle.http_front.specs.declared.told.Told.TheVariants as answers
use Rattle.http_message.specs.Item.{Item, request, unframed}
use Rattle.hub_desk.specs.Desk.{matching, IsFrontOf, IsBehind, dropping_all, IsWholeDropOf}
use Rattle.hub_model.specs.declared.entry.Dropped.{Dropped}
use Rattle.hub_model.specs.declared.entry.Entry.{Entry}
use Rattle.hub_model.specs.declared.entry.Entry.TheVariants as entries
use Rattle.hub_model.specs.declared.entry.Matched.{Matched}
use Rattle.hub_model.specs.declared.entry.PurgeReply.{PurgeReply}
use Rattle.hub_model.specs.Reply.{Replied, wrote, read, fetched, purged, counted, told_of}
use Rattle.hub_model.specs.Setting.{Setting}
use Rattle.hub_model.specs.State.{State}
use Rattle.hub_model.specs.Step.{is_accepted, state_of}

-- what an item asks of the hosts that a text names, or why it is refused
abbrev pub asked_by : List ℕ → Item → Result Ask Refused
asked_by hosts (request m) = ask_to hosts all_routes m
asked_by hosts (unframed refused called head) = Err (Framing refused)

-- what an item asks is known without memory; so it is where there is no request
abbrev pub is_known_early : List ℕ → Item → Bool
is_known_early hosts (request m) = is_early_to hosts all_routes m
is_known_early hosts (unframed refused called head) = true

-- what the reply to an item looks like, where a text names the origins of pages that may read it
abbrev pub shape_by : List ℕ → Item → Shape
shape_by origins (request m) = shape_of origins m
shape_by origins (unframed refused called head) = unframed_shape origins head

-- the entry is the one that is asked for, at this moment, after a state; a refusal asks for a tick
abbrev pub IsEntryOf : Result Ask Refused → ℕ → State → Entry → Type 0
IsEntryOf (Ok (Write change condition)) moment s e = e ≡ entries.Write moment change condition
IsEntryOf (Ok (Read key tags head)) moment s e = (at : ℕ) × (e ≡ entries.Read moment key tags at)
IsEntryOf (Ok MatchAll) moment s e = e ≡ matching s moment
IsEntryOf (Ok Horizon) moment s e = e ≡ dropping_all s moment
IsEntryOf (Ok (Fetch head)) moment s e = e ≡ entries.Fetch moment
IsEntryOf (Ok (Purges from head)) moment s e = e ≡ entries.Purges moment from
IsEntryOf (Ok (Stats head)) moment s e = e ≡ entries.Tick moment
IsEntryOf (Err refused) moment s e = e ≡ entries.Tick moment

-- the reply to the client, with the bytes of the page if it is one, by the reply to that entry
abbrev pub IsToldOf : Result Ask Refused → Replied → Told → List ℕ → Type 0
IsToldOf (Ok (Write change condition)) (wrote written) told page = told ≡ answers.Write written
IsToldOf (Ok (Read key tags head)) (read answer) told page = told ≡ answers.Read answer
IsToldOf (Ok MatchAll) replied told page = (match : Matched) × IsFrontOf replied match × (told ≡ answers.Match match)
IsToldOf (Ok Horizon) replied told page = (drop : Dropped) × IsWholeDropOf replied drop × (told ≡ answers.Dropped drop)
IsToldOf (Ok (Fetch head)) (fetched p) told page = (told ≡ answers.Page p.moment) × (page ≡ page_text p)
IsToldOf (Ok (Purges from head)) (purged list) told page = (reply : PurgeReply) × (list ≡ told_of reply) × (told ≡ answers.Purges reply)
IsToldOf (Ok (Stats head)) (counted stats) told page = told ≡ answers.Count stats
IsToldOf (Err refused) (counted stats) told page = told ≡ answers.Refusal refused stats.clock
IsToldOf _ _ told page = ⊥

-- a read is not of a commit before those that were known
abbrev pub IsFresh : Setting → List Entry → Entry → Type 0
IsFresh g known (entries.Read moment key tags at) = length (state_of g known).journal ≤ at
IsFresh g known e = Unit {0}

-- a write is asked for
abbrev pub IsWrite : Result Ask Refused → Type 0
IsWrite (Ok (Write change condition)) = Unit {0}
IsWrite _ = ⊥

-- the entry of this request may run out of memory after a history: that of a write that would be accepted, of a read, of a list of purges, or of a match where there are commits to match, and no other
abbrev pub MayRunOut : Setting → List Entry → Result Ask Refused → Type 0
MayRunOut g known (Ok (Write change condition)) = is_accepted g (state_of g known) change condition ≡ true
MayRunOut g known (Ok (Read key tags head)) = Unit {0}
MayRunOut g known (Ok MatchAll) = IsBehind (state_of g known)
MayRunOut g known (Ok Horizon) = ⊥
MayRunOut g known (Ok (Fetch head)) = ⊥
MayRunOut g known (Ok (Purges from head)) = Unit {0}
MayRunOut g known (Ok (Stats head)) = ⊥
MayRunOut g known (Err refused) = ⊥
