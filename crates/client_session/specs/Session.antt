-- Internal. What contracts see of a session, and what its calls do.
use Rattle.std.specs.Prelude.{◌≡◌, ◌==◌, ℕ, Bool, true, false, ◌&&◌, ◌||◌, nat_lt, if◌then◌else◌, max, List, [], ◌∷◌, Option, Some, None, Result, Ok, Err, IfOk, ◌≤◌}
use Rattle.std.specs.List.{list_any}
use Rattle.q_doc.specs.Tree.{Tree}
use Rattle.q_doc.specs.Printed.{printed}
use Rattle.query_normal.specs.Pages.{Page}
use Rattle.query_normal.specs.Keys.{same_key}
use Rattle.query_normal.specs.declared.key.KeyShape.{KeyShape}
use Rattle.client_core.specs.declared.level.Level.{Level}
use Rattle.client_core.specs.declared.level.Level.TheVariants as level
use Rattle.client_core.specs.declared.choice.Why.TheVariants.{Flagged}
use Rattle.client_core.specs.Choice.{front_of}
use Rattle.client_core.specs.Floor.{Event, wrote, read, listed, paged, writes_of, reads_of, greatest, all_commits, commits_of, is_listed, floor_of}
use Rattle.hub_model.specs.declared.entry.Condition.{Condition}
use Rattle.client_session.specs.declared.ask.ClientAsk.{ClientAsk}
use Rattle.client_session.specs.declared.ask.ClientAsk.TheVariants as ask
use Rattle.client_session.specs.declared.ask.LinkRefusal.{LinkRefusal}
use Rattle.client_session.specs.declared.read_out.ReadOut.{ReadOut}
use Rattle.client_session.specs.declared.read_out.Refreshed.{Refreshed}
use Rattle.client_session.specs.declared.read_out.Refreshed.TheVariants.{Newer, Older}
use Rattle.client_session.specs.declared.read_out.Way.{Way}
use Rattle.client_session.specs.declared.read_out.Way.TheVariants.{Direct}
use Rattle.client_session.specs.declared.reading.Position.{Position}
use Rattle.client_session.specs.declared.refusal.SessionRefusal.{SessionRefusal}
use Rattle.client_session.specs.declared.refusal.SessionRefusal.TheVariants as refusal
use Rattle.client_model.specs.declared.reply.Reply.{Reply}
use Rattle.client_session.specs.Link.{Exchange, direct, page, LinkView, Calls, is_write_status}
use Rattle.client_session.specs.declared.noted.KeyFloor.{KeyFloor}
use Rattle.client_session.specs.Noted.{noted}
use Rattle.client_session.specs.Read.{refused_of, sight_by}

-- What contracts see of a session.
pub record SessionView : Type 0 where
  pub level : Level
  -- the held page
  pub page : Option Page
  -- of each key that was read the greatest commit of its reads, and its mark
  pub floors : List (KeyShape × KeyFloor)
  -- the whitelisted keys
  pub listed : List KeyShape
  -- the greatest commit of the writes, and of all reads
  pub writes : ℕ
  pub reads : ℕ

-- the floor for a key
abbrev pub floor_with : Level → SessionView → KeyShape → ℕ
floor_with level.Session s key = max s.writes (noted s.floors key)
floor_with l s key = max s.writes s.reads

-- where the session stands before a read of a key
abbrev pub position_of : SessionView → KeyShape → Position
position_of s key = record {
  level = s.level;
  sight = sight_by s.page key;
  is_whitelisted = list_any (same_key key) s.listed;
  floor = floor_with s.level s key;
}

-- The session's numbers and its whitelist are those of this past.
pub record HasPast (s : SessionView) (past : List (Event KeyShape)) : Type 0 where
  pub writes : s.writes ≡ greatest (writes_of past)
  pub reads : s.reads ≡ greatest (all_commits (reads_of past))
  pub floors : (key : KeyShape) → noted s.floors key ≡ greatest (commits_of same_key key (reads_of past))
  pub listed : (key : KeyShape) → list_any (same_key key) s.listed ≡ is_listed same_key past key

-- no answer of a read is below the floor of the past
abbrev pub IsAboveFloor : SessionView → KeyShape → Result ReadOut SessionRefusal → Type 0
IsAboveFloor s key result = (past : List (Event KeyShape)) → HasPast s past → IfOk result (λ out. floor_of same_key s.level past key ≤ out.commit)

-- whether the way is that of a flagged key, which is then whitelisted
abbrev pub is_flagged : Way → Bool
is_flagged (Direct Flagged) = true
is_flagged way = false

-- the past with a flagged key that was asked for, where it was
abbrev pub with_listed : Bool → KeyShape → List (Event KeyShape) → List (Event KeyShape)
with_listed true key past = listed key ∷ past
with_listed false key past = past

-- the past after a read
abbrev pub past_after : KeyShape → Result ReadOut SessionRefusal → List (Event KeyShape) → List (Event KeyShape)
past_after key (Ok out) past = with_listed (is_flagged out.way) key (read key out.commit ∷ past)
past_after key (Err refused) past = past

-- ---- refresh

-- whether a page is newer than the held one: by its front, and then by its moment
abbrev pub is_newer : Option Page → Page → Bool
is_newer None p = true
is_newer (Some held) p = nat_lt held.front p.front || held.front == p.front && nat_lt held.moment p.moment

-- a newer page is held and empties the whitelist, and any other is dropped
abbrev pub IsKept : Bool → SessionView → SessionView → Page → Result Refreshed SessionRefusal → Type 0
IsKept true old new p result = (new ≡ record old { page = Some p; listed = [] }) × (result ≡ Ok Newer)
IsKept false old new p result = (new ≡ old) × (result ≡ Ok Older)

-- what a refresh makes of the link's answer
abbrev pub IsRefreshedBy : SessionView → SessionView → Result Page LinkRefusal → Result Refreshed SessionRefusal → Type 0
IsRefreshedBy old new (Ok p) result = IsKept (is_newer old.page p) old new p result
IsRefreshedBy old new (Err refused) result = (new ≡ old) × (result ≡ Err (refused_of refused))

-- a page was asked for, and this is true of the answer
abbrev pub Fetches : {L : Type 0} → (L → LinkView) → (L → Exchange → L → Type 0) → L → L → (Result Page LinkRefusal → Type 0) → Type 0
Fetches at answers first last is_so = (told : Result Page LinkRefusal) × Calls at answers first (page told) last × is_so told

-- whether the held page is behind what the session has seen of a key
abbrev pub is_behind : SessionView → KeyShape → Bool
is_behind s key = nat_lt (front_of (sight_by s.page key)) (floor_with s.level s key)

-- a page is asked for where there is a cause, and else nothing happens
abbrev pub IsRefreshedIf : {L : Type 0} → (L → LinkView) → (L → Exchange → L → Type 0) → Bool → L → L → SessionView → SessionView → Result Refreshed SessionRefusal → Type 0
IsRefreshedIf at answers true first last old new result = Fetches at answers first last (λ told. IsRefreshedBy old new told result)
IsRefreshedIf at answers false first last old new result = (first ≡ last) × (new ≡ old) × (result ≡ Ok Older)

-- the past after a refresh
abbrev pub past_refreshed : Result Refreshed SessionRefusal → List (Event KeyShape) → List (Event KeyShape)
past_refreshed (Ok Newer) past = paged ∷ past
past_refreshed result past = past

-- ---- writes

-- what the server's answer to a write gives
abbrev pub commit_by : Result Reply LinkRefusal → Result ℕ SessionRefusal
commit_by (Ok reply) = if is_write_status reply.status then Ok reply.commit else Err (refusal.Status reply.status)
commit_by (Err refused) = Err (refused_of refused)

-- what a document is put by: its printed text
abbrev pub put_of : List ℕ → List ℕ → Tree → Condition → ClientAsk
put_of collection id tree condition = ask.Put collection id (printed tree) condition

-- these calls were made for a write, and this was answered: none for want of memory, and else one of the server
abbrev pub IsWriteBy : ClientAsk → List Exchange → Result ℕ SessionRefusal → Type 0
IsWriteBy asked [] result = result ≡ Err refusal.Memory
IsWriteBy asked (direct asked_then told ∷ []) result = (asked_then ≡ asked) × (result ≡ commit_by told)
IsWriteBy asked xs result = ⊥

-- the greatest commit of the writes, after one more
abbrev pub writes_with : ℕ → Result ℕ SessionRefusal → ℕ
writes_with writes (Ok commit) = max writes commit
writes_with writes (Err refused) = writes

-- what a write leaves: its commit is noted, and a refused one leaves all
abbrev pub written_by : SessionView → Result ℕ SessionRefusal → SessionView
written_by s result = record s { writes = writes_with s.writes result }

-- the past after a write
abbrev pub past_written : Result ℕ SessionRefusal → List (Event KeyShape) → List (Event KeyShape)
past_written (Ok commit) past = wrote commit ∷ past
past_written (Err refused) past = past
