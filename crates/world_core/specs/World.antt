-- Internal. What a run makes of a world, step by step.
use Rattle.std.specs.Prelude.{◌≡◌, ◌≤◌, ℕ, zero, suc, nat_lt, List, [], ◌∷◌, ◌++◌, length, Some, None, Ok, ◌*◌, ◌%◌}
use Rattle.q_doc.specs.Tree.{Tree}
use Rattle.query_normal.specs.declared.key.KeyShape.{KeyShape}
use Rattle.client_core.specs.declared.level.Level.{Level}
use Rattle.client_core.specs.declared.level.Level.TheVariants as level
use Rattle.client_core.specs.Choice.{front_of}
use Rattle.client_core.specs.Floor.{Event}
use Rattle.commit_book.specs.declared.change.Change.{Change}
use Rattle.hub_model.specs.declared.entry.Condition.TheVariants.{Always}
use Rattle.hub_model.specs.Record.{record_of}
use Rattle.hub_model.specs.Setting.{default_setting}
use Rattle.client_session.specs.declared.ask.ClientAsk.TheVariants as ask
use Rattle.client_session.specs.declared.read_out.ReadOut.{ReadOut}
use Rattle.client_session.specs.declared.read_out.Refreshed.{Refreshed}
use Rattle.client_session.specs.Link.{Makes}
use Rattle.client_session.specs.Read.{IsReadBy, IsResult, Holds, sight_by}
use Rattle.client_session.specs.Session.{SessionView, HasPast, IsAboveFloor, Fetches, IsRefreshedBy, IsWriteBy, past_after, past_refreshed, past_written, position_of, put_of, written_by}
use Rattle.world_core.specs.declared.line.ReadLine.{ReadLine}
use Rattle.world_core.specs.declared.step.Step.{Step}
use Rattle.world_core.specs.declared.step.Step.TheVariants as step
use Rattle.world_core.specs.Lines.{line_of}
use Rattle.world_core.specs.Link.{WorldLinkView, Answers, IsPulled, IsStart, evicted, seen_as, turned}
use Rattle.world_core.specs.Products.{collection, product_id, products, IsProduct}
use Rattle.world_core.specs.Store.{StoreView, advanced, after_match, after_write, commits_in, state_in}

-- What contracts see of a world: the store with its caches, and the session of each client.
pub record WorldView : Type 0 where
  pub link : WorldLinkView
  pub first : SessionView
  pub second : SessionView
  pub third : SessionView

-- the session of a client
abbrev pub session_in : ℕ → WorldView → SessionView
session_in zero w = w.first
session_in (suc zero) w = w.second
session_in client w = w.third

-- with another session of a client, and another link
abbrev pub with_session : ℕ → WorldView → SessionView → WorldLinkView → WorldView
with_session zero w session link = record w { first = session; link = link }
with_session (suc zero) w session link = record w { second = session; link = link }
with_session client w session link = record w { third = session; link = link }

-- A client has read: by these calls of its link, at a commit that is not below the front of the held page and the floor, the result at that commit in the history.
pub record IsClientRead (key : KeyShape) (out : ReadOut) (s t : SessionView) (v w : WorldLinkView) : Type 0 where
  pub by : Makes seen_as Answers v w (λ xs. IsReadBy (position_of s key) key xs (Ok out))
  pub front : front_of (sight_by s.page key) ≤ out.commit
  pub floor : IsAboveFloor s key (Ok out)
  pub body : IsResult (seen_as w) key out
  pub page : t.page ≡ s.page
  pub past : (past : List (Event KeyShape)) → HasPast s past → HasPast t (past_after key (Ok out) past)

-- A session has put a document.
pub record IsDocPut (kept id : List ℕ) (doc : Tree) (s t : SessionView) (v w : WorldLinkView) : Type 0 where
  pub commit : ℕ
  pub by : Makes seen_as Answers v w (λ xs. IsWriteBy (put_of kept id doc Always) xs (Ok commit))
  pub session : t ≡ written_by s (Ok commit)
  pub past : (past : List (Event KeyShape)) → HasPast s past → HasPast t (past_written (Ok commit) past)

-- A client has put the document of a product.
pub record IsClientPut (product price stock : ℕ) (s t : SessionView) (v w : WorldLinkView) : Type 0 where
  pub doc : Tree
  pub is_product : IsProduct product price stock doc
  pub put : IsDocPut collection (product_id product) doc s t v w

-- A session has deleted a record.
pub record IsRecordDelete (kept id : List ℕ) (s t : SessionView) (v w : WorldLinkView) : Type 0 where
  pub commit : ℕ
  pub by : Makes seen_as Answers v w (λ xs. IsWriteBy (ask.Delete kept id Always) xs (Ok commit))
  pub session : t ≡ written_by s (Ok commit)
  pub past : (past : List (Event KeyShape)) → HasPast s past → HasPast t (past_written (Ok commit) past)

-- a client has deleted a product
abbrev pub IsClientDelete : ℕ → SessionView → SessionView → WorldLinkView → WorldLinkView → Type 0
IsClientDelete product s t v w = IsRecordDelete collection (product_id product) s t v w

-- A client has fetched a page, and holds the newer one.
pub record IsClientRefresh (s t : SessionView) (v w : WorldLinkView) : Type 0 where
  pub refreshed : Refreshed
  pub by : Fetches seen_as Answers v w (λ told. IsRefreshedBy s t told (Ok refreshed))
  pub past : (past : List (Event KeyShape)) → HasPast s past → HasPast t (past_refreshed (Ok refreshed) past)

-- A client acted through its cache; the other sessions stay.
pub record IsClientStep (client : ℕ) (acts : SessionView → SessionView → WorldLinkView → WorldLinkView → Type 0) (w x : WorldView) : Type 0 where
  pub session : SessionView
  pub link : WorldLinkView
  pub acted : acts (session_in client w) session (turned client w.link) link
  pub world : x ≡ with_session client w session link

-- with another store
abbrev pub with_store : WorldView → StoreView → WorldView
with_store w store = record w { link = record w.link { store = store } }

-- cache 0 asked for the purges that it did not know
abbrev pub IsWorldPulled : WorldView → WorldView → Type 0
IsWorldPulled w x = (link : WorldLinkView) × IsPulled w.link link × (x ≡ record w { link = link })

-- what a step makes of a world, and the line that it writes, if any
abbrev pub IsStep : ℕ → Step → WorldView → WorldView → List ReadLine → Type 0
IsStep n (step.Read client key) w x lines = (out : ReadOut) × IsClientStep client (IsClientRead key out) w x × (lines ≡ line_of n client key out ∷ [])
IsStep n (step.Put client product price stock) w x lines = IsClientStep client (IsClientPut product price stock) w x × (lines ≡ [])
IsStep n (step.Delete client product) w x lines = IsClientStep client (IsClientDelete product) w x × (lines ≡ [])
IsStep n (step.Refresh client) w x lines = IsClientStep client IsClientRefresh w x × (lines ≡ [])
IsStep n step.Match w x lines = (x ≡ with_store w (after_match w.link.store)) × (lines ≡ [])
IsStep n (step.Advance seconds) w x lines = (x ≡ with_store w (advanced w.link.store seconds)) × (lines ≡ [])
IsStep n step.Pull w x lines = IsWorldPulled w x × (lines ≡ [])
IsStep n (step.Evict cache) w x lines = (x ≡ record w { link = evicted (nat_lt 0 cache) w.link }) × (lines ≡ [])

-- a step appended its line, if any
abbrev pub IsStepInto : ℕ → Step → WorldView → WorldView → List ReadLine → List ReadLine → Type 0
IsStepInto n s w x old new = (line : List ReadLine) × IsStep n s w x line × (new ≡ old ++ line)

-- what steps make of a world, numbered from a number on, and the lines that they write
abbrev pub IsRun : ℕ → List Step → WorldView → WorldView → List ReadLine → Type 0
IsRun n [] w x lines = (x ≡ w) × (lines ≡ [])
IsRun n (s ∷ ss) w x lines = (mid : WorldView) × (line rest : List ReadLine) × IsStep n s w mid line × IsRun (suc n) ss mid x rest × (lines ≡ line ++ rest)

-- the pages that the clients hold were fetched in the history, which is legal
pub record IsWorld (w : WorldView) : Type 0 where
  pub first : Holds (seen_as w.link) w.first.page
  pub second : Holds (seen_as w.link) w.second.page
  pub third : Holds (seen_as w.link) w.third.page

-- the number of commits of a world, and of keys in its record
abbrev pub commits_of : WorldView → ℕ
commits_of w = commits_in w.link.store

-- the number of keys in its record
abbrev pub record_of_world : WorldView → ℕ
record_of_world w = length (record_of (state_in w.link.store))

-- ---- the beginning

-- the change that puts a product as it is at the beginning
abbrev pub IsFirst : ℕ → Change → Type 0
IsFirst index change =
    (doc : Tree) × IsProduct index (37 * index % 1000) (index % 50) doc × (change ≡ record { collection = collection; id = product_id index; document = Some doc })

-- these changes put the products from a number on
abbrev pub AreFirst : ℕ → List Change → Type 0
AreFirst index [] = Unit {0}
AreFirst index (change ∷ changes) = IsFirst index change × AreFirst (suc index) changes

-- the store after the write of a product that there was not
abbrev pub IsPutFirst : ℕ → StoreView → StoreView → Type 0
IsPutFirst index s t =
    (change : Change) × IsFirst index change × (t ≡ after_write s change Always) × ((state_in t).journal ≡ (state_in s).journal ++ change ∷ [])

-- The store with this many products, of which none may be matched.
pub record IsFilled (filled : ℕ) (s : StoreView) : Type 0 where
  pub setting : s.setting ≡ default_setting
  pub moment : s.moment ≡ 1000000
  pub count : length (state_in s).journal ≡ filled
  pub first : AreFirst 0 (state_in s).journal

-- The store at the beginning: the default configuration, all products in order and matched, at the moment of the beginning.
pub record IsFirstStore (s : StoreView) : Type 0 where
  pub setting : s.setting ≡ default_setting
  pub moment : s.moment ≡ 1000000
  pub count : length (state_in s).journal ≡ products
  pub first : AreFirst 0 (state_in s).journal
  pub front : (state_in s).front ≡ products

-- A session that has seen nothing and holds no page.
pub record IsFresh (l : Level) (s : SessionView) : Type 0 where
  pub level : s.level ≡ l
  pub page : s.page ≡ None
  pub past : HasPast s []

-- A world before its first step: the store at the beginning, empty caches, and clients that have seen nothing.
pub record IsNew (w : WorldView) : Type 0 where
  pub store : IsFirstStore w.link.store
  pub link : IsStart w.link.store w.link
  pub first : IsFresh level.Session w.first
  pub second : IsFresh level.Causal w.second
  pub third : IsFresh level.Session w.third
