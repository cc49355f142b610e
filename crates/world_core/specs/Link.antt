-- Internal. What contracts see of the caches and the store of a run, and what a client's asks make of them.
use Rattle.std.specs.Prelude.{◌≡◌, ◌⊎◌, ◌≤◌, ◌<◌, ◌+◌, ◌==◌, nat_lt, not, ◌++◌, ℕ, Bool, true, false, if◌then◌else◌, List, [], ◌∷◌, length, map, fold, drop, max, Option, Some, None, Result, Ok, Err}
use Rattle.q_doc.specs.Tree.{Tree}
use Rattle.q_doc.specs.Printed.{printed}
use Rattle.query_normal.specs.Keys.{key_text}
use Rattle.query_normal.specs.Pages.{Page}
use Rattle.query_normal.specs.declared.key.KeyShape.{KeyShape}
use Rattle.commit_book.specs.declared.change.Change.{Change}
use Rattle.hub_model.specs.declared.entry.Condition.{Condition}
use Rattle.hub_model.specs.declared.entry.Entry.TheVariants.{Purges}
use Rattle.hub_model.specs.State.{State}
use Rattle.client_model.specs.declared.reply.Reply.{Reply}
use Rattle.client_model.specs.Issued.{IsIssuedIn}
use Rattle.cache_model.specs.declared.manner.Manner.TheVariants.{Honest}
use Rattle.cache_model.specs.Cache.{Held, Told, empty_cache, hit, validate, miss, looked_up, touched, offered, freshened, held_by, purged, without_last}
use Rattle.client_session.specs.declared.ask.ClientAsk.{ClientAsk}
use Rattle.client_session.specs.declared.ask.ClientAsk.TheVariants as ask
use Rattle.client_session.specs.declared.ask.LinkRefusal.{LinkRefusal}
use Rattle.client_session.specs.declared.ask.LinkRefusal.TheVariants as link
use Rattle.client_session.specs.declared.last.LastReplies.{LastReplies}
use Rattle.client_session.specs.Link.{LinkView, Exchange, through, direct, page}
use Rattle.world_core.specs.Replies.{bare_reply, read_reply, write_reply}
use Rattle.world_core.specs.Store.{StoreView, HasGrown, after_page, after_purges, after_write, answer_to, page_now, state_in, with_entries, with_read, written_to}

-- What contracts see of the store and the two caches before it.
pub record WorldLinkView : Type 0 where
  pub store : StoreView
  -- cache 0, and cache 1
  pub first : Held
  pub second : Held
  -- whether the next asks go through cache 1
  pub is_second : Bool
  -- the number of the last purge that cache 0 knows
  pub purges : ℕ
  pub last : LastReplies

-- ---- reads through a cache

-- a cache with a reply of the store to a read: a 304 freshens what is held, and any other is offered
abbrev pub settled : Held → KeyShape → Reply → Held
settled cache key reply = if reply.status == 304 then freshened cache key reply else offered cache key reply

-- what such a cache answers then: what is held, after a 304
abbrev pub told_by : Held → KeyShape → Reply → Option Reply
told_by cache key reply = if reply.status == 304 then held_by cache key else Some reply

-- a read that asks the store, with this tag
abbrev pub IsAnswered : Option ℕ → StoreView → StoreView → Held → Held → KeyShape → Reply → Type 0
IsAnswered tag s t old new key reply =
    (t ≡ with_read s key tag) × (new ≡ settled (touched old key) key (read_reply (answer_to s key tag))) × (told_by new key (read_reply (answer_to s key tag)) ≡ Some reply)

-- a read through a cache: a hit is the answer; else the store is asked, with the tag of what is held
abbrev pub IsReadThrough : Told → StoreView → StoreView → Held → Held → KeyShape → Reply → Type 0
IsReadThrough (hit held) s t old new key reply = (t ≡ s) × (new ≡ touched old key) × (reply ≡ held)
IsReadThrough (validate tag) s t old new key reply = IsAnswered (Some tag) s t old new key reply
IsReadThrough miss s t old new key reply = IsAnswered None s t old new key reply

-- the same where the store is asked with this tag
abbrev pub IsSomeAnswer : Option ℕ → StoreView → StoreView → Held → Held → KeyShape → Type 0
IsSomeAnswer tag s t old new key =
    (new ≡ touched old key) ⊎ ((t ≡ with_read s key tag) × (new ≡ settled (touched old key) key (read_reply (answer_to s key tag))))

-- whatever the answer, the store and the cache are as before, or after a lookup, or after a reply of the store in part: it was read, and perhaps stored
abbrev pub IsSomeRead : Told → StoreView → StoreView → Held → Held → KeyShape → Type 0
IsSomeRead (hit held) s t old new key = (t ≡ s) × (new ≡ touched old key)
IsSomeRead (validate tag) s t old new key = IsSomeAnswer (Some tag) s t old new key
IsSomeRead miss s t old new key = IsSomeAnswer None s t old new key

-- ---- what is held is issued

-- A reply is one that a state has issued for the key, of a commit that there is.
pub record IsHeldReply (s : State) (key : KeyShape) (reply : Reply) : Type 0 where
  pub issued : IsIssuedIn s key reply
  pub within : reply.commit ≤ length s.journal

-- all these are such replies
abbrev pub AreHeld : State → List (KeyShape × Reply) → Type 0
AreHeld s [] = Unit {0}
AreHeld s (p ∷ ps) = IsHeldReply s p.0 p.1 × AreHeld s ps

-- all that a cache holds is such a reply
abbrev pub HoldsIssued : State → Held → Type 0
HoldsIssued s cache = AreHeld s cache.pairs

-- The caches hold what the history has issued.
pub record IsSound (v : WorldLinkView) : Type 0 where
  pub first : HoldsIssued (state_in v.store) v.first
  pub second : HoldsIssued (state_in v.store) v.second

-- ---- the link

-- what contracts see of it as a link: it tells its history, and fails only for want of memory
abbrev pub seen_as : WorldLinkView → LinkView
seen_as v = record { setting = v.store.setting; history = Some v.store.entries; faults = 0; bad_replies = 0; last = v.last }

-- the cache through which the next asks go
abbrev pub cache_in : WorldLinkView → Held
cache_in v = if v.is_second then v.second else v.first

-- through the cache of a client: clients 0 and 1 read through cache 0, and client 2 through cache 1
abbrev pub turned : ℕ → WorldLinkView → WorldLinkView
turned client v = record v { is_second = not (nat_lt client 2) }

-- a cache without its least recently used reply: cache 1, or cache 0
abbrev pub evicted : Bool → WorldLinkView → WorldLinkView
evicted true v = record v { second = without_last v.second }
evicted false v = record v { first = without_last v.first }

-- with another store, cache and last replies
abbrev pub with_cache : Bool → WorldLinkView → StoreView → Held → WorldLinkView
with_cache true v store cache = record v { store = store; second = cache }
with_cache false v store cache = record v { store = store; first = cache }

-- a read leaves this
abbrev pub IsRead : WorldLinkView → WorldLinkView → KeyShape → Bool → Reply → Type 0
IsRead v w key no_cache reply =
    (cache : Held) × (store : StoreView) × (w ≡ with_cache v.is_second v store cache)
    × IsReadThrough (looked_up (cache_in v) v.store.moment key no_cache) v.store store (cache_in v) cache key reply

-- a write leaves this
abbrev pub IsWrite : WorldLinkView → WorldLinkView → Change → Condition → Bool → Reply → Type 0
IsWrite v w change condition is_put reply =
    (w ≡ record v { store = after_write v.store change condition }) × (reply ≡ write_reply is_put (written_to v.store change condition))

-- a put of the document that a text prints; any other text is refused
abbrev pub IsPut : WorldLinkView → WorldLinkView → List ℕ → List ℕ → List ℕ → Condition → Reply → Type 0
IsPut v w collection id text condition reply =
    ((doc : Tree) × (printed doc ≡ text) × IsWrite v w (record { collection = collection; id = id; document = Some doc }) condition true reply)
    ⊎ ((w ≡ v) × (reply ≡ bare_reply 400 0))

-- the store's answer as that of the link: it fails only for want of memory
abbrev pub linked : {X E : Type 0} → Result X E → Result X LinkRefusal
linked (Ok x) = Ok x
linked (Err e) = Err link.Memory

-- a refusal that no count of the link counts
abbrev pub IsUncounted : LinkRefusal → Type 0
IsUncounted link.Fault = ⊥
IsUncounted (link.BadReply place) = ⊥
IsUncounted refused = Unit {0}

-- what is told of an ask is of the history
abbrev pub IsAnswerOf : StoreView → StoreView → ClientAsk → Result Reply LinkRefusal → Type 0
IsAnswerOf s t (ask.Read key no_cache) (Ok reply) = IsHeldReply (state_in t) key reply
IsAnswerOf s t (ask.Read key no_cache) (Err refused) = refused ≡ link.Memory
IsAnswerOf s t asked told = Unit {0}

-- what an ask leaves, besides the last replies; where memory ran out, some entries may have been made
abbrev pub IsAnswer : WorldLinkView → WorldLinkView → ClientAsk → Result Reply LinkRefusal → Type 0
IsAnswer v w (ask.Read key no_cache) (Ok reply) = IsRead v w key no_cache reply
IsAnswer v w (ask.Put collection id text condition) (Ok reply) = IsPut v w collection id text condition reply
IsAnswer v w (ask.Delete collection id condition) (Ok reply) = IsWrite v w (record { collection = collection; id = id; document = None }) condition false reply
IsAnswer v w asked told = Unit {0}

-- the same of a page
abbrev pub IsPageAnswer : WorldLinkView → WorldLinkView → Result Page LinkRefusal → Type 0
IsPageAnswer v w (Ok p) = (w ≡ record v { store = after_page v.store }) × (p ≡ page_now v.store)
IsPageAnswer v w (Err refused) = Unit {0}

-- what a call leaves, whatever is then kept of the last replies
abbrev pub Answers : WorldLinkView → Exchange → WorldLinkView → Type 0
Answers v (through asked told) w = IsAnswer v (record w { last = v.last }) asked told
Answers v (direct asked told) w = IsAnswer v (record w { last = v.last }) asked told
Answers v (page told) w = IsPageAnswer v (record w { last = v.last }) told

-- ---- purges

-- the texts of all purged keys
abbrev pub purges_in : WorldLinkView → List (List ℕ)
purges_in v = (state_in v.store).purges

-- Cache 0 asked once for the purges that it did not know: it dropped the keys of the next ones, if there were any, and knows them now.
pub record IsPulledSome (is_more : Bool) (old new : WorldLinkView) : Type 0 where
  pub keys : List KeyShape
  pub from : ℕ
  pub texts : map key_text keys ++ drop new.purges (purges_in old) ≡ drop old.purges (purges_in old)
  pub known : new.purges ≡ old.purges + length keys
  pub within : new.purges ≤ max old.purges (length (purges_in old))
  -- whether there are more
  pub more : is_more ≡ nat_lt new.purges (length (purges_in old))
  pub further : is_more ≡ true → old.purges < new.purges
  pub dropped : new.first ≡ fold purged old.first keys
  pub asked : new.store ≡ after_purges old.store from
  pub rest : new ≡ record old { store = new.store; first = new.first; purges = new.purges }

-- Cache 0 asked for purges: it dropped the keys of all those after those that it knew, and knows them now.
pub record IsPulled (old new : WorldLinkView) : Type 0 where
  pub keys : List KeyShape
  -- the numbers from which it asked, one after another
  pub froms : List ℕ
  pub texts : map key_text keys ≡ drop old.purges (purges_in old)
  pub known : new.purges ≡ max old.purges (length (purges_in old))
  pub dropped : new.first ≡ fold purged old.first keys
  pub asked : new.store ≡ with_entries old.store (map (Purges old.store.moment) froms)
  pub rest : new ≡ record old { store = new.store; first = new.first; purges = new.purges }

-- ---- the beginning

-- how many replies a cache holds at most
abbrev pub capacity : ℕ
capacity = 500

-- a store with these caches, of which nothing was asked
abbrev pub link_over : StoreView → Held → Held → WorldLinkView
link_over store first second = record {
  store = store;
  first = first;
  second = second;
  is_second = false;
  purges = 0;
  last = record { through = None; direct = None; page = None };
}

-- a store with empty caches
abbrev pub IsStart : StoreView → WorldLinkView → Type 0
IsStart store v = v ≡ link_over store (empty_cache capacity Honest) (empty_cache capacity Honest)
