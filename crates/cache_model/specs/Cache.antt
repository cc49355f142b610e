-- Internal. What a cache holds, and what each call makes of it.
use Rattle.std.specs.Prelude.{ℕ, ◌+◌, ◌-◌, Bool, true, false, not, ◌&&◌, ◌||◌, ◌==◌, if◌then◌else◌, nat_eq, nat_lt, List, [], ◌∷◌, length, take, Option, Some, None, is_some}
use Rattle.std.specs.Map.{lookup, remove_entry, set_value}
use Rattle.query_normal.specs.declared.key.KeyShape.{KeyShape}
use Rattle.query_normal.specs.Keys.{same_key}
use Rattle.client_model.specs.declared.reply.Reply.{Reply}
use Rattle.cache_model.specs.declared.manner.Manner.{Manner}
use Rattle.cache_model.specs.declared.manner.Manner.TheVariants as manner
use Rattle.cache_model.specs.declared.lookup.Answer.{Answer}
use Rattle.cache_model.specs.declared.lookup.Answer.TheVariants as answer
use Rattle.cache_model.specs.declared.lookup.Lookup.{Lookup}
use Rattle.cache_model.specs.declared.lookup.Lookup.TheVariants as found

-- the keys and their replies, the most recently used first, how many there may be, and how the cache keeps the rules
pub record Held : Type 0 where
  pub pairs : List (KeyShape × Reply)
  pub capacity : ℕ
  pub manner : Manner

-- a cache that holds nothing
abbrev pub empty_cache : ℕ → Manner → Held
empty_cache capacity manner = record { pairs = []; capacity = capacity; manner = manner }

-- the reply of a key
abbrev pub held_by : Held → KeyShape → Option Reply
held_by cache key = lookup (same_key key) cache.pairs

-- whether a key is held
abbrev pub is_held : Held → KeyShape → Bool
is_held cache key = is_some (held_by cache key)

-- for how many seconds longer a cache takes a reply as fresh
abbrev pub lateness : Manner → ℕ
lateness manner.Honest = 0
lateness (manner.Late seconds) = seconds
lateness manner.IgnoresNoCache = 0

-- whether a request asks this cache for no stored reply
abbrev pub is_unwanted : Manner → Bool → Bool
is_unwanted manner.Honest no_cache = no_cache
is_unwanted (manner.Late seconds) no_cache = no_cache
is_unwanted manner.IgnoresNoCache no_cache = false

-- whether a lifetime, with some seconds more, is above an age (RFC 9111, section 4.2)
abbrev pub outlives : Option ℕ → ℕ → ℕ → Bool
outlives None late age = false
outlives (Some max_age) late age = nat_lt age (max_age + late)

-- whether a held reply may answer a request; its age is the moment less its date, and 0 where that is negative
abbrev pub may_hit : Manner → ℕ → Bool → Reply → Bool
may_hit m moment no_cache reply = not (is_unwanted m no_cache) && outlives reply.max_age (lateness m) (moment - reply.date)

-- what a cache does with a request: it answers with a held reply, it asks whether a tag is current, or it passes the request on
pub data Told : Type 0 where
  hit : Reply → Told
  validate : ℕ → Told
  miss : Told

-- without a hit, the tag of a held reply is asked about, where it has one
abbrev pub unless_hit : Option ℕ → Told
unless_hit None = miss
unless_hit (Some tag) = validate tag

-- what is done with a request whose key has this reply
abbrev pub told_by : Manner → ℕ → Bool → Option Reply → Told
told_by m moment no_cache None = miss
told_by m moment no_cache (Some reply) = if may_hit m moment no_cache reply then hit reply else unless_hit reply.tag

-- what a cache does with a request for a key
abbrev pub looked_up : Held → ℕ → KeyShape → Bool → Told
looked_up cache moment key no_cache = told_by cache.manner moment no_cache (held_by cache key)

-- the same without the reply of a hit
abbrev pub answer_of : Told → Answer
answer_of (hit reply) = answer.Hit
answer_of (validate tag) = answer.Validate tag
answer_of miss = answer.Miss

-- what a lookup says
abbrev pub lookup_of : Lookup → Told
lookup_of (found.Hit reply) = hit reply.now
lookup_of (found.Validate tag) = validate tag
lookup_of found.Miss = miss

-- an answer with the reply that is held
abbrev pub told_again : Answer → Option Reply → Told
told_again answer.Hit (Some reply) = hit reply
told_again answer.Hit None = miss
told_again (answer.Validate tag) held = validate tag
told_again answer.Miss held = miss

-- the pairs with that of a held key first
abbrev pub brought_first : KeyShape → Option Reply → List (KeyShape × Reply) → List (KeyShape × Reply)
brought_first key None pairs = pairs
brought_first key (Some reply) pairs = (key, reply) ∷ remove_entry (same_key key) pairs

-- after a lookup of a key
abbrev pub touched : Held → KeyShape → Held
touched cache key = record cache { pairs = brought_first key (held_by cache key) cache.pairs }

-- whether a reply may be stored: it has the status 200 or 404, and a lifetime
abbrev pub is_storable : Reply → Bool
is_storable reply = (nat_eq reply.status 200 || nat_eq reply.status 404) && is_some reply.max_age

-- the pairs that stay beside a new one of a key: all but the key's old one, or, where it has none, as many as there is space for
abbrev pub beside : KeyShape → ℕ → Option Reply → List (KeyShape × Reply) → List (KeyShape × Reply)
beside key capacity None pairs = take (capacity - 1) pairs
beside key capacity (Some old) pairs = remove_entry (same_key key) pairs

-- after a reply was stored
abbrev pub stored : Held → KeyShape → Reply → Held
stored cache key reply = record cache { pairs = (key, reply) ∷ beside key cache.capacity (held_by cache key) cache.pairs }

-- after a reply was offered
abbrev pub offered : Held → KeyShape → Reply → Held
offered cache key reply = if is_storable reply then stored cache key reply else cache

-- whether two tags name the same commit
abbrev pub same_tag : Option ℕ → Option ℕ → Bool
same_tag (Some a) (Some b) = nat_eq a b
same_tag a b = false

-- whether a 304 updates the reply of a key: both have the same tag
abbrev pub updates : Reply → Option Reply → Bool
updates reply None = false
updates reply (Some held) = same_tag held.tag reply.tag

-- whether a 304 updates what a cache holds for a key
abbrev pub is_freshened : Held → KeyShape → Reply → Bool
is_freshened cache key reply = updates reply (held_by cache key)

-- a held reply with the commit, the until, the date and the lifetime of a 304
abbrev pub updated : Reply → Reply → Reply
updated held reply = record held { commit = reply.commit; until = reply.until; date = reply.date; max_age = reply.max_age }

-- the pairs after a 304 for a key; their order stays
abbrev pub updated_pairs : KeyShape → Reply → Option Reply → List (KeyShape × Reply) → List (KeyShape × Reply)
updated_pairs key reply None pairs = pairs
updated_pairs key reply (Some held) pairs = if same_tag held.tag reply.tag then set_value (same_key key) pairs (updated held reply) else pairs

-- after a 304 for a key
abbrev pub freshened : Held → KeyShape → Reply → Held
freshened cache key reply = record cache { pairs = updated_pairs key reply (held_by cache key) cache.pairs }

-- after the reply of a key was dropped
abbrev pub purged : Held → KeyShape → Held
purged cache key = record cache { pairs = remove_entry (same_key key) cache.pairs }

-- whether a cache holds anything
abbrev pub has_last : Held → Bool
has_last cache = not (length cache.pairs == 0)

-- after the least recently used reply was dropped
abbrev pub without_last : Held → Held
without_last cache = record cache { pairs = take (length cache.pairs - 1) cache.pairs }
