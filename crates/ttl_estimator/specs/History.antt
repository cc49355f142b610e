-- Internal. Histories, as far as lifetimes depend on them: the newest entry first.
use Rattle.std.specs.Prelude.{◌≡◌, ℕ, ◌+◌, ◌-◌, Bool, false, not, ◌&&◌, max, nat_lt, if◌then◌else◌, List, [], ◌∷◌, ◌++◌, Option, Some, None, map, filter, sum_by, bytes_eq}
use Rattle.std.specs.List.{list_any}
use Rattle.std.specs.Set.{distinct_count}
use Rattle.query_normal.specs.declared.key.KeyShape.{KeyShape}
use Rattle.query_normal.specs.declared.key.KeyShape.TheVariants.{Record, Query}
use Rattle.query_normal.specs.Keys.{same_key}
use Rattle.ttl_estimator.specs.declared.limits.Limits.{Limits}
use Rattle.ttl_estimator.specs.declared.estimates.Kept.{Kept}
use Rattle.ttl_estimator.specs.Calls.{Call, write, issue, purge, idle, room, write_clocks}
use Rattle.ttl_estimator.specs.Estimates.{mean_of}
use Rattle.ttl_estimator.specs.Lifetime.{query_lifetime, record_lifetime}
use Rattle.ttl_estimator.specs.Rates.{last_eight, rate_at}

-- at a moment: an accepted write of a record, a read of a key that was answered for a lifetime, a match that purged keys, or any other entry
pub data Entry : Type 0 where
  wrote : List ℕ → List ℕ → ℕ → Entry
  answered : KeyShape → ℕ → ℕ → Entry
  matched : List KeyShape → ℕ → Entry
  passed : ℕ → Entry

-- the moment of an entry
abbrev pub moment_of : Entry → ℕ
moment_of (wrote collection id moment) = moment
moment_of (answered key ttl moment) = moment
moment_of (matched keys moment) = moment
moment_of (passed moment) = moment

-- the clock: the greatest moment so far
abbrev pub clock_after : List Entry → ℕ
clock_after [] = 0
clock_after (e ∷ h) = max (clock_after h) (moment_of e)

-- the clock of a write, if the entry is an accepted write of this record
abbrev pub own_clock : Entry → ℕ → List ℕ → List ℕ → List ℕ
own_clock (wrote c i moment) clock collection id = if bytes_eq c collection && bytes_eq i id then clock ∷ [] else []
own_clock e clock collection id = []

-- the clocks after the accepted writes of a record, deletions too, the oldest first
abbrev pub clocks_in : List Entry → List ℕ → List ℕ → List ℕ
clocks_in [] collection id = []
clocks_in (e ∷ h) collection id = clocks_in h collection id ++ own_clock e (clock_after (e ∷ h)) collection id

-- whether an entry issued a copy of a key: a read that was answered for a lifetime above 0
abbrev pub is_issue : Entry → KeyShape → Bool
is_issue (answered other ttl moment) key = same_key key other && nat_lt 0 ttl
is_issue e key = false

-- whether an entry purged a key
abbrev pub is_purge : Entry → KeyShape → Bool
is_purge (matched keys moment) key = list_any (same_key key) keys
is_purge e key = false

-- the lifetime that an entry gave
abbrev pub ttl_of : Entry → ℕ
ttl_of (answered key ttl moment) = ttl
ttl_of e = 0

-- the copy that an entry issued: its key, and the second at which it expires
abbrev pub own_copy : Entry → ℕ → List (KeyShape × ℕ)
own_copy (answered key ttl moment) clock = if nat_lt 0 ttl then (key, clock + ttl) ∷ [] else []
own_copy e clock = []

-- the copies that were issued
abbrev pub copies_in : List Entry → List (KeyShape × ℕ)
copies_in [] = []
copies_in (e ∷ h) = own_copy e (clock_after (e ∷ h)) ++ copies_in h

-- a copy of a key is unexpired at a clock
abbrev pub is_copy_at : ℕ → KeyShape → KeyShape × ℕ → Bool
is_copy_at clock key copy = same_key key copy.0 && nat_lt clock copy.1

-- whether a key is active at a clock: a copy of it that was issued is unexpired
abbrev pub is_active_at : ℕ → List Entry → KeyShape → Bool
is_active_at clock h key = list_any (is_copy_at clock key) (copies_in h)

-- the number of keys that are active at a clock
abbrev pub active_count_at : ℕ → List Entry → ℕ
active_count_at clock h = distinct_count same_key (map (λ copy. copy.0) (filter (λ copy. nat_lt clock copy.1) (copies_in h)))

-- the clock after the last issue of a key
abbrev pub last_issue : List Entry → KeyShape → ℕ
last_issue [] key = 0
last_issue (e ∷ h) key = if is_issue e key then clock_after (e ∷ h) else last_issue h key

-- the estimate of a key, while it is active: the issue that made it active sets it, and each match that purges it takes the mean of it and of the time since the last issue
abbrev pub estimate_in : Limits → List Entry → KeyShape → ℕ
estimate_in g [] key = 0
estimate_in g (e ∷ h) key =
    if is_issue e key then (if is_active_at (clock_after (e ∷ h)) h key then estimate_in g h key else ttl_of e) else (if is_purge e key then mean_of g (estimate_in g h key) (clock_after (e ∷ h) - last_issue h key) else estimate_in g h key)

-- what is kept of a key: its estimate and the clock at its last issue while it is active, and else nothing
abbrev pub kept_in : Limits → List Entry → KeyShape → Option Kept
kept_in g h key = if is_active_at (clock_after h) h key then Some (record { estimate = estimate_in g h key; issued = last_issue h key }) else None

-- for how many seconds a reply for a key may be kept at a clock, of a query that finds the records with these ids
abbrev pub lifetime_in : Limits → List Entry → KeyShape → List (List ℕ) → ℕ → ℕ
lifetime_in g h (Record collection id) ids clock =
    record_lifetime g (is_active_at clock h (Record collection id)) (active_count_at clock h) (rate_at clock (last_eight (clocks_in h collection id)))
lifetime_in g h (Query kind normal) ids clock =
    query_lifetime g (is_active_at clock h (Query kind normal)) (active_count_at clock h) (estimate_in g h (Query kind normal)) (sum_by (λ id. rate_at clock (last_eight (clocks_in h normal.collection id))) ids)

-- a key was active, and is no longer so at the clock of an entry
abbrev pub went_idle : Entry → List Entry → KeyShape → Bool
went_idle e h key = is_active_at (clock_after h) h key && not (is_active_at (clock_after (e ∷ h)) h key)

-- the call for a key that an entry asks for
abbrev pub own_call : Entry → ℕ → KeyShape → List Call
own_call e clock key = if is_issue e key then issue key (ttl_of e) clock ∷ [] else (if is_purge e key then purge key clock ∷ [] else [])

-- the calls for a key that a history asks for, the newest first; before an entry is noted the key is, if it is no longer active
abbrev pub calls_for : List Entry → KeyShape → List Call
calls_for [] key = []
calls_for (e ∷ h) key = own_call e (clock_after (e ∷ h)) key ++ ((if went_idle e h key then idle key ∷ [] else []) ++ calls_for h key)

-- whether a call is for a key
abbrev pub is_for : KeyShape → Call → Bool
is_for key (write collection id clock) = false
is_for key (issue other ttl clock) = same_key other key
is_for key (purge other clock) = same_key other key
is_for key (idle other) = same_key other key
is_for key room = false

-- the key of a query
abbrev pub IsQueryKey : KeyShape → Type 0
IsQueryKey (Record collection id) = ⊥
IsQueryKey (Query kind normal) = Unit {0}

-- The calls are those of a history: the writes of each record, and what is told of each key of a query.
pub record AreCallsOf (h : List Entry) (calls : List Call) : Type 0 where
  pub writes : (collection id : List ℕ) → write_clocks calls collection id ≡ clocks_in h collection id
  pub keys : (key : KeyShape) → IsQueryKey key → filter (is_for key) calls ≡ calls_for h key
