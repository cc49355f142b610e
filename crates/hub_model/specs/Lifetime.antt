-- Believed. How long a reply may be kept: its freshness lifetime (RFC 9111, section 4.2.1).
use Rattle.std.specs.Prelude.{ℕ, ◌+◌, ◌*◌, ◌-◌, max, min, Bool, true, false, not, ◌&&◌, if◌then◌else◌, nat_lt, List, length, filter, map, fold, sum_by, Option, None, unwrap_or, bytes_eq}
use Rattle.std.specs.Map.{lookup}
use Rattle.query_core.specs.Window.{window}
use Rattle.query_normal.specs.Keys.{same_key}
use Rattle.query_normal.specs.declared.key.KeyShape.{KeyShape}
use Rattle.query_normal.specs.declared.key.KeyShape.TheVariants.{Record, Query}
use Rattle.commit_book.specs.Documents.{docs}
use Rattle.ttl_estimator.specs.declared.limits.Limits.{Limits}
use Rattle.ttl_estimator.specs.Estimates.{mean_of}
use Rattle.ttl_estimator.specs.Lifetime.{record_lifetime, query_lifetime}
use Rattle.ttl_estimator.specs.Rates.{last_eight, rate_at}
use Rattle.hub_model.specs.Copies.{active_keys, is_active, issues}
use Rattle.hub_model.specs.Journal.{Finding, absent, present, queried, result_at}
use Rattle.hub_model.specs.Setting.{Setting}
use Rattle.hub_model.specs.State.{State}

-- the limits of lifetimes, and how many keys may be active
abbrev pub limits_of : Setting → Limits
limits_of g = record { low = g.ttl_low; high = g.ttl_high; active = g.active }

-- the clocks after the accepted writes of a record, the oldest first
abbrev pub write_clocks : State → List ℕ → List ℕ → List ℕ
write_clocks s collection id = map (λ w. w.clock) (filter (λ w. bytes_eq w.collection collection && bytes_eq w.id id) s.writes)

-- the writes of a record in a million seconds, by its last eight
abbrev pub record_rate : State → List ℕ → List ℕ → ℕ
record_rate s collection id = rate_at s.clock (last_eight (write_clocks s collection id))

-- the estimate that is kept of the lifetime of an active key: the newest; none of another key
abbrev pub estimate : State → KeyShape → Option ℕ
estimate s key = if is_active s key then lookup (same_key key) s.estimates else None

-- the clock after the last read of a key that issued a copy, or 0
abbrev pub last_issue : State → KeyShape → ℕ
last_issue s key = fold (λ clock r. if same_key key r.key then r.clock else clock) 0 (issues s)

-- the estimate after a match that purges the key, in a state whose clock is that of the match: the mean of seven parts of it and three parts of the time since the last issue
abbrev pub estimate_after : Setting → State → KeyShape → ℕ
estimate_after g s key = mean_of (limits_of g) (unwrap_or (estimate s key) 0) (s.clock - last_issue s key)

-- the lifetime of a reply at a commit, in a state whose clock is that of the read, where nothing is said of absent records: none where a further key would be active beyond the limit; else of a record by the rate of its writes, and of a query by the rates of the records that it finds, or its estimate while it is active
abbrev pub estimated_ttl : Setting → State → KeyShape → ℕ → ℕ
estimated_ttl g s (Record collection id) at = record_lifetime (limits_of g) (is_active s (Record collection id)) (length (active_keys s)) (record_rate s collection id)
estimated_ttl g s (Query kind normal) at =
    query_lifetime (limits_of g) (is_active s (Query kind normal)) (length (active_keys s)) (unwrap_or (estimate s (Query kind normal)) 0)
    (sum_by (λ row. record_rate s normal.collection row.0) (window normal (docs s.journal at normal.collection)))

-- there is no such record
abbrev pub is_absence : Finding → Bool
is_absence absent = true
is_absence (present version tree) = false
is_absence (queried result) = false

-- a read of the key at a commit finds that there is no such record
abbrev pub is_absent : State → KeyShape → ℕ → Bool
is_absent s key at = is_absence (result_at key s.journal at)

-- the state with the copies of absent records alone, whose active keys are the absent active keys
abbrev pub of_absents : State → State
of_absents s = record s { copies = filter (λ r. r.absent) s.copies }

-- whether a lifetime is bounded: the configuration says how long those of absent records are, and the read finds that there is none
abbrev pub is_bounded : Setting → Bool → Bool
is_bounded g none = nat_lt 0 g.ttl_absent && none

-- the lifetime of a reply that tells of no record, whether its key is among the absent active keys, how many there are, and what it were else: none where a further key would have more than a quarter of all places for absent keys
abbrev pub absent_ttl : Setting → Bool → ℕ → ℕ → ℕ
absent_ttl g active count ttl = if not active && nat_lt g.active (4 * (count + 1)) then 0 else min ttl g.ttl_absent

-- the lifetime of a reply at a commit, in a state whose clock is that of the read: that of an absent record may be bounded
abbrev pub ttl_of : Setting → State → KeyShape → ℕ → ℕ
ttl_of g s key at =
    if is_bounded g (is_absent s key at)
    then absent_ttl g (is_active (of_absents s) key) (length (active_keys (of_absents s))) (estimated_ttl g s key at)
    else estimated_ttl g s key at

-- for how many seconds shared caches may keep a reply of this lifetime: not at all where that is 0 (RFC 9111, section 5.2.2.10)
abbrev pub shared_of : Setting → ℕ → ℕ
shared_of g ttl = if nat_lt 0 ttl then g.ttl_shared else 0

-- for how many seconds some cache may keep it: the longer of both
abbrev pub kept_for : Setting → ℕ → ℕ
kept_for g ttl = max ttl (shared_of g ttl)
