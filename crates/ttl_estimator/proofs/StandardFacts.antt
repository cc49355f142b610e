-- Worked cases of lifetimes, computed from the definitions.
use Rattle.std.proofs.Common.{◌≡◌, ℕ, List, [], ◌∷◌, Some, None, true, codes, refl}
use Rattle.query_normal.specs.declared.key.KeyShape.{KeyShape}
use Rattle.query_normal.specs.declared.key.KeyShape.TheVariants.{Record}
use Rattle.query_normal.specs.declared.key.KeyShape.TheVariants as TheVariants
use Rattle.query_core.specs.Filters.{constant}
use Rattle.query_core.specs.declared.query.Query.{Query}
use Rattle.query_core.specs.declared.query.Kind.TheVariants.{Objects}
use Rattle.ttl_estimator.specs.declared.limits.Limits.{Limits}
use Rattle.ttl_estimator.specs.History.{Entry, wrote, answered, matched, passed, active_count_at, calls_for, kept_in, lifetime_in}
use Rattle.ttl_estimator.specs.Calls.{issue, purge, idle}
use Rattle.ttl_estimator.specs.Rates.{last_eight, rate_at}

-- lifetimes from one second to an hour
abbrev hour : Limits
hour = record { low = 1; high = 3600; active = 10000 }

-- every lifetime is a minute
abbrev minute : Limits
minute = record { low = 60; high = 60; active = 10000 }

-- no key may be active
abbrev no_copies : Limits
no_copies = record { low = 1; high = 3600; active = 0 }

-- one key may be active
abbrev one_copy : Limits
one_copy = record { low = 1; high = 3600; active = 1 }

abbrev shop : List ℕ
shop = codes "shop"

abbrev p1 : List ℕ
p1 = codes "p1"

abbrev p2 : List ℕ
p2 = codes "p2"

abbrev p3 : List ℕ
p3 = codes "p3"

-- ---- a record that was written at 100, and is read at once

abbrev one_write : List Entry
one_write = wrote shop p1 100 ∷ []

first_read : lifetime_in hour one_write (Record shop p1) [] 100 ≡ 1
first_read = refl

-- ---- p1 is written at 100, 200 and 300, and p2 at 100; the newest first

abbrev writes : List Entry
writes = wrote shop p1 300 ∷ wrote shop p1 200 ∷ wrote shop p2 100 ∷ wrote shop p1 100 ∷ []

p1_lifetime : lifetime_in hour writes (Record shop p1) [] 400 ≡ 69
p1_lifetime = refl

p2_rate : rate_at 400 (100 ∷ []) ≡ 3333
p2_rate = refl

p1_rate : rate_at 400 (100 ∷ 200 ∷ 300 ∷ []) ≡ 10000
p1_rate = refl

-- a record that was never written
never_written : lifetime_in hour writes (Record shop p3) [] 400 ≡ 3600
never_written = refl

-- where no key may be active each reply has no lifetime
never_kept : lifetime_in no_copies writes (Record shop p1) [] 400 ≡ 0
never_kept = refl

-- a minute is the only lifetime, whatever was written
minute_lifetime : lifetime_in minute writes (Record shop p1) [] 400 ≡ 60
minute_lifetime = refl

-- while one key is active no other may be, and that one keeps its lifetimes
one_active : (lifetime_in one_copy (answered (Record shop p1) 69 400 ∷ writes) (Record shop p2) [] 468 ≡ 0) × (lifetime_in one_copy (answered (Record shop p1) 69 400 ∷ writes) (Record shop p2) [] 469 ≡ 255) × (lifetime_in one_copy (answered (Record shop p1) 69 400 ∷ writes) (Record shop p1) [] 468 ≡ 85)
one_active = (refl, refl, refl)

-- of nine writes the last eight count
nine_writes : rate_at 900 (last_eight (100 ∷ 200 ∷ 300 ∷ 400 ∷ 500 ∷ 600 ∷ 700 ∷ 800 ∷ 900 ∷ [])) ≡ 11428
nine_writes = refl

-- a moment below the clock does not count: the clock after such a write is the greatest moment
late_moment : lifetime_in hour (wrote shop p1 50 ∷ passed 200 ∷ []) (Record shop p1) [] 300 ≡ 69
late_moment = refl

-- ---- a query over p1 and p2

abbrev true_query : Query
true_query = record { collection = shop; filter = constant true; order = []; skip = 0; take = 100 }

abbrev key : KeyShape
key = TheVariants.Query Objects true_query

-- the sum of the rates is 13333
query_first : lifetime_in hour writes key (p1 ∷ p2 ∷ []) 400 ≡ 51
query_first = refl

-- read at 400 for these 51 seconds
abbrev issued : List Entry
issued = answered key 51 400 ∷ writes

-- outdated 20 seconds later
abbrev outdated : List Entry
outdated = matched (key ∷ []) 420 ∷ issued

learned : lifetime_in hour outdated key [] 420 ≡ 41
learned = refl

-- the copy expires at 451, so the key has no estimate then, and its lifetime is that of its rows
idle_key : (kept_in hour (passed 451 ∷ outdated) key ≡ None) × (lifetime_in hour outdated key [] 451 ≡ 3600)
idle_key = (refl, refl)

-- an issue of an active key leaves its estimate, and is the last issue
issued_again : kept_in hour (answered key 41 430 ∷ outdated) key ≡ Some (record { estimate = 41; issued = 430 })
issued_again = refl

-- an issue of an idle key does not
issued_anew : kept_in hour (answered key 60 451 ∷ outdated) key ≡ Some (record { estimate = 60; issued = 451 })
issued_anew = refl

-- a copy is unexpired up to the second before its own
last_second : (active_count_at 450 outdated ≡ 1) × (active_count_at 451 outdated ≡ 0)
last_second = (refl, refl)

-- the calls for the key, the newest first
calls : calls_for (answered key 60 451 ∷ outdated) key ≡ issue key 60 451 ∷ idle key ∷ purge key 420 ∷ issue key 51 400 ∷ []
calls = refl
