-- Internal. What contracts see of an estimator.
use Rattle.std.specs.Prelude.{ℕ, Bool, List, [], is_some, sum_by}
use Rattle.std.specs.Option.{option_map_or}
use Rattle.query_normal.specs.declared.key.KeyShape.{KeyShape}
use Rattle.query_normal.specs.declared.key.KeyShape.TheVariants.{Record, Query}
use Rattle.ttl_estimator.specs.declared.limits.Limits.{Limits}
use Rattle.ttl_estimator.specs.Estimates.{Entries, kept_of}
use Rattle.ttl_estimator.specs.Lifetime.{query_lifetime, record_lifetime}
use Rattle.ttl_estimator.specs.Rates.{rate_at}
use Rattle.ttl_estimator.specs.Records.{Names, clocks_of, entry_of}

-- the limits, the last writes of records, and what is kept of active keys
pub record Estimated : Type 0 where
  pub limits : Limits
  pub records : Names
  pub keys : Entries

-- nothing was noted
abbrev pub none_noted : Limits → Estimated
none_noted limits = record { limits = limits; records = []; keys = [] }

-- whether a write of a record can be noted without memory
abbrev pub has_record : Estimated → List ℕ → List ℕ → Bool
has_record e collection id = is_some (entry_of e.records collection id)

-- the writes of a record in a million seconds
abbrev pub rate_of : Estimated → ℕ → List ℕ → List ℕ → ℕ
rate_of e now collection id = rate_at now (clocks_of e.records collection id)

-- those of several records of a collection
abbrev pub rates_of : Estimated → ℕ → List ℕ → List (List ℕ) → ℕ
rates_of e now collection ids = sum_by (rate_of e now collection) ids

-- the estimate of a key, or 0 where it has none
abbrev pub estimate_of : Estimated → KeyShape → ℕ
estimate_of e key = option_map_or (λ kept. kept.estimate) (kept_of e.keys key) 0

-- for how many seconds a reply for a key may be kept at a clock, of a query that finds the records with these ids; whether the key is active and how many keys are is told
abbrev pub lifetime : Estimated → KeyShape → List (List ℕ) → ℕ → Bool → ℕ → ℕ
lifetime e (Record collection id) ids clock active count = record_lifetime e.limits active count (rate_of e clock collection id)
lifetime e (Query kind normal) ids clock active count = query_lifetime e.limits active count (estimate_of e (Query kind normal)) (rates_of e clock normal.collection ids)
