-- Internal. Lists of calls, the newest first, and what is known after them.
use Rattle.std.specs.Prelude.{◌≡◌, ℕ, ◌&&◌, if◌then◌else◌, List, [], ◌∷◌, ◌++◌, Option, Some, None, option_map, bytes_eq}
use Rattle.query_normal.specs.declared.key.KeyShape.{KeyShape}
use Rattle.query_normal.specs.Keys.{same_key}
use Rattle.ttl_estimator.specs.declared.limits.Limits.{Limits}
use Rattle.ttl_estimator.specs.declared.estimates.Kept.{Kept}
use Rattle.ttl_estimator.specs.Estimates.{after_issue, after_purge, kept_of}
use Rattle.ttl_estimator.specs.Estimator.{Estimated, none_noted}
use Rattle.ttl_estimator.specs.Rates.{last_eight}
use Rattle.ttl_estimator.specs.Records.{ExtendsAll, clocks_of, entry_of}

-- an accepted write of a record at a clock, an issue of a key for a lifetime at a clock, a purge of a key at a clock, a key that is no longer active, or a call that makes or drops entries without a write and an estimate
pub data Call : Type 0 where
  write : List ℕ → List ℕ → ℕ → Call
  issue : KeyShape → ℕ → ℕ → Call
  purge : KeyShape → ℕ → Call
  idle : KeyShape → Call
  room : Call

-- the clocks of all accepted writes of a record, deletions too, the oldest first
abbrev pub write_clocks : List Call → List ℕ → List ℕ → List ℕ
write_clocks [] collection id = []
write_clocks (write c i clock ∷ calls) collection id = if bytes_eq c collection && bytes_eq i id then write_clocks calls collection id ++ clock ∷ [] else write_clocks calls collection id
write_clocks (issue key ttl clock ∷ calls) collection id = write_clocks calls collection id
write_clocks (purge key clock ∷ calls) collection id = write_clocks calls collection id
write_clocks (idle key ∷ calls) collection id = write_clocks calls collection id
write_clocks (room ∷ calls) collection id = write_clocks calls collection id

-- the estimate of a key and the clock at its last issue; none where it is not active
abbrev pub estimate_after : Limits → List Call → KeyShape → Option Kept
estimate_after g [] key = None
estimate_after g (write c i clock ∷ calls) key = estimate_after g calls key
estimate_after g (issue other ttl clock ∷ calls) key = if same_key other key then Some (after_issue ttl clock (estimate_after g calls other)) else estimate_after g calls key
estimate_after g (purge other clock ∷ calls) key = if same_key other key then option_map (after_purge g clock) (estimate_after g calls other) else estimate_after g calls key
estimate_after g (idle other ∷ calls) key = if same_key other key then None else estimate_after g calls key
estimate_after g (room ∷ calls) key = estimate_after g calls key

-- what the clauses of the calls say of one that is such a call
abbrev pub Follows : Estimated → Call → Estimated → Type 0
Follows before (write c i clock) after =
    (after ≡ record before { records = after.records })
    × ((collection id : List ℕ) → entry_of after.records collection id ≡ (if bytes_eq c collection && bytes_eq i id then Some (last_eight (clocks_of before.records c i ++ clock ∷ [])) else entry_of before.records collection id))
Follows before (issue other ttl clock) after =
    (after ≡ record before { keys = after.keys })
    × ((key : KeyShape) → kept_of after.keys key ≡ (if same_key other key then Some (after_issue ttl clock (kept_of before.keys other)) else kept_of before.keys key))
Follows before (purge other clock) after =
    (after ≡ record before { keys = after.keys })
    × ((key : KeyShape) → kept_of after.keys key ≡ (if same_key other key then option_map (after_purge before.limits clock) (kept_of before.keys other) else kept_of before.keys key))
Follows before (idle other) after =
    (after ≡ record before { keys = after.keys })
    × ((key : KeyShape) → kept_of after.keys key ≡ (if same_key other key then None else kept_of before.keys key))
Follows before room after = (after.limits ≡ before.limits) × ExtendsAll before.records after.records × ((key : KeyShape) → kept_of after.keys key ≡ kept_of before.keys key)

-- the calls, from nothing on, may end so
abbrev pub EndsAs : Limits → List Call → Estimated → Type 0
EndsAs g [] after = after ≡ none_noted g
EndsAs g (call ∷ calls) after = (before : Estimated) × EndsAs g calls before × Follows before call after
