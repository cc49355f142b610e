-- Internal. What is kept of an active key for the lifetimes of its replies.
use Rattle.std.specs.Prelude.{ℕ, Bool, if◌then◌else◌, Option, Some, None, unwrap_or}
use Rattle.std.specs.Map.{lookup}
use Rattle.query_normal.specs.Keys.{same_key}
use Rattle.query_normal.specs.declared.key.KeyShape.{KeyShape}
use Rattle.ttl_estimator.specs.declared.estimates.Kept.{Kept}
use Rattle.hub_model.specs.Copies.{is_active}
use Rattle.hub_model.specs.Lifetime.{last_issue}
use Rattle.hub_model.specs.State.{State}

-- the newest estimate of the key, whether it is active or not
abbrev pub newest_estimate : State → KeyShape → ℕ
newest_estimate s key = unwrap_or (lookup (same_key key) s.estimates) 0

-- an estimate and the clock at the last issue, if there is one
abbrev pub kept_if : Bool → ℕ → ℕ → Option Kept
kept_if active estimate issued = if active then Some (record { estimate = estimate; issued = issued }) else None

-- of an active key its estimate and the clock at its last issue, and of another nothing
abbrev pub kept_in : State → KeyShape → Option Kept
kept_in s key = kept_if (is_active s key) (newest_estimate s key) (last_issue s key)
