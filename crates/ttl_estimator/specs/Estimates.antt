-- Believed. What is kept of active keys.
use Rattle.std.specs.Prelude.{◌≡◌, ◌⊎◌, ℕ, ◌+◌, ◌-◌, ◌*◌, ◌/◌, Bool, List, Option, Some, None, is_some, unwrap_or}
use Rattle.std.specs.Map.{lookup}
use Rattle.query_normal.specs.declared.key.KeyShape.{KeyShape}
use Rattle.query_normal.specs.Keys.{same_key}
use Rattle.ttl_estimator.specs.declared.limits.Limits.{Limits}
use Rattle.ttl_estimator.specs.declared.estimates.Kept.{Kept}
use Rattle.ttl_estimator.specs.Lifetime.{within}

-- keys, each with what is kept of it; nothing where it is only reserved
abbrev pub Entries : Type 0
Entries = List (KeyShape × Option Kept)

-- whether a key has an entry
abbrev pub is_known : Entries → KeyShape → Bool
is_known entries key = is_some (lookup (same_key key) entries)

-- what is kept of a key
abbrev pub kept_of : Entries → KeyShape → Option Kept
kept_of entries key = unwrap_or (lookup (same_key key) entries) None

-- each entry is as it was, or is new and has nothing
abbrev pub Keeps : Entries → Entries → Type 0
Keeps old new = (key : KeyShape) → (lookup (same_key key) new ≡ lookup (same_key key) old) ⊎ ((lookup (same_key key) old ≡ None) × (lookup (same_key key) new ≡ Some None))

-- the lifetime of the issue that made a key active is its estimate; a later issue leaves that
abbrev pub after_issue : ℕ → ℕ → Option Kept → Kept
after_issue ttl clock None = record { estimate = ttl; issued = clock }
after_issue ttl clock (Some kept) = record { estimate = kept.estimate; issued = clock }

-- the mean of seven parts of an estimate and three parts of the seconds that passed since the last issue, between the limits
abbrev pub mean_of : Limits → ℕ → ℕ → ℕ
mean_of g estimate passed = within g ((7 * estimate + 3 * passed) / 10)

-- a purge takes that mean
abbrev pub after_purge : Limits → ℕ → Kept → Kept
after_purge g clock kept = record { estimate = mean_of g kept.estimate (clock - kept.issued); issued = kept.issued }
