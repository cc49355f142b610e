-- Believed. When a copy of a result is outdated.
use Rattle.std.specs.Prelude.{◌≢◌, ℕ, zero, suc, ◌-◌, ◌<◌, ◌≤◌, Bool, false, not, ◌&&◌, ◌||◌, nat_lt, List}
use Rattle.query_normal.specs.declared.key.KeyShape.{KeyShape}
use Rattle.commit_book.specs.declared.change.Change.{Change}
use Rattle.hub_model.specs.Journal.{result_at, same_finding}

-- some commit after that of the copy, up to the front, has another result than its own; a change that was undone later still counts. Quaestor (Gessert et al., VLDB 2017) invalidates such a copy
abbrev pub IsOutdated : KeyShape → ℕ → List Change → ℕ → Type 0
IsOutdated key commit journal front = (n : ℕ) × (commit < n) × (n ≤ front) × (result_at key journal n ≢ result_at key journal commit)

-- some commit after the copy's, up to the front, finds another result than the commit before it
abbrev pub IsChangedAfter : KeyShape → ℕ → List Change → ℕ → Type 0
IsChangedAfter key commit journal front = (n : ℕ) × (commit < n) × (n ≤ front) × (result_at key journal n ≢ result_at key journal (n - 1))

-- the test of `IsOutdated`
abbrev pub is_outdated : KeyShape → ℕ → List Change → ℕ → Bool
is_outdated key commit journal zero = false
is_outdated key commit journal (suc n) = nat_lt commit (suc n) && not (same_finding (result_at key journal (suc n)) (result_at key journal commit)) || is_outdated key commit journal n

-- the commit finds another result than the one before it
abbrev pub is_changed : KeyShape → List Change → ℕ → Bool
is_changed key journal n = not (same_finding (result_at key journal n) (result_at key journal (n - 1)))
