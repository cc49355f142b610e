-- Believed. Which of the results that a caller knows is the one that it reads (RFC 9110, section 13.1.2).
use Rattle.std.specs.Prelude.{ℕ, Bool, ◌&&◌, nat_le, max, List, filter, Option, Some}
use Rattle.std.specs.List.{reduce}
use Rattle.query_normal.specs.declared.key.KeyShape.{KeyShape}
use Rattle.commit_book.specs.declared.change.Change.{Change}
use Rattle.hub_model.specs.declared.entry.Tags.{Tags}
use Rattle.hub_model.specs.declared.entry.Tags.TheVariants.{Any, Listed}
use Rattle.hub_model.specs.Journal.{result_at, same_finding}

-- a commit that is not below the horizon and not above another, and finds the same
abbrev pub has_result_of : KeyShape → List Change → ℕ → ℕ → ℕ → Bool
has_result_of key journal horizon at t = nat_le horizon t && (nat_le t at && same_finding (result_at key journal t) (result_at key journal at))

-- the commit by which a caller knows what is read at a commit: that one, where it takes whichever there is, and else the greatest of its listed commits from the horizon on that finds the same
abbrev pub known_at : KeyShape → List Change → ℕ → ℕ → Tags → Option ℕ
known_at key journal horizon at Any = Some at
known_at key journal horizon at (Listed tags) = reduce max (filter (has_result_of key journal horizon at) tags)
