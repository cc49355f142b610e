-- Believed. Which keys a match purges (Quaestor, Gessert et al., VLDB 2017: caches that are told of invalidations).
use Rattle.std.specs.Prelude.{ℕ, Bool, not, ◌&&◌, List, filter, map}
use Rattle.std.specs.Cmp.Lexicographic.{slice_cmp}
use Rattle.query_core.specs.Window.{in_order}
use Rattle.std.specs.Ordering.{nat_cmp}
use Rattle.query_normal.specs.Keys.{key_text}
use Rattle.query_normal.specs.declared.key.KeyShape.{KeyShape}
use Rattle.hub_model.specs.Copies.{active_keys, live, some_copy}
use Rattle.hub_model.specs.Outdated.{is_outdated}
use Rattle.hub_model.specs.State.{IssuedCopy, State}

-- a match to a commit outdates a copy: it was not outdated at the front before, and is so at the commit
abbrev pub is_newly_outdated : State → ℕ → IssuedCopy → Bool
is_newly_outdated s to r = not (is_outdated r.key r.at s.journal s.front) && is_outdated r.key r.at s.journal to

-- a match to a commit purges a key, in a state whose clock is that of the match: it outdates an unexpired copy of it
abbrev pub is_purged : State → ℕ → KeyShape → Bool
is_purged s to key = some_copy key (is_newly_outdated s to) (live s)

-- the keys that it purges, each once
abbrev pub purged_keys : State → ℕ → List KeyShape
purged_keys s to = filter (is_purged s to) (active_keys s)

-- their texts in byte order, in which they are numbered
abbrev pub purged_texts : State → ℕ → List (List ℕ)
purged_texts s to = in_order (slice_cmp nat_cmp) (map key_text (purged_keys s to))
