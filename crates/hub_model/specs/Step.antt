-- Believed. A history is a list of entries, the newest last; its state is what the entries leave, one after another.
use Rattle.std.specs.Prelude.{ℕ, Bool, true, false, not, ◌&&◌, if◌then◌else◌, nat_le, nat_lt, List, [], ◌∷◌, ◌++◌, length, map, fold, Option, Some, None}
use Rattle.std.specs.List.{list_any}
use Rattle.q_doc.specs.Tree.{Tree}
use Rattle.query_normal.specs.declared.key.KeyShape.{KeyShape}
use Rattle.commit_book.specs.declared.change.Change.{Change}
use Rattle.hub_model.specs.declared.entry.Condition.{Condition}
use Rattle.hub_model.specs.declared.entry.Condition.TheVariants.{Always, Present, Absent, Unchanged}
use Rattle.hub_model.specs.declared.entry.Entry.{Entry}
use Rattle.hub_model.specs.declared.entry.Entry.TheVariants.{Write, Read, Match, Fetch, Purges, Tick, Horizon}
use Rattle.hub_model.specs.declared.entry.Found.{Found}
use Rattle.hub_model.specs.declared.entry.Found.TheVariants.{Missing, At}
use Rattle.hub_model.specs.declared.entry.Tags.TheVariants.{Any, Listed}
use Rattle.commit_book.specs.Journal.{document_at, kept_with}
use Rattle.hub_model.specs.Copies.{is_active}
use Rattle.hub_model.specs.Lifetime.{ttl_of, kept_for, is_absent, estimate_after}
use Rattle.hub_model.specs.Purge.{purged_keys, purged_texts}
use Rattle.hub_model.specs.Setting.{Setting}
use Rattle.hub_model.specs.State.{IssuedCopy, State, start, at_moment}

-- what a write finds of a document
abbrev pub found_of : Option (ℕ × Tree) → Found
found_of None = Missing
found_of (Some found) = At found.0

-- what the last commit has of the record that a change is of
abbrev pub found_now : State → Change → Found
found_now s change = found_of (document_at s.journal (length s.journal) change.collection change.id)

-- whether a condition is met by what is found, at a number of commits (RFC 9110, section 13.1)
abbrev pub is_met : Condition → Found → ℕ → Bool
is_met Always found commits = true
is_met Present Missing commits = false
is_met Present (At version) commits = true
is_met Absent Missing commits = true
is_met Absent (At version) commits = false
is_met (Unchanged tags) Missing commits = false
is_met (Unchanged Any) (At version) commits = true
is_met (Unchanged (Listed tags)) (At version) commits = list_any (λ t. nat_le version t && nat_le t commits) tags

-- whether a write is accepted: its condition is met, and it fits into the capacity beside what is kept
abbrev pub is_accepted : Setting → State → Change → Condition → Bool
is_accepted g s change condition = is_met condition (found_now s change) (length s.journal) && nat_le (kept_with s.journal s.horizon change) g.capacity

-- each in a state whose clock is that of the entry

-- with one accepted change more, which is the next commit
abbrev pub with_change : Change → State → State
with_change change s = record s {
  journal = s.journal ++ change ∷ [];
  writes = s.writes ++ record { collection = change.collection; id = change.id; clock = s.clock } ∷ [];
}

-- an accepted change is the next commit
abbrev pub wrote : Setting → Change → Condition → State → State
wrote g change condition s = if is_accepted g s change condition then with_change change s else s

-- the copy that a read issues, in a state whose clock is that of the read
abbrev pub copy_of_read : Setting → State → KeyShape → ℕ → IssuedCopy
copy_of_read g s key at = record { key = key; at = at; clock = s.clock; ttl = kept_for g (ttl_of g s key at); absent = is_absent s key at }

-- a read issues a copy, for a lifetime that may be 0; if the key was not active, the lifetime becomes its estimate
abbrev pub has_read : Setting → KeyShape → ℕ → State → State
has_read g key at s = record s {
  copies = s.copies ++ copy_of_read g s key at ∷ [];
  estimates = if nat_lt 0 (ttl_of g s key at) && not (is_active s key) then (key, ttl_of g s key at) ∷ s.estimates else s.estimates;
}

-- a match moves the front, and purges keys, of which it makes new estimates
abbrev pub has_matched : Setting → ℕ → State → State
has_matched g to s = record s {
  front = to;
  purges = s.purges ++ purged_texts s to;
  estimates = map (λ key. (key, estimate_after g s key)) (purged_keys s to) ++ s.estimates;
}

-- a drop moves the horizon, and nothing else
abbrev pub has_dropped : ℕ → State → State
has_dropped to s = record s { horizon = to }

-- the moment of an entry
abbrev pub moment_of : Entry → ℕ
moment_of (Write moment change condition) = moment
moment_of (Read moment key tags at) = moment
moment_of (Match moment to) = moment
moment_of (Fetch moment) = moment
moment_of (Purges moment from) = moment
moment_of (Tick moment) = moment
moment_of (Horizon moment to) = moment

-- what an entry makes of a state: each moves the clock, and a write, a read, a match and a drop do more
abbrev pub after : Setting → State → Entry → State
after g s (Write moment change condition) = wrote g change condition (at_moment s moment)
after g s (Read moment key tags at) = has_read g key at (at_moment s moment)
after g s (Match moment to) = has_matched g to (at_moment s moment)
after g s (Horizon moment to) = has_dropped to (at_moment s moment)
after g s e = at_moment s (moment_of e)

-- what entries make of a state, one after another
abbrev pub after_all : Setting → State → List Entry → State
after_all g s es = fold (after g) s es

-- what a history has come to under a configuration
unfoldable pub state_of : Setting → List Entry → State
state_of g history = after_all g start history
