-- Believed. The record: the keys of which an outdated copy may still be kept. And its page.
use Rattle.std.specs.Prelude.{◌≡◌, ◌<◌, Contains, ℕ, ◌^◌, ◌==◌, Bool, true, if◌then◌else◌, nat_lt, List, filter, map, length, replicate, sum_by, count_by}
use Rattle.std.specs.List.{range_with_len}
use Rattle.query_normal.specs.Pages.{Page, positions}
use Rattle.query_normal.specs.declared.key.KeyShape.{KeyShape}
use Rattle.hub_model.specs.Copies.{issues, live, some_copy, active_keys}
use Rattle.hub_model.specs.Outdated.{IsOutdated, is_outdated}
use Rattle.hub_model.specs.Setting.{Setting}
use Rattle.hub_model.specs.State.{IssuedCopy, State, until_of}

-- a commit after the copy's, up to the front, changed the result
abbrev pub is_outdated_in : State → IssuedCopy → Bool
is_outdated_in s r = is_outdated r.key r.at s.journal s.front

-- a read of the key issued a copy whose lifetime is not over and that a covered commit changed. This is when Quaestor (Gessert et al., VLDB 2017) keeps a key in its filter.
pub record IsRecorded (s : State) (key : KeyShape) : Type 0 where
  pub copy : IssuedCopy
  pub among : Contains s.copies copy
  pub key_is : copy.key ≡ key
  pub issued : 0 < copy.ttl
  pub unexpired : s.clock < until_of copy
  pub outdated : IsOutdated key copy.at s.journal s.front

-- the test of `IsRecorded`
abbrev pub is_recorded : State → KeyShape → Bool
is_recorded s key = some_copy key (is_outdated_in s) (live s)

-- the keys that have an unexpired copy that is outdated, each once
abbrev pub record_of : State → List KeyShape
record_of s = filter (is_recorded s) (active_keys s)

-- the copies that are outdated, expired or not
abbrev pub outdated_copies : State → List IssuedCopy
outdated_copies s = filter (is_outdated_in s) (issues s)

-- how often a position is among those of the keys, with repetitions
abbrev pub count_among : List KeyShape → ℕ → ℕ → ℕ → ℕ
count_among keys log2_bits hashes j = sum_by (λ key. count_by (λ p. p == j) (positions key log2_bits hashes)) keys

-- a bit for each position, set where it is among those of the keys: the filter of Bloom 1970
abbrev pub bits_of : List KeyShape → ℕ → ℕ → List Bool
bits_of keys log2_bits hashes = map (λ j. nat_lt 0 (count_among keys log2_bits hashes j)) (range_with_len 0 (2 ^ log2_bits))

-- the bits of a page: those of the record; below the guard all, as any copy of before the store was opened may be outdated, and no entry tells of these
abbrev pub page_bits : Setting → State → List Bool
page_bits g s = if nat_lt s.clock g.guard then replicate (2 ^ g.log2_bits) true else bits_of (record_of s) g.log2_bits g.hashes

-- the page of a state: its front, its number of commits, its clock, and its bits, all of one moment
abbrev pub page_of : Setting → State → Page
page_of g s = record {
  log2_bits = g.log2_bits;
  hashes = g.hashes;
  front = s.front;
  commits = length s.journal;
  moment = s.clock;
  bits = page_bits g s;
}
