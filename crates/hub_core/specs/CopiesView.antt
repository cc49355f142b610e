-- Internal. The issued copies, and the keys of those that are outdated.
use Rattle.std.specs.Prelude.{◌≡◌, ◌⊎◌, ℕ, ◌<◌, ◌≤◌, Bool, true, false, ◌||◌, max, nat_lt, if◌then◌else◌, List, [], map, filter, All, IsTrue, Some, unwrap_or}
use Rattle.std.specs.List.{list_any, IsDistinct}
use Rattle.issued_expiries.specs.Copies.{Copy, SameCopies, unexpired, latest_where, latest_of, is_active, active_keys}
use Rattle.issued_expiries.specs.Expiries.{Issued}
use Rattle.expiring_filter.specs.Filter.{Filter}
use Rattle.query_normal.specs.Keys.{same_key}
use Rattle.query_normal.specs.declared.key.KeyShape.{KeyShape}
use Rattle.hub_model.specs.Setting.{Setting, IsWithinLimits}
use Rattle.hub_model.specs.Until.{greatest}

-- What contracts see of the copies.
pub record CopiesView : Type 0 where
  pub setting : Setting
  -- the greatest moment so far
  pub clock : ℕ
  -- the unexpired copies
  pub copies : List Copy
  -- the keys of outdated copies, and until when these may be kept
  pub outdated : List (KeyShape × ℕ)
  -- the keys of which the last copy expired, and that were not given since
  pub idle : List KeyShape
  -- the keys of which a copy can be issued without memory
  pub ready : List KeyShape
  -- the keys that can be invalidated without memory
  pub invalidatable : List KeyShape

-- no copy is issued
abbrev pub no_copies : Setting → CopiesView
no_copies g = record {
  setting = g;
  clock = 0;
  copies = [];
  outdated = [];
  idle = [];
  ready = [];
  invalidatable = [];
}

-- a second while it is later than the clock, and then 0
abbrev pub while_later : ℕ → ℕ → ℕ
while_later clock until = if nat_lt clock until then until else 0

-- until when the outdated copies of a key may be kept, or 0 without one
abbrev pub until_in : List (KeyShape × ℕ) → KeyShape → ℕ
until_in outdated key = greatest (map (λ e. e.1) (filter (λ e. same_key key e.0) outdated))

-- The clock moves to a moment, and what expires then is gone.
pub record Passes (moment : ℕ) (old new : CopiesView) : Type 0 where
  pub clock : new.clock ≡ max old.clock moment
  pub copies : SameCopies new.copies (unexpired new.clock old.copies)
  pub outdated : (key : KeyShape) → until_in new.outdated key ≡ while_later new.clock (until_in old.outdated key)
  pub rest : new ≡ record old { clock = new.clock; copies = new.copies; outdated = new.outdated; idle = new.idle }

-- a copy of a key may be issued: it is active, or one key more may be
abbrev pub may_issue : CopiesView → KeyShape → Bool
may_issue h key = is_active h.copies key || nat_lt (active_keys h.copies) h.setting.active

-- a copy of this key can be issued without memory, and of no other
pub record IsReadyFor (h : CopiesView) (key : KeyShape) : Type 0 where
  pub own : IsTrue (list_any (same_key key) h.ready)
  pub alone : (other : KeyShape) → same_key key other ≡ false → list_any (same_key other) h.ready ≡ false

-- until when the last copy of a key may be kept, or 0 without one
abbrev pub last_until : List Copy → KeyShape → ℕ
last_until copies key = unwrap_or (latest_where key (λ commit. true) copies) 0

-- until when the last copy of a key of a commit below another may be kept, or 0 without one
abbrev pub until_below : List Copy → KeyShape → ℕ → ℕ
until_below copies key commit = unwrap_or (latest_of copies key 0 commit) 0

-- a key is among those of which the last copy expired, and was not given since
abbrev pub is_idle : CopiesView → KeyShape → Bool
is_idle h key = list_any (same_key key) h.idle

-- a key is among those of outdated copies that may be kept
abbrev pub is_invalidated : CopiesView → KeyShape → Bool
is_invalidated h key = nat_lt h.clock (until_in h.outdated key)

-- the keys of outdated copies
abbrev pub invalidated_keys : CopiesView → List KeyShape
invalidated_keys h = map (λ e. e.0) h.outdated

-- they are those of outdated copies that may be kept, each once
pub record AreInvalidated (h : CopiesView) : Type 0 where
  pub once : IsDistinct same_key (invalidated_keys h)
  pub invalidated : (key : KeyShape) → list_any (same_key key) (invalidated_keys h) ≡ is_invalidated h key

-- an active key can be invalidated without memory
abbrev pub IsInvalidationReserved : CopiesView → KeyShape → Type 0
IsInvalidationReserved h key = IsTrue (is_active h.copies key) → IsTrue (list_any (same_key key) h.invalidatable)

-- an active key can be invalidated without memory, or is invalidated already
abbrev pub CanInvalidate : CopiesView → KeyShape → Type 0
CanInvalidate h key = IsTrue (is_active h.copies key) → IsTrue (list_any (same_key key) h.invalidatable) ⊎ IsTrue (list_any (λ e. same_key key e.0) h.outdated)

-- the copies and the invalidated keys are later than the clock, and no key is invalidated longer than its last copy may be kept
pub record IsSound (g : Setting) (issued : Issued) (filter : Filter) : Type 0 where
  pub limits : IsWithinLimits g
  pub log2_bits : filter.log2_bits ≡ g.log2_bits
  pub hashes : filter.hashes ≡ g.hashes
  pub few : active_keys issued.held ≤ g.active
  pub late : (key : KeyShape) (test : ℕ → Bool) (until : ℕ) → latest_where key test issued.held ≡ Some until → issued.clock < until
  pub once : IsDistinct same_key (map (λ e. e.0) filter.held)
  pub later : All (λ e. issued.clock < e.1) filter.held
  pub backed : (key : KeyShape) → until_in filter.held key ≤ last_until issued.held key
