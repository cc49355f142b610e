-- Each part of a hub keeps with the state through each step.
use Rattle.std.proofs.Common.{◌≡◌, ℕ, ◌+◌, ◌≤◌, Bool, true, false, max, nat_lt, List, [], ◌∷◌, ◌++◌, length, map, filter, if◌then◌else◌, refl, sym, ap, ap₂, ◌∙◌, subst, arith, inl, inr, append-nil}
use Rattle.std.proofs.lemmas.Bool.{cases_Bool, cases_lt, lt-ltb, le-ltb}
use Rattle.std.proofs.lemmas.List.{map-append}
use Rattle.query_normal.specs.Keys.{same_key}
use Rattle.query_normal.specs.declared.key.KeyShape.{KeyShape}
use Rattle.issued_expiries.specs.Copies.{Copy, unexpired, latest_where, is_active, SameCopies}
use Rattle.hub_model.specs.Copies.{issues, is_live, live, is_active as is_active_in}
use Rattle.hub_model.specs.Lifetime.{kept_for, ttl_of}
use Rattle.hub_model.specs.Record.{is_outdated_in}
use Rattle.hub_model.specs.Setting.{Setting}
use Rattle.hub_model.specs.State.{IssuedCopy, State, at_moment, until_of}
use Rattle.hub_model.specs.Step.{copy_of_read, has_read, with_change}
use Rattle.hub_model.proofs.Issues.{live-read, outdated_until-read}
use Rattle.hub_model.proofs.Recorded.{outdated_until-longer}
use Rattle.hub_model.proofs.Untils.{until-at_moment}
use Rattle.commit_book.specs.declared.change.Change.{Change}
use Rattle.hub_core.specs.Copied.{copy_of, copies_of}
use Rattle.hub_core.specs.HubState.{HasTime, HasCopies, HasInvalidations}
use Rattle.hub_core.specs.CopiesView.{while_later, until_in}
use Rattle.issued_expiries.proofs.LawLemmas.{active_alike, same_later}
use Rattle.hub_core.proofs.CopyLemmas.{same-more}
use Rattle.hub_core.proofs.InvalidationLemmas.{any-map}

-- ---- the clock

-- what is later than the later of two clocks is later than both
pub live-again : (early late : ℕ) (rs : List IssuedCopy) → early ≤ late → filter (is_live late) rs ≡ filter (is_live late) (filter (is_live early) rs)
live-again early late [] low = refl
live-again early late (r ∷ rs) low =
    let rest = live-again early late rs low in
    elim (cases_lt late (until_of r)) [
      | inl after ↦ (
          let first = lt-ltb late (until_of r) after in
          rw (first, lt-ltb early (until_of r) (omega (arith, low, after)), first) (ap (λ (xs : List IssuedCopy). r ∷ xs) rest))
      | inr past ↦ (
          let first = le-ltb late (until_of r) past in
          elim (cases_lt early (until_of r)) [
            | inl between ↦ rw (first, lt-ltb early (until_of r) between, first) rest
            | inr before ↦ rw (first, le-ltb early (until_of r) before) rest
          ])
    ]

pub copies-live : (clock : ℕ) (rs : List IssuedCopy) → map copy_of (filter (is_live clock) rs) ≡ unexpired clock (map copy_of rs)
copies-live clock [] = refl
copies-live clock (r ∷ rs) =
    let rest = copies-live clock rs in
    elim (cases_Bool (nat_lt clock (until_of r))) [
      | inl later ↦ rw later (ap (λ (xs : List Copy). copy_of r ∷ xs) rest)
      | inr past ↦ rw past rest
    ]

live-moved : (s : State) (moment : ℕ) → live (at_moment s moment) ≡ filter (is_live (max s.clock moment)) (live s)
live-moved s moment = live-again s.clock (max s.clock moment) (issues s) (omega arith)

copies-moved : (s : State) (moment : ℕ) → copies_of (at_moment s moment) ≡ unexpired (max s.clock moment) (copies_of s)
copies-moved s moment = ap (map copy_of) (live-moved s moment) ∙ copies-live (max s.clock moment) (live s)

pub time-moved : (clock front new moment : ℕ) (s : State) → HasTime clock front s → new ≡ max clock moment → HasTime new front (at_moment s moment)
time-moved clock front new moment s at is = record { clock = is ∙ ap (λ (n : ℕ). max n moment) at.clock; front = at.front }

pub copies-later : (copies new : List Copy) (clock moment : ℕ) (s : State) → HasCopies copies s → SameCopies new (unexpired clock copies) → clock ≡ max s.clock moment → HasCopies new (at_moment s moment)
copies-later copies new clock moment s at left now = λ key test.
    left key test
    ∙ same_later copies (copies_of s) clock at key test
    ∙ ap (λ (n : ℕ). latest_where key test (unexpired n (copies_of s))) now
    ∙ sym (ap (latest_where key test) (copies-moved s moment))

pub invalidations-later : (outdated new : List (KeyShape × ℕ)) (clock moment : ℕ) (s : State) → HasInvalidations outdated s → ((key : KeyShape) → until_in new key ≡ while_later clock (until_in outdated key)) → clock ≡ max s.clock moment → HasInvalidations new (at_moment s moment)
invalidations-later outdated new clock moment s at left now = λ key.
    left key ∙ ap₂ while_later now (at key) ∙ sym (until-at_moment s moment key (is_outdated_in s))

-- ---- a commit

pub invalidations-written : (outdated : List (KeyShape × ℕ)) (change : Change) (s : State) → HasInvalidations outdated s → s.front ≤ length s.journal → HasInvalidations outdated (with_change change s)
invalidations-written outdated change s at within = λ key. at key ∙ sym (outdated_until-longer s (change ∷ []) key within)

-- ---- a read

-- with one copy more, or none
pub same-read : (some : Bool) (r : IssuedCopy) (copies new old later : List Copy) → SameCopies copies old → later ≡ old ++ map copy_of (if some then r ∷ [] else []) → SameCopies new (if some then copy_of r ∷ copies else copies) → SameCopies new later
same-read true r copies new old later is all same = λ k test. same k test ∙ same-more (copy_of r) copies old is k test ∙ sym (ap (latest_where k test) all)
same-read false r copies new old later is all same = λ k test. same k test ∙ is k test ∙ sym (ap (latest_where k test) (all ∙ append-nil old))

pub copies-read : (g : Setting) (copies new : List Copy) (key : KeyShape) (at ttl clock : ℕ) (s : State) → HasCopies copies s → clock ≡ s.clock → ttl ≡ ttl_of g s key at → SameCopies new (if nat_lt 0 ttl then (key, at, clock + kept_for g ttl) ∷ copies else copies) →
    HasCopies new (has_read g key at s)
copies-read g copies new key at ttl clock s is now life more =
    let n = ttl_of g s key at in
    let r : IssuedCopy = copy_of_read g s key at in
    let same : SameCopies new (if nat_lt 0 n then (key, at, s.clock + kept_for g n) ∷ copies else copies) =
    subst (λ (c : ℕ). SameCopies new (if nat_lt 0 n then (key, at, c + kept_for g n) ∷ copies else copies)) now
    (subst (λ (m : ℕ). SameCopies new (if nat_lt 0 m then (key, at, clock + kept_for g m) ∷ copies else copies)) life more) in
    same-read (nat_lt 0 n) r copies new (copies_of s) (copies_of (has_read g key at s)) is
    (ap (map copy_of) (live-read g s key at) ∙ map-append copy_of (live s) (if nat_lt 0 n then r ∷ [] else [])) same

pub invalidations-read : (g : Setting) (outdated : List (KeyShape × ℕ)) (key : KeyShape) (at : ℕ) (s : State) → HasInvalidations outdated s → s.front ≤ at → HasInvalidations outdated (has_read g key at s)
invalidations-read g outdated key at s is low = λ other. is other ∙ sym (outdated_until-read g s key at other low)

-- ---- the active keys

pub active-copies : (copies : List Copy) (s : State) → HasCopies copies s → (key : KeyShape) → is_active copies key ≡ is_active_in s key
active-copies copies s is key = active_alike copies (copies_of s) key is ∙ any-map copy_of (λ (c : Copy). same_key key c.0) (live s)
