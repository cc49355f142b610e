-- Which keys a list of calls leaves.
use Rattle.std.proofs.Common.{◌≡◌, ℕ, zero, suc, ◌<◌, ◌≤◌, Bool, true, false, ◌⊎◌, max, nat_lt, List, [], ◌∷◌, ◌++◌, All, if◌then◌else◌, refl, sym, ap, ◌∙◌, subst, arith, inl, inr}
use Rattle.std.specs.List.Sorted.{IsPermutation}
use Rattle.std.proofs.lemmas.Bool.{cases_Bool, cases_lt, lt-ltb, le-ltb}
use Rattle.std.proofs.lemmas.List.Sorted.{All-permutation, IsPermutation-sym}
use Rattle.query_normal.specs.Keys.{same_key}
use Rattle.query_normal.specs.SameKey.{same_key-Decides}
use Rattle.query_normal.specs.declared.key.KeyShape.{KeyShape}
use Rattle.expiring_filter.specs.Events.{Event, add, remove, advance, clock_after, added_until, held_after, second_of, EndsAs}
use Rattle.expiring_filter.specs.Filter.{Filter, Removes, is_held}
use Rattle.expiring_filter.specs.Held.{Expires, put_until, is_among}

abbrev Held : Type 0
Held = List (KeyShape × ℕ)

-- ---- seconds of entries

second-cons : (e : KeyShape × ℕ) (held : Held) (key : KeyShape) → second_of (e ∷ held) key ≡ max (if same_key key e.0 then e.1 else 0) (second_of held key)
second-cons e held key =
    elim (cases_Bool (same_key key e.0)) [
      | inl hit ↦ rw hit refl
      | inr other ↦ rw other (let h : second_of held key ≡ max 0 (second_of held key) = omega arith in h)
    ]

second-append : (gone held : Held) (key : KeyShape) → second_of (gone ++ held) key ≡ max (second_of gone key) (second_of held key)
second-append [] held key = (let h : second_of held key ≡ max 0 (second_of held key) = omega arith in h)
second-append (e ∷ gone) held key =
    let rest = second-append gone held key in
    let more = second-cons e (gone ++ held) key in
    let first = second-cons e gone key in
    omega (arith, rest, more, first)

-- no more than each of them
second-le : (n : ℕ) (held : Held) (key : KeyShape) → All (λ e. same_key key e.0 ≡ true → e.1 ≤ n) held → second_of held key ≤ n
second-le n [] key all = omega arith
second-le n (e ∷ held) key all =
    let rest = second-le n held key (λ k d low. all (suc k) d (omega (arith, low))) in
    elim (cases_Bool (same_key key e.0)) [
      | inl hit ↦ (let own = all 0 e (omega arith) hit in rw hit (omega (arith, rest, own)))
      | inr other ↦ rw other rest
    ]

-- and no less
second-all : (held : Held) (key : KeyShape) → All (λ e. same_key key e.0 ≡ true → e.1 ≤ second_of held key) held
second-all [] key k d low hit = absurd (omega (arith, low))
second-all (e ∷ held) key zero d low hit =
    let is : second_of (e ∷ held) key ≡ max e.1 (second_of held key) = rw hit refl in
    omega (arith, is)
second-all (e ∷ held) key (suc k) d low hit =
    let rest = second-all held key k d (omega (arith, low)) hit in
    let more = second-cons e held key in
    omega (arith, rest, more)

-- the order does not matter
second-permuted : (held others : Held) (key : KeyShape) → IsPermutation held others → second_of others key ≡ second_of held key
second-permuted held others key perm =
    let there = second-le (second_of held key) others key (All-permutation (λ e. same_key key e.0 ≡ true → e.1 ≤ second_of held key) held others perm (second-all held key)) in
    let back = second-le (second_of others key) held key (All-permutation (λ e. same_key key e.0 ≡ true → e.1 ≤ second_of others key) others held (IsPermutation-sym held others perm) (second-all others key)) in
    omega (arith, there, back)

-- entries above a second
above_or_none : (clock : ℕ) (held : Held) (key : KeyShape) → All (λ e. clock < e.1) held → (second_of held key ≡ 0) ⊎ (clock < second_of held key)
above_or_none clock [] key all = inl refl
above_or_none clock (e ∷ held) key all =
    let rest = above_or_none clock held key (λ k d low. all (suc k) d (omega (arith, low))) in
    let own = all 0 e (omega arith) in
    elim (cases_Bool (same_key key e.0)) [
      | inl hit ↦ inr (rw hit (omega (arith, own)))
      | inr other ↦ rw other rest
    ]

-- a key is among them where its second is above theirs
among-above : (clock : ℕ) (held : Held) (key : KeyShape) → All (λ e. clock < e.1) held → is_among held key ≡ nat_lt clock (second_of held key)
among-above clock [] key all = sym (le-ltb clock 0 (omega arith))
among-above clock (e ∷ held) key all =
    let rest = among-above clock held key (λ k d low. all (suc k) d (omega (arith, low))) in
    let own = all 0 e (omega arith) in
    elim (cases_Bool (same_key key e.0)) [
      | inl hit ↦ rw hit (sym (lt-ltb clock (max e.1 (second_of held key)) (omega (arith, own))))
      | inr other ↦ rw other rest
    ]

-- ---- one call

-- a key more
second-put : (held : Held) (key : KeyShape) (until : ℕ) (other : KeyShape) → second_of (put_until held key until) other ≡ max (second_of held other) (if same_key other key then until else 0)
second-put [] key until other =
    let one = second-cons (key, until) [] other in
    omega (arith, one)
second-put (e ∷ held) key until other =
    let first = second-cons e held other in
    elim (cases_Bool (same_key key e.0)) [
      | inl hit ↦ (
          let same : key ≡ e.0 = (same_key-Decides key e.0).0 hit in
          let raised = second-cons (e.0, max e.1 until) held other in
          rw hit (raised ∙ by (same_key other e.0) e.1 until (second_of held other) ∙ ap (λ (n : ℕ). max n (if same_key other e.0 then until else 0)) (sym first)
          ∙ ap (λ (k : KeyShape). max (second_of (e ∷ held) other) (if same_key other k then until else 0)) (sym same)))
      | inr miss ↦ (
          let rest = second-put held key until other in
          let kept = second-cons e (put_until held key until) other in
          rw miss (omega (arith, rest, kept, first)))
    ]
  where
    by : (b : Bool) (m n r : ℕ) → max (if b then max m n else 0) r ≡ max (max (if b then m else 0) r) (if b then n else 0)
    by true m n r = omega arith
    by false m n r = omega arith

joined : (clock : ℕ) (x : KeyShape × ℕ) (xs : Held) → clock < x.1 → All (λ e. clock < e.1) xs → All (λ e. clock < e.1) (x ∷ xs)
joined clock x xs here more zero d low = here
joined clock x xs here more (suc k) d low = more k d (omega (arith, low))

later-put : (clock : ℕ) (held : Held) (key : KeyShape) (until : ℕ) → clock < until → All (λ e. clock < e.1) held → All (λ e. clock < e.1) (put_until held key until)
later-put clock [] key until later all = joined clock (key, until) [] later (λ k d low. absurd (omega (arith, low)))
later-put clock (e ∷ held) key until later all =
    let own = all 0 e (omega arith) in
    let rest : All (λ e. clock < e.1) held = λ k d low. all (suc k) d (omega (arith, low)) in
    elim (cases_Bool (same_key key e.0)) [
      | inl hit ↦ rw hit (joined clock (e.0, max e.1 until) held (omega (arith, own)) rest)
      | inr miss ↦ rw miss (joined clock e (put_until held key until) own (later-put clock held key until later rest))
    ]

-- a key less
none-of : (held : Held) (key other : KeyShape) → same_key key other ≡ true → All (λ e. same_key other e.0 ≡ false) held → second_of held key ≡ 0
none-of [] key other same all = refl
none-of (e ∷ held) key other same all =
    let equal : key ≡ other = (same_key-Decides key other).0 same in
    let here : same_key key e.0 ≡ false = ap (λ k. same_key k e.0) equal ∙ all 0 e (omega arith) in
    rw here (none-of held key other same (λ k d low. all (suc k) d (omega (arith, low))))

only-of : (held : Held) (key other : KeyShape) → same_key key other ≡ false → All (λ e. same_key other e.0 ≡ true) held → second_of held key ≡ 0
only-of [] key other miss all = refl
only-of (e ∷ held) key other miss all =
    let equal : other ≡ e.0 = (same_key-Decides other e.0).0 (all 0 e (omega arith)) in
    let here : same_key key e.0 ≡ false = ap (same_key key) (sym equal) ∙ miss in
    rw here (only-of held key other miss (λ k d low. all (suc k) d (omega (arith, low))))

second-removed : (held rest : Held) (other : KeyShape) → Removes other held rest → (key : KeyShape) → second_of rest key ≡ (if same_key key other then 0 else second_of held key)
second-removed held rest other r key =
    let whole = second-permuted held (r.gone ++ rest) key r.parted in
    let parts = second-append r.gone rest key in
    elim (cases_Bool (same_key key other)) [
      | inl hit ↦ rw hit (none-of rest key other hit r.others)
      | inr miss ↦ rw miss (let none = only-of r.gone key other miss r.same in omega (arith, whole, parts, none))
    ]

all-behind : (P : KeyShape × ℕ → Type 0) (gone rest : Held) → All P (gone ++ rest) → All P rest
all-behind P [] rest all = all
all-behind P (e ∷ gone) rest all = all-behind P gone rest (λ k d low. all (suc k) d (omega (arith, low)))

later-removed : (clock : ℕ) (held rest : Held) (other : KeyShape) → Removes other held rest → All (λ e. clock < e.1) held → All (λ e. clock < e.1) rest
later-removed clock held rest other r all = all-behind (λ e. clock < e.1) r.gone rest (All-permutation (λ e. clock < e.1) held (r.gone ++ rest) r.parted all)

-- a later moment
later-expired : (clock moment : ℕ) (held rest : Held) → Expires moment held rest → All (λ e. clock < e.1) held → All (λ e. clock < e.1) rest
later-expired clock moment held rest expires all =
    all-behind (λ e. clock < e.1) expires.lost.gone rest (All-permutation (λ e. clock < e.1) held (expires.lost.gone ++ rest) expires.lost.parted all)

second-expired : (clock : ℕ) (held rest : Held) → Expires clock held rest → (key : KeyShape) → second_of rest key ≡ (if nat_lt clock (second_of held key) then second_of held key else 0)
second-expired clock held rest expires key =
    let whole = second-permuted held (expires.lost.gone ++ rest) key expires.lost.parted in
    let parts = second-append expires.lost.gone rest key in
    let past = second-le clock expires.lost.gone key (λ k d low hit. expires.lost.past k d low) in
    elim (above_or_none clock rest key expires.later) [
      | inl none ↦ (
          let old_past : second_of held key ≤ clock = omega (arith, whole, parts, past, none) in
          rw (le-ltb clock (second_of held key) old_past) none)
      | inr later ↦ (
          let same : second_of rest key ≡ second_of held key = omega (arith, whole, parts, past, later) in
          let old_later : clock < second_of held key = omega (arith, same, later) in
          rw (lt-ltb clock (second_of held key) old_later) same)
    ]

-- ---- any list of calls

later_ends : (log2_bits hashes : ℕ) (events : List Event) (after : Filter) → EndsAs log2_bits hashes events after → All (λ e. clock_after events < e.1) after.held
later_ends log2_bits hashes [] after ends = subst (λ (f : Filter). All (λ e. 0 < e.1) f.held) (sym ends) (λ k d low. absurd (omega (arith, low)))
later_ends log2_bits hashes (add key until ∷ events) after (before, ends, follows) =
    subst (λ (xs : Held). All (λ e. clock_after events < e.1) xs) (sym follows.1) (later-put (clock_after events) before.held key until follows.0 (later_ends log2_bits hashes events before ends))
later_ends log2_bits hashes (remove key ∷ events) after (before, ends, follows) =
    later-removed (clock_after events) before.held after.held key follows (later_ends log2_bits hashes events before ends)
later_ends log2_bits hashes (advance moment ∷ events) after (before, ends, follows) = λ k d low.
    let old = later-expired (clock_after events) moment before.held after.held follows (later_ends log2_bits hashes events before ends) k d low in
    let new = follows.later k d low in
    omega (arith, old, new)

-- a second above the clock, else 0
abbrev while_later : ℕ → ℕ → ℕ
while_later clock n = if nat_lt clock n then n else 0

more_later : (clock n until : ℕ) → clock < until → (b : Bool) → max (while_later clock n) (if b then until else 0) ≡ while_later clock (if b then max until n else n)
more_later clock n until later true =
    let all : nat_lt clock (max until n) ≡ true = lt-ltb clock (max until n) (omega (arith, later)) in
    elim (cases_lt clock n) [
      | inl late ↦ rw (lt-ltb clock n late, all) (omega arith)
      | inr past ↦ rw (le-ltb clock n past, all) (omega (arith, past, later))
    ]
more_later clock n until later false = (let h : max (while_later clock n) 0 ≡ while_later clock n = omega arith in h)

fewer_later : (clock n : ℕ) (b : Bool) → (if b then 0 else while_later clock n) ≡ while_later clock (if b then 0 else n)
fewer_later clock n true = rw (le-ltb clock 0 (omega arith)) refl
fewer_later clock n false = refl

both_later : (clock moment n : ℕ) → while_later moment (while_later clock n) ≡ while_later (max clock moment) n
both_later clock moment n =
    elim (cases_lt (max clock moment) n) [
      | inl above ↦ rw (lt-ltb clock n (omega (arith, above)), lt-ltb moment n (omega (arith, above)), lt-ltb (max clock moment) n above) refl
      | inr past ↦ elim (cases_lt clock n) [
        | inl early ↦ rw (lt-ltb clock n early, le-ltb moment n (omega (arith, past, early)), le-ltb (max clock moment) n past) refl
        | inr old ↦ rw (le-ltb clock n old, le-ltb moment 0 (omega arith), le-ltb (max clock moment) n past) refl
      ]
    ]

pub second_ends : (log2_bits hashes : ℕ) (events : List Event) (after : Filter) (key : KeyShape) → EndsAs log2_bits hashes events after → second_of after.held key ≡ held_after events key
second_ends log2_bits hashes [] after key ends = ap (λ (f : Filter). second_of f.held key) ends
second_ends log2_bits hashes (add other until ∷ events) after key (before, ends, follows) =
    ap (λ (xs : Held). second_of xs key) follows.1
    ∙ second-put before.held other until key
    ∙ ap (λ (n : ℕ). max n (if same_key key other then until else 0)) (second_ends log2_bits hashes events before key ends)
    ∙ more_later (clock_after events) (added_until events key) until follows.0 (same_key key other)
second_ends log2_bits hashes (remove other ∷ events) after key (before, ends, follows) =
    second-removed before.held after.held other follows key
    ∙ ap (λ (n : ℕ). if same_key key other then 0 else n) (second_ends log2_bits hashes events before key ends)
    ∙ fewer_later (clock_after events) (added_until events key) (same_key key other)
second_ends log2_bits hashes (advance moment ∷ events) after key (before, ends, follows) =
    second-expired moment before.held after.held follows key
    ∙ ap (while_later moment) (second_ends log2_bits hashes events before key ends)
    ∙ both_later (clock_after events) moment (added_until events key)

pub held_ends : (log2_bits hashes : ℕ) (events : List Event) (after : Filter) (key : KeyShape) → EndsAs log2_bits hashes events after → is_held after key ≡ nat_lt (clock_after events) (added_until events key)
held_ends log2_bits hashes events after key ends =
    among-above (clock_after events) after.held key (later_ends log2_bits hashes events after ends)
    ∙ ap (nat_lt (clock_after events)) (second_ends log2_bits hashes events after key ends)
    ∙ tests (clock_after events) (added_until events key)
  where
    tests : (c n : ℕ) → nat_lt c (while_later c n) ≡ nat_lt c n
    tests c n =
        elim (cases_lt c n) [
          | inl late ↦ rw (lt-ltb c n late) (lt-ltb c n late)
          | inr past ↦ rw (le-ltb c n past) (le-ltb c 0 (omega arith))
        ]
