-- Copies that answer every question alike.
use Rattle.std.proofs.Common.{◌≡◌, cond, eqb, ltb, not, ℕ, ◌+◌, ◌≤◌, max, Bool, true, false, ◌&&◌, ◌||◌, List, [], ◌∷◌, map, Option, Some, None, is_some, refl, sym, ap, ◌∙◌, subst, arith, inl, inr}
use Rattle.std.specs.List.{list_any, AllByRecursion, IsDistinct}
use Rattle.std.specs.Set.{unique_keys, is_member}
use Rattle.std.proofs.lemmas.Bool.{cases_Bool, cases_lt, lt-ltb, le-ltb, eq-eqb, eqb-true}
use Rattle.std.proofs.lemmas.Map.Steps.{list_any_congr}
use Rattle.std.proofs.lemmas.Map.Made.{length-from_keys}
use Rattle.query_normal.specs.declared.key.KeyShape.{KeyShape}
use Rattle.query_normal.specs.Keys.{same_key}
use Rattle.query_normal.specs.SameKey.{same_key_equiv}
use Rattle.issued_expiries.specs.Copies.{Copy, SameCopies, active_keys, is_active, later_of, latest_where, unexpired, until_at, with_copy}
use Rattle.issued_expiries.specs.Expiries.{Issued, is_idle}
use Rattle.issued_expiries.specs.Events.{Event, issue, advance, give, forget, EndsAs, clock_after, copies_of, was_active, went_idle}
use Rattle.issued_expiries.proofs.ViewLemmas.{only_above, only_again, active_is, active-map, latest_unexpired}

-- ---- they stay the same

pub same_then : (a b c : List Copy) → SameCopies a b → SameCopies b c → SameCopies a c
same_then a b c first second key test = first key test ∙ second key test

pub same_more : (a b : List Copy) (clock : ℕ) (copy : Copy) → SameCopies a b → SameCopies (with_copy clock copy a) (with_copy clock copy b)
same_more a b clock copy same key test =
    elim (cases_lt clock copy.2) [
      | inl late ↦ (rw (lt-ltb clock copy.2 late) (ap (λ (o : Option ℕ). cond (same_key key copy.0 && test copy.1) (Some (later_of copy.2 o)) o) (same key test)))
      | inr past ↦ (rw (le-ltb clock copy.2 past) (same key test))
    ]

pub same_later : (a b : List Copy) (clock : ℕ) → SameCopies a b → SameCopies (unexpired clock a) (unexpired clock b)
same_later a b clock same key test = latest_unexpired clock key test a ∙ ap (only_above clock) (same key test) ∙ sym (latest_unexpired clock key test b)

-- ---- any list of calls

-- one copy more, which is held only where it is unexpired
with_is : (clock : ℕ) (copy : Copy) (copies : List Copy) → with_copy clock copy (unexpired clock copies) ≡ unexpired clock (copy ∷ copies)
with_is clock copy copies = refl

again : (early late : ℕ) (o : Option ℕ) → early ≤ late → only_above late (only_above early o) ≡ only_above late o
again early late None order = refl
again early late (Some u) order = only_again early late u order

later_again : (early late : ℕ) (copies : List Copy) → early ≤ late → SameCopies (unexpired late (unexpired early copies)) (unexpired late copies)
later_again early late copies order key test =
    latest_unexpired late key test (unexpired early copies)
    ∙ ap (only_above late) (latest_unexpired early key test copies)
    ∙ again early late (latest_where key test copies) order
    ∙ sym (latest_unexpired late key test copies)

pub clock_ends : (events : List Event) (after : Issued) → EndsAs events after → after.clock ≡ clock_after events
clock_ends [] after ends = ap (λ (i : Issued). i.clock) ends
clock_ends (issue key commit until ∷ events) after (before, ends, follows) = follows.0 ∙ clock_ends events before ends
clock_ends (advance moment ∷ events) after (before, ends, follows) = follows.0 ∙ ap (λ (n : ℕ). max n moment) (clock_ends events before ends)
clock_ends (give key ∷ events) after (before, ends, follows) = ap (λ (i : Issued). i.clock) follows.0 ∙ clock_ends events before ends
clock_ends (forget ∷ events) after (before, ends, follows) = ap (λ (i : Issued). i.clock) follows ∙ clock_ends events before ends

pub held_ends : (events : List Event) (after : Issued) → EndsAs events after → SameCopies after.held (unexpired (clock_after events) (copies_of events))
held_ends [] after ends = λ key test. ap (λ (i : Issued). latest_where key test i.held) ends
held_ends (issue key commit until ∷ events) after (before, ends, follows) =
    let clock = clock_ends events before ends in
    same_then after.held (with_copy before.clock (key, commit, until) before.held) (unexpired (clock_after events) ((key, commit, until) ∷ copies_of events)) follows.1
    (subst (λ (n : ℕ). SameCopies (with_copy n (key, commit, until) before.held) (unexpired (clock_after events) ((key, commit, until) ∷ copies_of events))) (sym clock)
    (same_more before.held (unexpired (clock_after events) (copies_of events)) (clock_after events) (key, commit, until) (held_ends events before ends)))
held_ends (advance moment ∷ events) after (before, ends, follows) =
    let clock = clock_ends events before ends in
    let now : after.clock ≡ max (clock_after events) moment = follows.0 ∙ ap (λ (n : ℕ). max n moment) clock in
    same_then after.held (unexpired after.clock before.held) (unexpired (max (clock_after events) moment) (copies_of events)) follows.1
    (subst (λ (n : ℕ). SameCopies (unexpired n before.held) (unexpired (max (clock_after events) moment) (copies_of events))) (sym now)
    (same_then (unexpired (max (clock_after events) moment) before.held) (unexpired (max (clock_after events) moment) (unexpired (clock_after events) (copies_of events))) (unexpired (max (clock_after events) moment) (copies_of events))
    (same_later before.held (unexpired (clock_after events) (copies_of events)) (max (clock_after events) moment) (held_ends events before ends))
    (later_again (clock_after events) (max (clock_after events) moment) (copies_of events) (omega arith))))
held_ends (give key ∷ events) after (before, ends, follows) =
    subst (λ (copies : List Copy). SameCopies copies (unexpired (clock_after events) (copies_of events))) (sym (ap (λ (i : Issued). i.held) follows.0)) (held_ends events before ends)
held_ends (forget ∷ events) after (before, ends, follows) =
    subst (λ (copies : List Copy). SameCopies copies (unexpired (clock_after events) (copies_of events))) (sym (ap (λ (i : Issued). i.held) follows)) (held_ends events before ends)

-- ---- they answer alike

pub active_alike : (a b : List Copy) (key : KeyShape) → SameCopies a b → is_active a key ≡ is_active b key
active_alike a b key same = active_is a key ∙ ap (λ (o : Option ℕ). is_some o) (same key (λ _. true)) ∙ sym (active_is b key)

member_unique : (keys : List KeyShape) (key : KeyShape) → is_member same_key (unique_keys same_key keys) key ≡ is_member same_key keys key
member_unique [] key = refl
member_unique (x ∷ keys) key = by (is_member same_key keys x) (same_key key x) refl refl (member_unique keys key)
  where
    by : (b c : Bool) → is_member same_key keys x ≡ b → same_key key x ≡ c → is_member same_key (unique_keys same_key keys) key ≡ is_member same_key keys key →
        is_member same_key (cond b (unique_keys same_key keys) (x ∷ unique_keys same_key keys)) key ≡ (c || is_member same_key keys key)
    by true true m t r = r ∙ list_any_congr same_key_equiv key x keys t ∙ m
    by true false m t r = r
    by false c m t r = rw t (ap (λ v. c || v) r)

apart : (x : KeyShape) (keys : List KeyShape) → list_any (same_key x) keys ≡ false → AllByRecursion (λ y. same_key x y ≡ false) keys
apart x [] absent = tt
apart x (y ∷ keys) absent =
    elim (cases_Bool (same_key x y)) [
      | inl hit ↦ absurd (let clash : true ≡ false = rw hit at absent in cc)
      | inr other ↦ (other, apart x keys (rw other at absent))
    ]

distinct_unique : (keys : List KeyShape) → IsDistinct same_key (unique_keys same_key keys)
unfolding IsDistinct
distinct_unique [] = tt
distinct_unique (x ∷ keys) = by (is_member same_key keys x) refl (distinct_unique keys)
  where
    by : (b : Bool) → is_member same_key keys x ≡ b → IsDistinct same_key (unique_keys same_key keys) → IsDistinct same_key (cond b (unique_keys same_key keys) (x ∷ unique_keys same_key keys))
    by true m r = r
    by false m r = (apart x (unique_keys same_key keys) (member_unique keys x ∙ m), r)

pub count_alike : (a b : List Copy) → SameCopies a b → active_keys a ≡ active_keys b
count_alike a b same =
    length-from_keys same_key_equiv (unique_keys same_key (map (λ copy. copy.0) a)) (map (λ copy. copy.0) b) (distinct_unique (map (λ copy. copy.0) a)) (λ key. (
    member_unique (map (λ copy. copy.0) a) key ∙ active-map a key ∙ active_alike a b key same ∙ sym (active-map b key)))

-- ---- the idle keys

active_ends : (events : List Event) (after : Issued) (key : KeyShape) → EndsAs events after → is_active after.held key ≡ was_active events key
active_ends events after key ends = active_alike after.held (unexpired (clock_after events) (copies_of events)) key (held_ends events after ends)

pub idle_ends : (events : List Event) (after : Issued) (key : KeyShape) → EndsAs events after → is_idle after key ≡ went_idle events key
idle_ends [] after key ends = ap (λ (i : Issued). is_idle i key) ends
idle_ends (issue other commit until ∷ events) after key (before, ends, follows) =
    follows.2 key
    ∙ ap (λ (n : ℕ). not (same_key other key && ltb n until) && is_idle before key) (clock_ends events before ends)
    ∙ ap (λ (b : Bool). not (same_key other key && ltb (clock_after events) until) && b) (idle_ends events before key ends)
idle_ends (advance moment ∷ events) after key (before, ends, follows) =
    follows.2 key
    ∙ ap (λ (b : Bool). is_idle before key || is_active before.held key && not b) (active_ends (advance moment ∷ events) after key (before, ends, follows))
    ∙ ap (λ (b : Bool). is_idle before key || b && not (was_active (advance moment ∷ events) key)) (active_ends events before key ends)
    ∙ ap (λ (b : Bool). b || was_active events key && not (was_active (advance moment ∷ events) key)) (idle_ends events before key ends)
idle_ends (give other ∷ events) after key (before, ends, follows) =
    follows.2 key ∙ ap (λ (b : Bool). not (same_key other key) && b) (idle_ends events before key ends)
idle_ends (forget ∷ events) after key (before, ends, follows) = ap (λ (i : Issued). is_idle i key) follows

-- ---- commit by commit

-- none is 0, and each second one more
abbrev height : Option ℕ → ℕ
height None = 0
height (Some u) = u + 1

height_same : (a b : Option ℕ) → height a ≡ height b → a ≡ b
height_same None None h = refl
height_same None (Some v) h = absurd (omega (arith, h))
height_same (Some u) None h = absurd (omega (arith, h))
height_same (Some u) (Some v) h = ap (λ (n : ℕ). Some n) (omega (arith, h))

-- a choice between one copy more and none
choice_height : (b : Bool) (u : ℕ) (o : Option ℕ) → height (cond b (Some (later_of u o)) o) ≡ cond b (max (u + 1) (height o)) (height o)
choice_height true u None = omega arith
choice_height true u (Some v) = omega arith
choice_height false u o = refl

-- where a smaller number is raised, so is a greater one
raised_within : (b c : Bool) (u m n : ℕ) → (b ≡ true → c ≡ true) → m ≤ n → cond b (max u m) m ≤ cond c (max u n) n
raised_within true true u m n both less = omega arith
raised_within true false u m n both less = absurd (let clash : false ≡ true = both refl in cc)
raised_within false true u m n both less = omega arith
raised_within false false u m n both less = less

own_passes : (own : Bool) (test : ℕ → Bool) (at commit : ℕ) → test commit ≡ true → (own && eqb at commit) ≡ true → (own && test at) ≡ true
own_passes true test at commit passes same = ap test (eqb-true at commit same) ∙ passes
own_passes false test at commit passes same = same

-- the greatest until of some commits is no less than that of one of them
at_within : (key : KeyShape) (test : ℕ → Bool) (commit : ℕ) → test commit ≡ true → (copies : List Copy) → height (until_at copies key commit) ≤ height (latest_where key test copies)
at_within key test commit passes [] = omega arith
at_within key test commit passes (x ∷ copies) =
    let whole = choice_height (same_key key x.0 && test x.1) x.2 (latest_where key test copies) in
    let one = choice_height (same_key key x.0 && eqb x.1 commit) x.2 (until_at copies key commit) in
    let less = raised_within (same_key key x.0 && eqb x.1 commit) (same_key key x.0 && test x.1) (x.2 + 1) (height (until_at copies key commit)) (height (latest_where key test copies))
    (own_passes (same_key key x.0) test x.1 commit passes) (at_within key test commit passes copies) in
    subst (λ (n : ℕ). n ≤ height (latest_where key test (x ∷ copies))) (sym one) (subst (λ (n : ℕ). cond (same_key key x.0 && eqb x.1 commit) (max (x.2 + 1) (height (until_at copies key commit))) (height (until_at copies key commit)) ≤ n) (sym whole) less)

rest_within : (b : Bool) (u m : ℕ) → m ≤ cond b (max u m) m
rest_within true u m = omega arith
rest_within false u m = omega arith

first_within : (b : Bool) (u m : ℕ) → b ≡ true → u ≤ cond b (max u m) m
first_within true u m h = omega arith
first_within false u m h = absurd (let clash = h in cc)

both_within : (b : Bool) (u m n : ℕ) → (b ≡ true → u ≤ n) → m ≤ n → cond b (max u m) m ≤ n
both_within true u m n first rest = (let f = first refl in omega (arith, f))
both_within false u m n first rest = rest

parts_true : (a b : Bool) → (a && b) ≡ true → (a ≡ true) × (b ≡ true)
parts_true true b h = (refl, h)
parts_true false b h = absurd (let clash = h in cc)

-- it is no greater than n where none of them is
commits_within : (key : KeyShape) (test : ℕ → Bool) (n : ℕ) (copies : List Copy) → ((commit : ℕ) → test commit ≡ true → height (until_at copies key commit) ≤ n) → height (latest_where key test copies) ≤ n
commits_within key test n [] all = omega arith
commits_within key test n (x ∷ copies) all =
    let whole = choice_height (same_key key x.0 && test x.1) x.2 (latest_where key test copies) in
    subst (λ (m : ℕ). m ≤ n) (sym whole)
    (both_within (same_key key x.0 && test x.1) (x.2 + 1) (height (latest_where key test copies)) n
    (λ passes. (
    let parts = parts_true (same_key key x.0) (test x.1) passes in
    let here : (same_key key x.0 && eqb x.1 x.1) ≡ true = ap (λ (b : Bool). b && eqb x.1 x.1) parts.0 ∙ eq-eqb x.1 x.1 refl in
    let one = choice_height (same_key key x.0 && eqb x.1 x.1) x.2 (until_at copies key x.1) in
    let first = first_within (same_key key x.0 && eqb x.1 x.1) (x.2 + 1) (height (until_at copies key x.1)) here in
    let most = subst (λ (m : ℕ). m ≤ n) one (all x.1 parts.1) in
    omega (arith, first, most)))
    (commits_within key test n copies (λ commit passes. (
    let one = choice_height (same_key key x.0 && eqb x.1 commit) x.2 (until_at copies key commit) in
    let rest = rest_within (same_key key x.0 && eqb x.1 commit) (x.2 + 1) (height (until_at copies key commit)) in
    let most = subst (λ (m : ℕ). m ≤ n) one (all commit passes) in
    omega (arith, rest, most)))))

pub same_by_commit : (a b : List Copy) → ((key : KeyShape) (commit : ℕ) → until_at a key commit ≡ until_at b key commit) → SameCopies a b
same_by_commit a b same key test =
    let up = commits_within key test (height (latest_where key test b)) a (λ commit passes. (let w = at_within key test commit passes b in let e = ap height (same key commit) in omega (arith, w, e))) in
    let down = commits_within key test (height (latest_where key test a)) b (λ commit passes. (let w = at_within key test commit passes a in let e = ap height (same key commit) in omega (arith, w, e))) in
    height_same (latest_where key test a) (latest_where key test b) (omega (arith, up, down))
