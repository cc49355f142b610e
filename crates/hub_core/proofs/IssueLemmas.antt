-- What each step leaves of the copies and of the invalidated keys.
use Rattle.std.proofs.Common.{◌≡◌, ℕ, suc, ◌+◌, ◌<◌, ◌≤◌, Bool, true, false, not, ◌&&◌, ◌||◌, ◌⊎◌, max, nat_le, nat_lt, List, [], ◌∷◌, length, map, is_some, Option, Some, None, unwrap_or, if◌then◌else◌, refl, sym, ap, ◌∙◌, subst, arith, inl, inr}
use Rattle.std.specs.List.{list_any, AllByRecursion, IsDistinct}
use Rattle.std.specs.Set.{unique_keys}
use Rattle.std.proofs.lemmas.Bool.{cases_Bool, cases_lt, lt-ltb, le-ltb, leb-true, ltb-true, and_parts, or_parts, or_cases, or_right}
use Rattle.std.proofs.lemmas.List.{length-map}
use Rattle.std.proofs.lemmas.Map.Made.{length-le_from_is_member}
use Rattle.query_normal.specs.Keys.{same_key}
use Rattle.query_normal.specs.SameKey.{same_key-Decides, same_key_equiv}
use Rattle.query_normal.specs.declared.key.KeyShape.{KeyShape}
use Rattle.issued_expiries.specs.Copies.{Copy, unexpired, later_of, latest_where, latest_of, is_between, is_active, active_keys, SameCopies, with_copy}
use Rattle.hub_model.proofs.KeySets.{among-unique, distinct-unique}
use Rattle.hub_core.specs.CopiesView.{while_later, last_until, until_below, until_in}
use Rattle.issued_expiries.proofs.LawLemmas.{active_alike}
use Rattle.issued_expiries.proofs.ViewLemmas.{only_above, latest_unexpired, active_is}
use Rattle.hub_core.proofs.CopyLemmas.{latest, latest-cons}
use Rattle.hub_core.proofs.InvalidationLemmas.{any-map}

-- ---- how many keys are active

-- each key once
apart-absent : (key : KeyShape) (keys : List KeyShape) → list_any (same_key key) keys ≡ false → AllByRecursion (λ k. same_key key k ≡ false) keys
apart-absent key [] h = tt
apart-absent key (k ∷ ks) h = (let parts = or_parts (same_key key k) (list_any (same_key key) ks) h in (parts.0, apart-absent key ks parts.1))

-- a key is active where it is among these
active-among : (copies : List Copy) (key : KeyShape) → list_any (same_key key) (unique_keys same_key (map (λ c. c.0) copies)) ≡ is_active copies key
active-among copies key = among-unique (map (λ (c : Copy). c.0) copies) key ∙ any-map (λ (c : Copy). c.0) (same_key key) copies

-- no more keys are active where each was active before
pub count-less : (some others : List Copy) → ((key : KeyShape) → is_active some key ≡ true → is_active others key ≡ true) → active_keys some ≤ active_keys others
count-less some others sub =
    length-le_from_is_member same_key_equiv (unique_keys same_key (map (λ (c : Copy). c.0) some)) (unique_keys same_key (map (λ (c : Copy). c.0) others)) (distinct-unique (map (λ (c : Copy). c.0) some))
    (λ key there. active-among others key ∙ sub key (sym (active-among some key) ∙ there))

-- and one more where one key may be new
pub count-more : (some others : List Copy) (own : KeyShape) → ((key : KeyShape) → is_active some key ≡ true → (is_active others key ≡ true) ⊎ (same_key key own ≡ true)) → active_keys some ≤ suc (active_keys others)
count-more some others own sub =
    length-le_from_is_member same_key_equiv (unique_keys same_key (map (λ (c : Copy). c.0) some)) (own ∷ unique_keys same_key (map (λ (c : Copy). c.0) others)) (distinct-unique (map (λ (c : Copy). c.0) some))
    (λ key there.
    elim (sub key (sym (active-among some key) ∙ there)) [
      | inl old ↦ or_right (same_key key own) (list_any (same_key key) (unique_keys same_key (map (λ (c : Copy). c.0) others))) (active-among others key ∙ old)
      | inr new ↦ ap (λ (b : Bool). b || list_any (same_key key) (unique_keys same_key (map (λ (c : Copy). c.0) others))) new
    ])

-- there are fewer invalidated keys than active ones where an active key is not invalidated
pub count-invalidated : (copies : List Copy) (held : List (KeyShape × ℕ)) (own : KeyShape) → IsDistinct same_key (map (λ e. e.0) held) → list_any (λ e. same_key own e.0) held ≡ false → is_active copies own ≡ true →
    ((key : KeyShape) → list_any (λ e. same_key key e.0) held ≡ true → is_active copies key ≡ true) → length held < active_keys copies
unfolding IsDistinct
count-invalidated copies held own once absent active invalidated =
    let keys = map (λ (e : KeyShape × ℕ). e.0) held in
    let size : length keys ≡ length held = length-map held (λ (e : KeyShape × ℕ). e.0) in
    let apart = apart-absent own keys (any-map (λ (e : KeyShape × ℕ). e.0) (same_key own) held ∙ absent) in
    let most : length (own ∷ keys) ≤ active_keys copies =
    length-le_from_is_member same_key_equiv (own ∷ keys) (unique_keys same_key (map (λ (c : Copy). c.0) copies)) (apart, once)
    (λ key there.
    active-among copies key ∙ elim (or_cases (same_key key own) (list_any (same_key key) keys) there) [
      | inl same ↦ ap (is_active copies) ((same_key-Decides key own).0 same) ∙ active
      | inr old ↦ invalidated key (sym (any-map (λ (e : KeyShape × ℕ). e.0) (same_key key) held) ∙ old)
    ]) in
    omega (arith, most, size)

-- ---- the last copies

-- a second that survives, and one that does not
kept-by : (clock : ℕ) (o : Option ℕ) (n : ℕ) → n ≤ unwrap_or o 0 → while_later clock n ≤ unwrap_or (only_above clock o) 0
kept-by clock o n low =
    elim (cases_lt clock n) [
      | inl later ↦ (
          let is : while_later clock n ≡ n = ap (λ (b : Bool). if b then n else 0) (lt-ltb clock n later) in
          let most = survives o later low in
          omega (arith, is, most))
      | inr past ↦ (
          let is : while_later clock n ≡ 0 = ap (λ (b : Bool). if b then n else 0) (le-ltb clock n past) in
          omega (arith, is))
    ]
  where
    survives : (p : Option ℕ) → clock < n → n ≤ unwrap_or p 0 → n ≤ unwrap_or (only_above clock p) 0
    survives None later low = low
    survives (Some until) later low = rw (lt-ltb clock until (omega (arith, later, low))) low

-- what survives is later than the clock
only-later : (clock : ℕ) (o : Option ℕ) (until : ℕ) → only_above clock o ≡ Some until → clock < until
only-later clock None until is = absurd (let e = is in cc)
only-later clock (Some other) until is =
    elim (cases_lt clock other) [
      | inl later ↦ (let own : Some other ≡ Some until = rw (lt-ltb clock other later) at is in let same : other ≡ until = cc in omega (arith, later, same))
      | inr past ↦ absurd (let none : None ≡ Some until = rw (le-ltb clock other past) at is in cc)
    ]

-- when copies expired by a clock
module _ (clock : ℕ) (old new : List Copy) (same : SameCopies new (unexpired clock old)) where
  -- no key is invalidated longer than its last copy may be kept, after some expired
  pub backed-later : (before after : List (KeyShape × ℕ)) (key : KeyShape) → until_in after key ≡ while_later clock (until_in before key) → until_in before key ≤ last_until old key → until_in after key ≤ last_until new key
  backed-later before after key is backed =
      let last : latest_where key (λ commit. true) new ≡ only_above clock (latest_where key (λ commit. true) old) = same key (λ commit. true) ∙ latest_unexpired clock key (λ commit. true) old in
      let kept = kept-by clock (latest_where key (λ commit. true) old) (until_in before key) backed in
      let most : last_until new key ≡ unwrap_or (only_above clock (latest_where key (λ commit. true) old)) 0 = ap (λ (o : Option ℕ). unwrap_or o 0) last in
      omega (arith, is, kept, most)

  -- the others are later than it
  pub late-later : (key : KeyShape) (test : ℕ → Bool) (until : ℕ) → latest_where key test new ≡ Some until → clock < until
  late-later key test until is =
      only-later clock (latest_where key test old) until (sym (latest_unexpired clock key test old) ∙ sym (same key test) ∙ is)

  -- no key became active
  pub active-later : (key : KeyShape) → is_active new key ≡ true → is_active old key ≡ true
  active-later key active =
      let there : is_some (only_above clock (latest_where key (λ commit. true) old)) ≡ true =
      ap is_some (sym (latest_unexpired clock key (λ commit. true) old)) ∙ ap is_some (sym (same key (λ commit. true))) ∙ sym (active_is new key) ∙ active in
      active_is old key ∙ was (latest_where key (λ commit. true) old) there
    where
      was : (o : Option ℕ) → is_some (only_above clock o) ≡ true → is_some o ≡ true
      was None h = h
      was (Some until) h = refl

-- ---- one copy more

-- the last copies with a copy that is later than the clock
with-later : (clock : ℕ) (copy : Copy) (copies : List Copy) → clock < copy.2 → with_copy clock copy copies ≡ copy ∷ copies
with-later clock copy copies late = ap (λ (b : Bool). if b then copy ∷ copies else copies) (lt-ltb clock copy.2 late)

-- the same copies, behind one that is later than the clock
pub same-with : (clock : ℕ) (copy : Copy) (old new : List Copy) → clock < copy.2 → SameCopies new (with_copy clock copy old) → SameCopies new (copy ∷ old)
same-with clock copy old new late same = subst (λ (xs : List Copy). SameCopies new xs) (with-later clock copy old late) same

-- behind one copy more
module _ (copy : Copy) (old new : List Copy) (same : SameCopies new (copy ∷ old)) where
  pub late-more : (clock : ℕ) → clock < copy.2 → ((key : KeyShape) (test : ℕ → Bool) (until : ℕ) → latest_where key test old ≡ Some until → clock < until) →
      (key : KeyShape) (test : ℕ → Bool) (until : ℕ) → latest_where key test new ≡ Some until → clock < until
  late-more clock late were key test until is =
      by (same_key key copy.0 && test copy.1) (latest_where key test old) refl (sym (latest-cons key test copy old) ∙ sym (same key test) ∙ is)
    where
      by : (b : Bool) (o : Option ℕ) → latest_where key test old ≡ o → latest (if b then Some copy.2 else None) o ≡ Some until → clock < until
      by true None was h = (let own : copy.2 ≡ until = cc in omega (arith, late, own))
      by true (Some other) was h = (let own : max copy.2 other ≡ until = cc in omega (arith, late, own))
      by false o was h = were key test until (was ∙ h)

  pub backed-more : (key : KeyShape) → last_until old key ≤ last_until new key
  backed-more key =
      let last : latest_where key (λ commit. true) new ≡ latest (if same_key key copy.0 && true then Some copy.2 else None) (latest_where key (λ commit. true) old) = same key (λ commit. true) ∙ latest-cons key (λ commit. true) copy old in
      let most : last_until new key ≡ unwrap_or (latest (if same_key key copy.0 && true then Some copy.2 else None) (latest_where key (λ commit. true) old)) 0 = ap (λ (o : Option ℕ). unwrap_or o 0) last in
      let more = by (same_key key copy.0 && true) (latest_where key (λ commit. true) old) in
      omega (arith, most, more)
    where
      by : (b : Bool) (o : Option ℕ) → unwrap_or o 0 ≤ unwrap_or (latest (if b then Some copy.2 else None) o) 0
      by true None = omega arith
      by true (Some other) = omega arith
      by false o = omega arith

  -- the keys that are active with one copy more
  active-more : (key : KeyShape) → is_active new key ≡ (same_key key copy.0 || is_active old key)
  active-more key = active_alike new (copy ∷ old) key same

  pub count-with : (limit : ℕ) → active_keys old ≤ limit → (is_active old copy.0 ≡ true) ⊎ (active_keys old < limit) → active_keys new ≤ limit
  count-with limit few room =
      elim room [
        | inl active ↦ (
            let less = count-less new old
            (λ key there.
            elim (or_cases (same_key key copy.0) (is_active old key) (sym (active-more key) ∙ there)) [
              | inl own ↦ ap (is_active old) ((same_key-Decides key copy.0).0 own) ∙ active
              | inr was ↦ was
            ]) in
            omega (arith, less, few))
        | inr below ↦ (
            let more = count-more new old copy.0
            (λ key there.
            elim (or_cases (same_key key copy.0) (is_active old key) (sym (active-more key) ∙ there)) [ inl own ↦ inr own | inr was ↦ inl was ]) in
            omega (arith, more, below))
      ]

-- a key with a copy is active
pub active-last : (copies : List Copy) (key : KeyShape) → 0 < last_until copies key → is_active copies key ≡ true
active-last copies key some = active_is copies key ∙ by (latest_where key (λ c. true) copies) some
  where
    by : (o : Option ℕ) → 0 < unwrap_or o 0 → is_some o ≡ true
    by None h = absurd (omega (arith, h))
    by (Some n) h = refl

-- a copy at a commit may be kept no longer than one that is there
module _ (copies : List Copy) (key : KeyShape) (commit below : ℕ) (near : below ≤ commit + 1) where
  -- until when its copy at the commit may be kept, or 0 without one
  abbrev pub known-until : ℕ
  known-until = unwrap_or (latest_of copies key commit below) 0

  -- a test that the commit passes finds it
  found-by : (test : ℕ → Bool) → test commit ≡ true → known-until ≤ unwrap_or (latest_where key test copies) 0
  found-by test passes = weaker copies
    where
      own : (n : ℕ) → is_between commit below n ≡ true → test n ≡ true
      own n between =
          let parts = and_parts (nat_le commit n) (nat_lt n below) between in
          let low = leb-true commit n parts.0 in
          let high = ltb-true n below parts.1 in
          let is : n ≡ commit = omega (arith, low, high, near) in
          ap test is ∙ passes

      by : (a b d : Bool) → (b ≡ true → d ≡ true) → (o p : Option ℕ) (n : ℕ) → unwrap_or o 0 ≤ unwrap_or p 0 → unwrap_or (latest (if a && b then Some n else None) o) 0 ≤ unwrap_or (latest (if a && d then Some n else None) p) 0
      by true true true more None None n h = omega arith
      by true true true more None (Some q) n h = omega arith
      by true true true more (Some m) None n h = omega (arith, h)
      by true true true more (Some m) (Some q) n h = omega (arith, h)
      by true true false more o p n h = absurd (let e = more refl in cc)
      by true false true more None None n h = omega arith
      by true false true more None (Some q) n h = omega arith
      by true false true more (Some m) None n h = omega (arith, h)
      by true false true more (Some m) (Some q) n h = omega (arith, h)
      by true false false more o p n h = h
      by false b d more o p n h = h

      weaker : (xs : List Copy) → unwrap_or (latest_of xs key commit below) 0 ≤ unwrap_or (latest_where key test xs) 0
      weaker [] = omega arith
      weaker (x ∷ xs) =
          let rest = weaker xs in
          let one = ap (λ (o : Option ℕ). unwrap_or o 0) (latest-cons key (is_between commit below) x xs) in
          let all = ap (λ (o : Option ℕ). unwrap_or o 0) (latest-cons key test x xs) in
          let step = by (same_key key x.0) (is_between commit below x.1) (test x.1) (own x.1) (latest_of xs key commit below) (latest_where key test xs) x.2 rest in
          omega (arith, one, all, step)

  -- the key is active
  pub known-active : 0 < known-until → is_active copies key ≡ true
  known-active some = active-last copies key (let more = found-by (λ c. true) refl in omega (arith, some, more))

  -- one copy more that may be kept no longer changes nothing
  pub same-known : 0 < known-until → (until : ℕ) → until ≤ known-until → SameCopies copies ((key, commit, until) ∷ copies)
  same-known some until low other test = sym (latest-cons other test (key, commit, until) copies ∙ by (same_key other key) (test commit) refl refl)
    where
      later : (o : Option ℕ) → known-until ≤ unwrap_or o 0 → latest (Some until) o ≡ o
      later None h = absurd (omega (arith, some, h))
      later (Some n) h = ap Some (let e : max until n ≡ n = omega (arith, low, h) in e)

      by : (a b : Bool) → same_key other key ≡ a → test commit ≡ b → latest (if a && b then Some until else None) (latest_where other test copies) ≡ latest_where other test copies
      by true true own passes =
          let is : key ≡ other = sym ((same_key-Decides other key).0 own) in
          later (latest_where other test copies) (subst (λ (k : KeyShape). known-until ≤ unwrap_or (latest_where k test copies) 0) is (found-by test passes))
      by true false own passes = refl
      by false b own passes = refl

-- ---- invalidations

-- a copy of a commit below another is one of the key's copies
pub below-last : (copies : List Copy) (key : KeyShape) (commit until : ℕ) → latest_of copies key 0 commit ≡ Some until → until ≤ last_until copies key
below-last copies key commit until is =
    let less = weaker copies in
    let own : unwrap_or (latest_of copies key 0 commit) 0 ≡ until = ap (λ (o : Option ℕ). unwrap_or o 0) is in
    omega (arith, less, own)
  where
    weaker : (xs : List Copy) → unwrap_or (latest_where key (is_between 0 commit) xs) 0 ≤ unwrap_or (latest_where key (λ c. true) xs) 0
    weaker [] = omega arith
    weaker (x ∷ xs) =
        let rest = weaker xs in
        let one = ap (λ (o : Option ℕ). unwrap_or o 0) (latest-cons key (is_between 0 commit) x xs) in
        let all = ap (λ (o : Option ℕ). unwrap_or o 0) (latest-cons key (λ c. true) x xs) in
        let step = by (same_key key x.0) (is_between 0 commit x.1) (latest_where key (is_between 0 commit) xs) (latest_where key (λ c. true) xs) x.2 rest in
        omega (arith, one, all, step)
      where
        by : (a b : Bool) (o p : Option ℕ) (n : ℕ) → unwrap_or o 0 ≤ unwrap_or p 0 → unwrap_or (latest (if a && b then Some n else None) o) 0 ≤ unwrap_or (latest (if a && true then Some n else None) p) 0
        by true true None None n h = omega arith
        by true true None (Some q) n h = omega arith
        by true true (Some m) None n h = omega (arith, h)
        by true true (Some m) (Some q) n h = omega (arith, h)
        by true false None None n h = omega arith
        by true false None (Some q) n h = omega arith
        by true false (Some m) None n h = omega (arith, h)
        by true false (Some m) (Some q) n h = omega (arith, h)
        by false b o p n h = h

-- so is one with a copy of a commit below another
pub active-below : (copies : List Copy) (key : KeyShape) (commit : ℕ) → 0 < until_below copies key commit → is_active copies key ≡ true
active-below copies key commit some = by (latest_of copies key 0 commit) refl some
  where
    by : (o : Option ℕ) → latest_of copies key 0 commit ≡ o → 0 < unwrap_or o 0 → is_active copies key ≡ true
    by None is h = absurd (omega (arith, h))
    by (Some until) is h = active-last copies key (let low = below-last copies key commit until is in omega (arith, h, low))

-- and then some key is
pub some-active : (copies : List Copy) (key : KeyShape) → is_active copies key ≡ true → 0 < active_keys copies
some-active copies key active = by (unique_keys same_key (map (λ (c : Copy). c.0) copies)) (active-among copies key ∙ active)
  where
    by : (keys : List KeyShape) → list_any (same_key key) keys ≡ true → 0 < length keys
    by [] h = absurd (let e = h in cc)
    by (k ∷ ks) h = omega arith

-- a key with no copy has no last one
pub inactive-none : (copies : List Copy) (key : KeyShape) (test : ℕ → Bool) → is_active copies key ≡ false → latest_where key test copies ≡ None
inactive-none [] key test none = refl
inactive-none (copy ∷ copies) key test none =
    let parts = or_parts (same_key key copy.0) (is_active copies key) none in
    ap (λ (b : Bool). if b && test copy.1 then Some (later_of copy.2 (latest_where key test copies)) else latest_where key test copies) parts.0 ∙ inactive-none copies key test parts.1

-- ---- what was reserved

-- no key is among none
pub none-among : (keys : List KeyShape) → ((key : KeyShape) → list_any (same_key key) keys ≡ false) → keys ≡ []
none-among [] none = refl
none-among (k ∷ ks) none =
    absurd (let own : (same_key k k || list_any (same_key k) ks) ≡ false = none k in
    let itself : same_key k k ≡ true = (same_key-Decides k k).1 refl in
    let there : (true || list_any (same_key k) ks) ≡ false = rw itself at own in
    cc)

-- what was ready for one key alone is used up
pub used-up : (before after : List KeyShape) (key : KeyShape) → ((other : KeyShape) → same_key key other ≡ false → list_any (same_key other) before ≡ false) → ((other : KeyShape) → list_any (same_key other) after ≡ (not (same_key key other) && list_any (same_key other) before)) → after ≡ []
used-up before after key alone used =
    none-among after
    (λ other.
    used other ∙ elim (cases_Bool (same_key key other)) [
      | inl own ↦ ap (λ (b : Bool). not b && list_any (same_key other) before) own
      | inr apart ↦ ap (λ (b : Bool). not b && list_any (same_key other) before) apart ∙ alone other apart
    ])
