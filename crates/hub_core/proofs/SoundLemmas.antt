-- The copies and the invalidated keys stay those of one clock.
use Rattle.std.proofs.Common.{◌≡◌, ℕ, zero, suc, ◌<◌, ◌≤◌, Bool, true, false, not, ◌&&◌, ◌||◌, ◌⊎◌, max, nat_lt, List, [], ◌∷◌, length, map, All, IsTrue, Option, Some, None, if◌then◌else◌, refl, sym, ap, ◌∙◌, subst, arith, inl, inr}
use Rattle.std.specs.List.{list_any, IsDistinct}
use Rattle.std.proofs.lemmas.Bool.{cases_Bool, lt-ltb, ltb-true}
use Rattle.query_normal.specs.Keys.{same_key}
use Rattle.query_normal.specs.SameKey.{same_key-Decides}
use Rattle.query_normal.specs.declared.key.KeyShape.{KeyShape}
use Rattle.issued_expiries.specs.Copies.{Copy, unexpired, latest_where, latest_of, is_active, active_keys, SameCopies, with_copy}
use Rattle.issued_expiries.specs.Expiries.{Issued}
use Rattle.issued_expiries.proofs.ViewLemmas.{only_above, latest_unexpired}
use Rattle.expiring_filter.specs.Filter.{Filter}
use Rattle.expiring_filter.specs.Held.{Expires, put_until, is_among}
use Rattle.hub_model.specs.Setting.{Setting}
use Rattle.hub_core.specs.CopiesView.{CopiesView, IsSound, AreInvalidated, Passes, last_until, until_in}
use Rattle.hub_core.proofs.InvalidationLemmas.{until-expired, until-reached, once-expired, until-put, once-put, held-later, any-map}
use Rattle.hub_core.proofs.IssueLemmas.{count-less, count-invalidated, count-with, backed-later, backed-more, late-later, late-more, active-later, same-with, below-last, active-last}

-- all are later with a first one that is
first-later : (clock : ℕ) (x : KeyShape × ℕ) (xs : List (KeyShape × ℕ)) → clock < x.1 → All (λ e. clock < e.1) xs → All (λ e. clock < e.1) (x ∷ xs)
first-later clock x xs own rest zero d low = own
first-later clock x xs own rest (suc k) d low = rest k d (omega (arith, low))

-- what is put in later than the clock leaves all later
later-put : (clock : ℕ) (held : List (KeyShape × ℕ)) (key : KeyShape) (until : ℕ) → clock < until → All (λ e. clock < e.1) held → All (λ e. clock < e.1) (put_until held key until)
later-put clock [] key until late later = first-later clock (key, until) [] late (λ k d low. absurd (omega (arith, low)))
later-put clock (e ∷ held) key until late later =
    elim (cases_Bool (same_key key e.0)) [
      | inl hit ↦ rw hit (first-later clock (e.0, max e.1 until) held (let own = later 0 e (omega arith) in omega (arith, own)) (λ k d low. later (suc k) d (omega (arith, low))))
      | inr miss ↦ rw miss (first-later clock e (put_until held key until) (later 0 e (omega arith)) (later-put clock held key until late (λ k d low. later (suc k) d (omega (arith, low)))))
    ]

-- a key that could be invalidated still can be
pub still-reserved : (filter new_filter : Filter) (key : KeyShape) (until : ℕ) (other : KeyShape) → new_filter.held ≡ put_until filter.held key until →
    list_any (same_key other) new_filter.reserved ≡ (not (same_key key other) && list_any (same_key other) filter.reserved) →
    IsTrue (list_any (same_key other) filter.reserved) ⊎ IsTrue (is_among filter.held other) → IsTrue (list_any (same_key other) new_filter.reserved) ⊎ IsTrue (is_among new_filter.held other)
still-reserved filter new_filter key until other held reserved was =
    elim (cases_Bool (same_key key other)) [
      | inl own ↦ (
          let same : key ≡ other = (same_key-Decides key other).0 own in
          inr (ap (λ xs. is_among xs other) held ∙ subst (λ (k : KeyShape). is_among (put_until filter.held key until) k ≡ true) same (put-among filter.held)))
      | inr apart ↦ elim was [
        | inl there ↦ inl (reserved ∙ ap (λ (b : Bool). not b && list_any (same_key other) filter.reserved) apart ∙ there)
        | inr among ↦ inr (ap (λ xs. is_among xs other) held ∙ kept-among filter.held among)
      ]
    ]
  where
    put-among : (xs : List (KeyShape × ℕ)) → is_among (put_until xs key until) key ≡ true
    put-among [] = ap (λ (b : Bool). b || false) ((same_key-Decides key key).1 refl)
    put-among (x ∷ xs) =
        elim (cases_Bool (same_key key x.0)) [
          | inl hit ↦ rw hit (ap (λ (b : Bool). b || is_among xs key) hit)
          | inr miss ↦ rw miss (ap (λ (b : Bool). b || is_among (put_until xs key until) key) miss ∙ put-among xs)
        ]

    kept-among : (xs : List (KeyShape × ℕ)) → is_among xs other ≡ true → is_among (put_until xs key until) other ≡ true
    kept-among [] there = absurd (let e = there in cc)
    kept-among (x ∷ xs) there =
        elim (cases_Bool (same_key key x.0)) [
          | inl hit ↦ rw hit there
          | inr miss ↦ rw miss (either (same_key other x.0) (is_among xs other) (is_among (put_until xs key until) other) there (kept-among xs))
        ]
      where
        either : (a b c : Bool) → (a || b) ≡ true → (b ≡ true → c ≡ true) → (a || c) ≡ true
        either true b c h k = refl
        either false b c h k = k h

-- where the clock has reached a moment nothing passes
pub passes-reached : (h : CopiesView) (moment : ℕ) → moment ≤ h.clock → ((key : KeyShape) (test : ℕ → Bool) (until : ℕ) → latest_where key test h.copies ≡ Some until → h.clock < until) → All (λ e. h.clock < e.1) h.outdated → Passes moment h h
passes-reached h moment reached late later = record {
  clock = omega (arith, reached);
  copies = λ key test. sym (latest_unexpired h.clock key test h.copies ∙ still key test (latest_where key test h.copies) refl);
  outdated = until-reached h.clock h.outdated later;
  rest = refl;
}
  where
    still : (key : KeyShape) (test : ℕ → Bool) (o : Option ℕ) → latest_where key test h.copies ≡ o → only_above h.clock o ≡ o
    still key test None is = refl
    still key test (Some until) is = ap (λ (b : Bool). if b then Some until else None) (lt-ltb h.clock until (late key test until is))

-- a copy may be issued where its key is active or one more may be
pub may-issue : (a : Bool) (count limit : ℕ) → (a || nat_lt count limit) ≡ true → (a ≡ true) ⊎ (count < limit)
may-issue true count limit some = inl refl
may-issue false count limit some = inr (ltb-true count limit some)

-- of copies and invalidated keys of one clock
module _ (g : Setting) (issued : Issued) (filter : Filter) (sound : IsSound g issued filter) where
  -- when the clock moves
  pub sound-later : (new_issued : Issued) (new_filter : Filter) → new_filter.log2_bits ≡ filter.log2_bits → new_filter.hashes ≡ filter.hashes →
      SameCopies new_issued.held (unexpired new_issued.clock issued.held) → Expires new_issued.clock filter.held new_filter.held → IsSound g new_issued new_filter
  sound-later new_issued new_filter bits hashes same expires =
      let moment = new_issued.clock in
      let less = count-less new_issued.held issued.held (active-later moment issued.held new_issued.held same) in
      record {
        limits = sound.limits;
        log2_bits = bits ∙ sound.log2_bits;
        hashes = hashes ∙ sound.hashes;
        few = (let few = sound.few in omega (arith, less, few));
        late = late-later moment issued.held new_issued.held same;
        once = once-expired moment filter.held new_filter.held expires sound.once;
        later = expires.later;
        backed = λ key. backed-later moment issued.held new_issued.held same filter.held new_filter.held key (until-expired moment filter.held new_filter.held expires key) (sound.backed key);
      }

  -- with one copy more
  pub sound-more : (new_issued : Issued) (copy : Copy) → issued.clock < copy.2 → new_issued.clock ≡ issued.clock →
      SameCopies new_issued.held (with_copy issued.clock copy issued.held) → (is_active issued.held copy.0 ≡ true) ⊎ (active_keys issued.held < g.active) → IsSound g new_issued filter
  sound-more new_issued copy late clocks with room =
      let same : SameCopies new_issued.held (copy ∷ issued.held) = same-with issued.clock copy issued.held new_issued.held late with in
      record {
        limits = sound.limits;
        log2_bits = sound.log2_bits;
        hashes = sound.hashes;
        few = count-with copy issued.held new_issued.held same g.active sound.few room;
        late = λ key test until is. (let h = late-more copy issued.held new_issued.held same issued.clock late sound.late key test until is in omega (arith, h, clocks));
        once = sound.once;
        later = subst (λ (n : ℕ). All (λ e. n < e.1) filter.held) (sym clocks) sound.later;
        backed = λ key. (let before = sound.backed key in let after = backed-more copy issued.held new_issued.held same key in omega (arith, before, after));
      }

  -- the invalidated keys are active
  invalidated-active : (key : KeyShape) → list_any (λ e. same_key key e.0) filter.held ≡ true → is_active issued.held key ≡ true
  invalidated-active key there =
      let later : issued.clock < until_in filter.held key = ltb-true issued.clock (until_in filter.held key) (sym (held-later issued.clock filter.held key sound.later) ∙ there) in
      let backed = sound.backed key in
      active-last issued.held key (omega (arith, later, backed))

  -- the number of keys allows one more invalidation of an active key
  pub invalidation-few : (key : KeyShape) → is_active issued.held key ≡ true → IsTrue (is_among filter.held key) ⊎ (length filter.held < 1000000)
  invalidation-few key active =
      elim (cases_Bool (is_among filter.held key)) [
        | inl there ↦ inl there
        | inr absent ↦ (
            let fewer = count-invalidated issued.held filter.held key sound.once absent active invalidated-active in
            let few = sound.few in
            let most = sound.limits.active_most in
            inr (omega (arith, fewer, few, most)))
      ]

  -- with one invalidation more
  pub sound-invalidated : (new_filter : Filter) (key : KeyShape) (until : ℕ) → issued.clock < until → until ≤ last_until issued.held key →
      new_filter.log2_bits ≡ filter.log2_bits → new_filter.hashes ≡ filter.hashes → new_filter.held ≡ put_until filter.held key until → IsSound g issued new_filter
  sound-invalidated new_filter key until late low bits hashes held = record {
    limits = sound.limits;
    log2_bits = bits ∙ sound.log2_bits;
    hashes = hashes ∙ sound.hashes;
    few = sound.few;
    late = sound.late;
    once = subst (λ (xs : List (KeyShape × ℕ)). IsDistinct same_key (map (λ e. e.0) xs)) (sym held) (once-put filter.held key until sound.once);
    later = subst (λ (xs : List (KeyShape × ℕ)). All (λ e. issued.clock < e.1) xs) (sym held) (later-put issued.clock filter.held key until late sound.later);
    backed = λ other. (
        let is = ap (λ (xs : List (KeyShape × ℕ)). until_in xs other) held ∙ until-put filter.held key until other in
        let before = sound.backed other in
        elim (cases_Bool (same_key other key)) [
          | inl own ↦ (
              let same : other ≡ key = (same_key-Decides other key).0 own in
              let most : until ≤ last_until issued.held other = subst (λ (k : KeyShape). until ≤ last_until issued.held k) (sym same) low in
              let now : until_in new_filter.held other ≡ max (until_in filter.held other) until = is ∙ ap (λ (b : Bool). max (until_in filter.held other) (if b then until else 0)) own in
              omega (arith, most, before, now))
          | inr apart ↦ (
              let now : until_in new_filter.held other ≡ max (until_in filter.held other) 0 = is ∙ ap (λ (b : Bool). max (until_in filter.held other) (if b then until else 0)) apart in
              omega (arith, before, now))
        ]);
  }

  -- the invalidated keys are those whose second is later than the clock, each once
  pub are-invalidated : AreInvalidated (record { setting = g; clock = issued.clock; copies = issued.held; outdated = filter.held; idle = issued.idle; ready = issued.reserved; invalidatable = filter.reserved })
  are-invalidated = record {
    once = sound.once;
    invalidated = λ key. any-map (λ (e : KeyShape × ℕ). e.0) (same_key key) filter.held ∙ held-later issued.clock filter.held key sound.later;
  }

  -- a key with a copy of an earlier commit is active
  pub copy-active : (key : KeyShape) (commit until : ℕ) → Some until ≡ latest_of issued.held key 0 commit → is_active issued.held key ≡ true
  copy-active key commit until is =
      let late = sound.late key _ until (sym is) in
      let most = below-last issued.held key commit until (sym is) in
      active-last issued.held key (omega (arith, late, most))
