-- What an issue and a reserve leave.
use Rattle.std.proofs.Common.{◌≡◌, ◌⊎◌, cond, ℕ, ◌+◌, ◌<◌, ◌≤◌, max, Bool, true, false, not, ◌&&◌, List, length, Option, Some, None, IfSome, is_some, refl, sym, ap, ◌∙◌, subst, arith, inl, inr}
use Rattle.std.specs.List.{list_any, IsDistinct}
use Rattle.std.specs.Map.{keys_of}
use Rattle.std.proofs.lemmas.Bool.{cases_Bool, lt-ltb}
use Rattle.std.proofs.lemmas.Map.Made.{is_some-lookup}
use Rattle.std.proofs.lemmas.Map.Entries.{length-keys_of}
use Rattle.query_normal.specs.declared.key.KeyShape.{KeyShape}
use Rattle.query_normal.specs.Keys.{same_key}
use Rattle.query_normal.specs.SameKey.{same_key-Decides}
use Rattle.issued_expiries.specs.Copies.{SameCopies, active_keys, is_active, later_of, latest_where, with_copy}
use Rattle.issued_expiries.specs.KeyCopies.{KeptCopies, HasSpace, last_until}
use Rattle.issued_expiries.specs.Entries.{Entries, copies_in, kept_of, held_of, greatest_in, AreTied, AreUnexpired, AreGone, HaveSpace, IsSound, Puts, Trims}
use Rattle.issued_expiries.proofs.HeldLemmas.{HeldKeys, length_shown, other_way}
use Rattle.issued_expiries.proofs.ViewLemmas.{if_above, later_above, latest_kept, active_kept, active_keys_kept}

-- ---- after an issue

-- one more copy of a key
put_own : (clock until g : ℕ) (passes : Bool) → clock < until → if_above clock (max g (cond passes until 0)) ≡ cond passes (Some (later_of until (if_above clock g))) (if_above clock g)
put_own clock until g true late = ap (if_above clock) (let e : max g until ≡ max until g = omega arith in e) ∙ sym (later_above clock until g late)
put_own clock until g false late = ap (if_above clock) (let e : max g 0 ≡ g = omega arith in e)

late_some : (clock : ℕ) (o : Option KeptCopies) → clock < greatest_in (λ _. true) o → IfSome o (λ kept. clock < last_until kept)
late_some clock None late = tt
late_some clock (Some kept) late = late

-- a key that is left of a list without one is another, and was in the list
left_of : (key asked : KeyShape) (was is : Bool) → is ≡ (not (same_key key asked) && was) → is ≡ true → (same_key key asked ≡ false) × (was ≡ true)
left_of key asked was is left there =
    elim (cases_Bool (same_key key asked)) [
      | inl hit ↦ absurd (let clash : true ≡ false = sym there ∙ left ∙ ap (λ (b : Bool). not b && was) hit in cc)
      | inr other ↦ (other, sym (ap (λ (b : Bool). not b && was) other) ∙ sym left ∙ there)
    ]

few_after : (o : Option KeptCopies) (len after : ℕ) → after ≡ cond (is_some o) len (len + 1) → len ≤ 1000000 → (is_some o ≡ true) ⊎ (len < 1000000) → after ≤ 1000000
few_after None len after is few (inl there) = absurd (let clash : false ≡ true = there in cc)
few_after None len after is few (inr less) = (let e : after ≡ len + 1 = is in omega (arith, e, less))
few_after (Some kept) len after is few some = (let e : after ≡ len = is in omega (arith, e, few))

-- A key has one copy more.
module _ (clock : ℕ) (held after : HeldKeys) (key : KeyShape) (commit until : ℕ) (late : clock < until) (puts : Puts key commit until (copies_in held) (copies_in after)) where
  pub put_held : IsDistinct same_key (keys_of (copies_in held)) → IsDistinct same_key (keys_of (copies_in after)) →
      SameCopies (held_of clock (copies_in after)) (with_copy clock (key, commit, until) (held_of clock (copies_in held)))
  put_held distinct distinct_after asked test =
      latest_kept clock asked test (copies_in after) distinct_after
      ∙ elim (cases_Bool (same_key asked key)) [
        | inl hit ↦ (
            let same : asked ≡ key = (same_key-Decides asked key).0 hit in
            ap (λ (k : KeyShape). if_above clock (greatest_in test (kept_of k (copies_in after)))) same
            ∙ ap (if_above clock) (puts.copies test)
            ∙ put_own clock until (greatest_in test (kept_of key (copies_in held))) (test commit) late
            ∙ ap (λ (o : Option ℕ). cond (test commit) (Some (later_of until o)) o) (sym (latest_kept clock key test (copies_in held) distinct))
            ∙ ap (λ (k : KeyShape). cond (test commit) (Some (later_of until (latest_where k test (held_of clock (copies_in held))))) (latest_where k test (held_of clock (copies_in held)))) (sym same)
            ∙ (rw (lt-ltb clock until late) (rw hit refl)))
        | inr other ↦ (
            ap (λ (o : Option KeptCopies). if_above clock (greatest_in test o)) (puts.others asked (other_way asked key other))
            ∙ sym (latest_kept clock asked test (copies_in held) distinct)
            ∙ (rw (lt-ltb clock until late) (rw other refl)))
      ]

  put_unexpired : AreUnexpired clock (copies_in held) → AreUnexpired clock (copies_in after)
  put_unexpired unexpired asked =
      elim (cases_Bool (same_key key asked)) [
        | inl hit ↦ (
            let same : key ≡ asked = (same_key-Decides key asked).0 hit in
            let all = puts.copies (λ _. true) in
            subst (λ (k : KeyShape). IfSome (kept_of k (copies_in after)) (λ kept. clock < last_until kept)) same (late_some clock (kept_of key (copies_in after)) (omega (arith, all, late))))
        | inr other ↦ subst (λ (o : Option KeptCopies). IfSome o (λ kept. clock < last_until kept)) (sym (puts.others asked other)) (unexpired asked)
      ]

  -- all stays sound
  pub sound_put : (reserved left idle busy : List KeyShape) → IsSound clock held reserved idle →
      ((q : KeyShape) → list_any (same_key q) left ≡ (not (same_key key q) && list_any (same_key q) reserved)) →
      ((q : KeyShape) → list_any (same_key q) busy ≡ (not (same_key key q) && list_any (same_key q) idle)) →
      IsDistinct same_key (keys_of (copies_in after)) → AreTied after →
      length after ≡ cond (is_some (kept_of key (copies_in held))) (length held) (length held + 1) →
      (is_active (held_of clock (copies_in held)) key ≡ true) ⊎ (active_keys (held_of clock (copies_in held)) < 1000000) →
      IsSound clock after left busy
  sound_put reserved left idle busy sound left_is busy_is distinct tied len few = record {
    distinct = distinct;
    few =
        few_after (kept_of key (copies_in held)) (length held) (length after) len sound.few (elim few [
          | inl active ↦ inl (sym (active_kept clock (copies_in held) key sound.distinct sound.unexpired) ∙ active)
          | inr less ↦ inr (let e = active_keys_kept clock (copies_in held) sound.distinct sound.unexpired in let n = length_shown held in omega (arith, e, n, less))
        ]);
    tied = tied;
    unexpired = put_unexpired sound.unexpired;
    space = λ asked there. (
        let parts = left_of key asked (list_any (same_key asked) reserved) (list_any (same_key asked) left) (left_is asked) there in
        subst (λ (o : Option KeptCopies). IfSome o HasSpace) (sym (puts.others asked parts.0)) (sound.space asked parts.1));
    gone = λ asked there. (
        let parts = left_of key asked (list_any (same_key asked) idle) (list_any (same_key asked) busy) (busy_is asked) there in
        puts.others asked parts.0 ∙ sound.gone asked parts.1);
  }

-- a reservation less
pub sound_released : (clock : ℕ) (held after : HeldKeys) (reserved left idle : List KeyShape) (key : KeyShape) → after ≡ held →
    ((q : KeyShape) → list_any (same_key q) left ≡ (not (same_key key q) && list_any (same_key q) reserved)) → IsSound clock held reserved idle → IsSound clock after left idle
sound_released clock held after reserved left idle key is left_is sound = subst (λ (es : HeldKeys). IsSound clock es left idle) (sym is) (record {
  distinct = sound.distinct;
  few = sound.few;
  tied = sound.tied;
  unexpired = sound.unexpired;
  space = λ asked there. sound.space asked (left_of key asked (list_any (same_key asked) reserved) (list_any (same_key asked) left) (left_is asked) there).1;
  gone = sound.gone;
})

-- one key more at most
pub len_after : (b : Bool) (len after : ℕ) → after ≡ cond b len (len + 1) → after ≤ len + 1
len_after true len after is = (let e : after ≡ len = is in omega (arith, e))
len_after false len after is = (let e : after ≡ len + 1 = is in omega (arith, e))

-- the idle keys without the key
pub idle_left : (same late was is : Bool) → is ≡ (not same && was) → late ≡ true → is ≡ (not (same && late) && was)
idle_left true late was is left there = left ∙ sym (ap (λ (b : Bool). not b && was) there)
idle_left false late was is left there = left

-- ---- after a reserve

some_late : (clock : ℕ) (o : Option KeptCopies) → IfSome o (λ kept. clock < last_until kept) → (o ≡ None) ⊎ (clock < greatest_in (λ _. true) o)
some_late clock None late = inl refl
some_late clock (Some kept) late = inr late

-- keys have space where the others have it and the key has it
space_with : (key : KeyShape) (after : Entries) (reserved now : List KeyShape) → HaveSpace reserved after → IfSome (kept_of key after) HasSpace →
    ((other : KeyShape) → same_key key other ≡ false → list_any (same_key other) now ≡ list_any (same_key other) reserved) → HaveSpace now after
space_with key after reserved now space own others asked there =
    elim (cases_Bool (same_key key asked)) [
      | inl hit ↦ (
          let same : key ≡ asked = (same_key-Decides key asked).0 hit in
          subst (λ (k : KeyShape). IfSome (kept_of k after) HasSpace) same own)
      | inr other ↦ space asked (sym (others asked other) ∙ there)
    ]

-- all is sound with the same entries
sound_same : (clock : ℕ) (held after : HeldKeys) (reserved idle idle_after : List KeyShape) → after ≡ held → idle_after ≡ idle → IsSound clock held reserved idle → IsSound clock after reserved idle_after
sound_same clock held after reserved idle idle_after is idle_is sound =
    subst (λ (es : HeldKeys). IsSound clock es reserved idle_after) (sym is) (subst (λ (ks : List KeyShape). IsSound clock held reserved ks) (sym idle_is) sound)

-- Copies of a key are dropped.
module _ {clock : ℕ} {key : KeyShape} {held : HeldKeys} (after : HeldKeys) {reserved idle : List KeyShape} (sound : IsSound clock held reserved idle)
    (trims : Trims clock key (copies_in held) (copies_in after)) (tied : AreTied after) where
  -- what is not kept is not kept afterwards
  none_kept : (asked : KeyShape) → kept_of asked (copies_in held) ≡ None → kept_of asked (copies_in after) ≡ None
  none_kept asked none =
      no_value (kept_of asked (copies_in after))
      (is_some-lookup (same_key asked) (copies_in after) ∙ ap (list_any (same_key asked)) trims.keys ∙ sym (is_some-lookup (same_key asked) (copies_in held)) ∙ ap (λ (o : Option KeptCopies). is_some o) none)
    where
      no_value : (o : Option KeptCopies) → is_some o ≡ false → o ≡ None
      no_value None h = refl
      no_value (Some kept) h = absurd (let clash : true ≡ false = h in cc)

  still_unexpired : AreUnexpired clock (copies_in after)
  still_unexpired asked =
      elim (cases_Bool (same_key key asked)) [
        | inl hit ↦ (
            let same : key ≡ asked = (same_key-Decides key asked).0 hit in
            subst (λ (k : KeyShape). IfSome (kept_of k (copies_in after)) (λ kept. clock < last_until kept)) same (elim (some_late clock (kept_of key (copies_in held)) (sound.unexpired key)) [
              | inl none ↦ subst (λ (o : Option KeptCopies). IfSome o (λ kept. clock < last_until kept)) (sym (none_kept key none)) tt
              | inr late ↦ (let l = trims.last in late_some clock (kept_of key (copies_in after)) (omega (arith, l, late)))
            ]))
        | inr other ↦ subst (λ (o : Option KeptCopies). IfSome o (λ kept. clock < last_until kept)) (sym (trims.others asked other)) (sound.unexpired asked)
      ]

  -- all stays sound
  sound_trimmed : (now : List KeyShape) → HaveSpace now (copies_in after) → IsSound clock after now idle
  sound_trimmed now space =
      let len : length (copies_in after) ≡ length (copies_in held) = sym (length-keys_of (copies_in after)) ∙ ap length trims.keys ∙ length-keys_of (copies_in held) in
      record {
        distinct = subst (λ (ks : List KeyShape). IsDistinct same_key ks) (sym trims.keys) sound.distinct;
        few = (let f = sound.few in let n = length_shown held in let m = length_shown after in omega (arith, len, f, n, m));
        tied = tied;
        unexpired = still_unexpired;
        space = space;
        gone = λ asked there. none_kept asked (sound.gone asked there);
      }

  -- the reserved keys, of which none is the key, still have space
  space_others : list_any (same_key key) reserved ≡ false → HaveSpace reserved (copies_in after)
  space_others absent asked there =
      elim (cases_Bool (same_key key asked)) [
        | inl hit ↦ absurd (
            let same : key ≡ asked = (same_key-Decides key asked).0 hit in
            let clash : true ≡ false = sym there ∙ ap (λ (k : KeyShape). list_any (same_key k) reserved) (sym same) ∙ absent in cc)
        | inr other ↦ subst (λ (o : Option KeptCopies). IfSome o HasSpace) (sym (trims.others asked other)) (sound.space asked there)
      ]

  -- of a key that is not reserved
  pub sound_cut : {now idle_after : List KeyShape} → list_any (same_key key) reserved ≡ false → now ≡ reserved → idle_after ≡ idle → IsSound clock after now idle_after
  sound_cut {now} {idle_after} absent same idle_is =
      sound_same clock after after now idle idle_after refl idle_is
      (sound_trimmed now (subst (λ (ks : List KeyShape). HaveSpace ks (copies_in after)) (sym same) (space_others absent)))

  -- and the key was reserved
  pub sound_reserved : {last : HeldKeys} {between now idle_after : List KeyShape} →
      list_any (same_key key) reserved ≡ false → between ≡ reserved → idle_after ≡ idle → IfSome (kept_of key (copies_in after)) HasSpace →
      ((other : KeyShape) → same_key key other ≡ false → list_any (same_key other) now ≡ list_any (same_key other) between) → last ≡ after → IsSound clock last now idle_after
  sound_reserved {last} {between} {now} {idle_after} absent same idle_is own others is =
      sound_same clock after last now idle idle_after is idle_is
      (sound_trimmed now (space_with key (copies_in after) reserved now (space_others absent) own (λ other miss. others other miss ∙ ap (list_any (same_key other)) same)))

-- ---- an idle key that is given

pub popped_inactive : (o : Option KeyShape) (clock : ℕ) (entries : Entries) (idle : List KeyShape) → IsDistinct same_key (keys_of entries) → AreUnexpired clock entries → AreGone idle entries → IfSome o (λ key. list_any (same_key key) idle ≡ true) →
    IfSome o (λ key. is_active (held_of clock entries) key ≡ false)
popped_inactive None clock entries idle distinct unexpired gone there = tt
popped_inactive (Some key) clock entries idle distinct unexpired gone there = active_kept clock entries key distinct unexpired ∙ ap (λ (o : Option KeptCopies). is_some o) (gone key there)

-- of a copy that has expired no key is taken from the idle ones
pub idle_kept : (k late i : Bool) → late ≡ false → i ≡ (not (k && late) && i)
idle_kept true late i early = sym (ap (λ (b : Bool). not b && i) early)
idle_kept false late i early = refl
