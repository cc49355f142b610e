-- The held keys and their copies.
use Rattle.std.proofs.Common.{◌≡◌, cond, zero, ℕ, ◌+◌, ◌<◌, suc, max, Bool, true, false, ◌||◌, List, [], ◌∷◌, ◌++◌, length, map, filter, All, Option, Some, None, IsSome, IfSome, is_some, option_map, nat_lt, position, Result, Ok, Err, OnOk, length-append, refl, sym, ap, ◌∙◌, subst, arith, inl, inr}
use Rattle.std.specs.List.{list_any, IsDistinct, position_or_len, slice_get}
use Rattle.std.specs.List.Sorted.{IsPermutation}
use Rattle.std.specs.Map.{lookup, keys_of, set_value}
use Rattle.std.proofs.lemmas.Bool.{cases_Bool}
use Rattle.std.proofs.lemmas.List.Elements.{All-map}
use Rattle.std.proofs.lemmas.List.Sorted.{IsPermutation-map, IsPermutation-sym, All-permutation, length_permutation}
use Rattle.std.proofs.lemmas.Map.{lookup-set_value}
use Rattle.std.proofs.lemmas.Map.Entries.{All-lookup}
use Rattle.indexmap.proofs.MapLemmas.{lookup_permutation}
use Rattle.query_normal.specs.declared.key.KeyShape.{KeyShape}
use Rattle.query_normal.specs.Keys.{same_key}
use Rattle.query_normal.specs.SameKey.{same_key-Decides, same_key_equiv}
use Rattle.expiring_map.specs.declared.timed.Timed.{Timed}
use Rattle.expiring_map.specs.Entries.{with_value_at, extended_at, Expires}
use Rattle.issued_expiries.specs.KeyCopies.{KeptCopies, HasSpace, greatest, is_later, last_until}
use Rattle.issued_expiries.specs.Entries.{Entries, copies_in, kept_of, held_of, greatest_in, Ages, AreTied, AreUnexpired, Puts, Trims}
use Rattle.issued_expiries.specs.Copies.{Copy}

-- what a map keeps of the keys
abbrev pub HeldKeys : Type 0
HeldKeys = List (KeyShape × Timed KeptCopies)

-- ---- the entries, with their copies alone

pub keys_shown : (held : HeldKeys) → keys_of (copies_in held) ≡ keys_of held
keys_shown [] = refl
keys_shown (e ∷ held) = ap (λ (ks : List KeyShape). e.0 ∷ ks) (keys_shown held)

pub length_shown : (held : HeldKeys) → length (copies_in held) ≡ length held
length_shown [] = refl
length_shown (e ∷ held) = ap suc (length_shown held)

-- the copies of an entry
abbrev pub kept_in : Option (Timed KeptCopies) → Option KeptCopies
kept_in None = None
kept_in (Some timed) = Some timed.value

-- the copies of an entry with its key
abbrev pub kept_there : Option (KeyShape × Timed KeptCopies) → Option KeptCopies
kept_there o = option_map (λ e. e.1.value) o

-- the copies that a look-up finds
pub kept_shown : (held : HeldKeys) (key : KeyShape) → kept_of key (copies_in held) ≡ kept_in (lookup (same_key key) held)
kept_shown [] key = refl
kept_shown (e ∷ held) key =
    elim (cases_Bool (same_key key e.0)) [
      | inl hit ↦ rw hit refl
      | inr other ↦ rw other (kept_shown held key)
    ]

pub found_shown : (held : HeldKeys) (key : KeyShape) → is_some (lookup (same_key key) held) ≡ is_some (kept_of key (copies_in held))
found_shown held key = found (lookup (same_key key) held) ∙ sym (ap (λ (o : Option KeptCopies). is_some o) (kept_shown held key))
  where
    found : (o : Option (Timed KeptCopies)) → is_some o ≡ is_some (kept_in o)
    found None = refl
    found (Some timed) = refl

pub none_shown : (held : HeldKeys) (key : KeyShape) → lookup (same_key key) held ≡ None → kept_of key (copies_in held) ≡ None
none_shown held key absent = kept_shown held key ∙ ap kept_in absent

pub none_found : {X : Type 0} (o : Option X) → false ≡ is_some o → o ≡ None
none_found None h = refl
none_found (Some n) h = absurd (let e = h in cc)

pub index_found : (key : KeyShape) (keys : List KeyShape) (index : ℕ) → Some index ≡ position (same_key key) keys → index ≡ position_or_len (same_key key) keys
index_found key keys index found =
    elim (cases_Bool (nat_lt (position_or_len (same_key key) keys) (length keys))) [
      | inl within ↦ (let own : Some index ≡ Some (position_or_len (same_key key) keys) = rw within at found in cc)
      | inr past ↦ absurd (let none : Some index ≡ None = rw past at found in cc)
    ]

-- the copies at the index of a key
pub kept_at : (held : HeldKeys) (key : KeyShape) (index : ℕ) (kept : KeptCopies) → index ≡ position_or_len (same_key key) (keys_of held) → kept_there (slice_get held index) ≡ Some kept → kept_of key (copies_in held) ≡ Some kept
kept_at [] key index kept at there = absurd (let h = there in cc)
kept_at (e ∷ held) key index kept at there =
    elim (cases_Bool (same_key key e.0)) [
      | inl hit ↦ (
          let first : index ≡ 0 = rw hit at at in
          rw hit (subst (λ (i : ℕ). kept_there (slice_get (e ∷ held) i) ≡ Some kept) first there))
      | inr other ↦ (
          let rest = position_or_len (same_key key) (keys_of held) in
          let behind : index ≡ 1 + rest = rw other at at in
          let next : index ≡ suc rest = omega (arith, behind) in
          rw other (kept_at held key rest kept refl (subst (λ (i : ℕ). kept_there (slice_get (e ∷ held) i) ≡ Some kept) next there)))
    ]

-- copies written at the index of a key
pub written_shown : (held : HeldKeys) (key : KeyShape) (index : ℕ) (kept : KeptCopies) → index ≡ position_or_len (same_key key) (keys_of held) → copies_in (with_value_at held index kept) ≡ set_value (same_key key) (copies_in held) kept
written_shown [] key index kept at = refl
written_shown (e ∷ held) key index kept at =
    elim (cases_Bool (same_key key e.0)) [
      | inl hit ↦ (
          let first : index ≡ 0 = rw hit at at in
          ap (λ (i : ℕ). copies_in (with_value_at (e ∷ held) i kept)) first ∙ rw hit refl)
      | inr other ↦ (
          let rest = position_or_len (same_key key) (keys_of held) in
          let behind : index ≡ 1 + rest = rw other at at in
          let next : index ≡ suc rest = omega (arith, behind) in
          ap (λ (i : ℕ). copies_in (with_value_at (e ∷ held) i kept)) next
          ∙ ap (λ (es : Entries). (e.0, e.1.value) ∷ es) (written_shown held key rest kept refl)
          ∙ rw other refl)
    ]

extended_shown : (held : HeldKeys) (index until : ℕ) → copies_in (extended_at held index until) ≡ copies_in held
extended_shown [] index until = refl
extended_shown (e ∷ held) zero until = refl
extended_shown (e ∷ held) (suc index) until = ap (λ (es : Entries). (e.0, e.1.value) ∷ es) (extended_shown held index until)

pub length_written : (held : HeldKeys) (index : ℕ) (kept : KeptCopies) → length (with_value_at held index kept) ≡ length held
length_written [] index kept = refl
length_written (e ∷ held) zero kept = refl
length_written (e ∷ held) (suc index) kept = ap suc (length_written held index kept)

length_extended : (held : HeldKeys) (index until : ℕ) → length (extended_at held index until) ≡ length held
length_extended [] index until = refl
length_extended (e ∷ held) zero until = refl
length_extended (e ∷ held) (suc index) until = ap suc (length_extended held index until)

-- other copies with the same last
pub tied_written : (held : HeldKeys) (index : ℕ) (old new : KeptCopies) → kept_there (slice_get held index) ≡ Some old → last_until new ≡ last_until old → AreTied held → AreTied (with_value_at held index new)
tied_written [] index old new there same tied i d low = absurd (omega (arith, low))
tied_written (e ∷ held) zero old new there same tied zero d low =
    let is : e.1.value ≡ old = (let h = there in cc) in
    tied 0 e (omega arith) ∙ ap last_until is ∙ sym same
tied_written (e ∷ held) zero old new there same tied (suc i) d low = tied (suc i) d low
tied_written (e ∷ held) (suc index) old new there same tied zero d low = tied 0 e (omega arith)
tied_written (e ∷ held) (suc index) old new there same tied (suc i) d low = tied_written held index old new there same (λ k x less. tied (suc k) x (omega (arith, less))) i d (omega (arith, low))

-- one copy more, and the later second
pub tied_put : (held : HeldKeys) (index : ℕ) (old new : KeptCopies) (until : ℕ) → kept_there (slice_get held index) ≡ Some old → last_until new ≡ max (last_until old) until → AreTied held → AreTied (extended_at (with_value_at held index new) index until)
tied_put [] index old new until there up tied i d low = absurd (omega (arith, low))
tied_put (e ∷ held) zero old new until there up tied zero d low =
    let is : e.1.value ≡ old = (let h = there in cc) in
    let own : e.1.until ≡ last_until old = tied 0 e (omega arith) ∙ ap last_until is in
    omega (arith, own, up)
tied_put (e ∷ held) zero old new until there up tied (suc i) d low = tied (suc i) d low
tied_put (e ∷ held) (suc index) old new until there up tied zero d low = tied 0 e (omega arith)
tied_put (e ∷ held) (suc index) old new until there up tied (suc i) d low = tied_put held index old new until there up (λ k x less. tied (suc k) x (omega (arith, less))) i d (omega (arith, low))

-- one key more
pub length_new : (held after : HeldKeys) (key : KeyShape) (timed : Timed KeptCopies) → after ≡ held ++ (key, timed) ∷ [] → kept_of key (copies_in held) ≡ None → length after ≡ cond (is_some (kept_of key (copies_in held))) (length held) (length held + 1)
length_new held after key timed is absent =
    let size : length after ≡ length (held ++ (key, timed) ∷ []) = ap (λ (es : HeldKeys). length es) is in
    let more = length-append held ((key, timed) ∷ []) in
    (let e : length after ≡ length held + 1 = omega (arith, size, more) in e)
    ∙ sym (ap (λ (o : Option KeptCopies). cond (is_some o) (length held) (length held + 1)) absent)

-- what holds where a call succeeds
pub on_ok : {T E : Type 0} (r : Result T E) (P Q : Type 0) → OnOk r P → (P → Q) → OnOk r Q
on_ok (Ok value) P Q p then = then p
on_ok (Err e) P Q p then = tt

pub new_shown : (held after : HeldKeys) (key : KeyShape) (until : ℕ) (kept : KeptCopies) → after ≡ held ++ (key, record { until = until; value = kept }) ∷ [] → copies_in after ≡ copies_in held ++ (key, kept) ∷ []
new_shown held after key until kept is = ap copies_in is ∙ last held
  where
    last : (es : HeldKeys) → copies_in (es ++ (key, record { until = until; value = kept }) ∷ []) ≡ copies_in es ++ (key, kept) ∷ []
    last [] = refl
    last (e ∷ es) = ap (λ (xs : Entries). (e.0, e.1.value) ∷ xs) (last es)

-- the test of two keys either way round
pub other_way : (a b : KeyShape) → same_key a b ≡ false → same_key b a ≡ false
other_way a b other =
    elim (cases_Bool (same_key b a)) [
      | inl hit ↦ absurd (
          let same : b ≡ a = (same_key-Decides b a).0 hit in
          let back : same_key a b ≡ true = (same_key-Decides a b).1 (sym same) in
          let clash : true ≡ false = sym back ∙ other in cc)
      | inr fails ↦ fails
    ]

-- what a look-up finds with a new key at the end
kept_new : (entries : Entries) (key : KeyShape) (kept : KeptCopies) → kept_of key entries ≡ None → kept_of key (entries ++ (key, kept) ∷ []) ≡ Some kept
kept_new [] key kept absent = rw (same_key-Decides key key).1 refl
kept_new (e ∷ entries) key kept absent =
    elim (cases_Bool (same_key key e.0)) [
      | inl hit ↦ absurd (let first : Some e.1 ≡ None = rw hit at absent in cc)
      | inr other ↦ rw other (kept_new entries key kept (rw other at absent))
    ]

kept_others : (entries : Entries) (key other : KeyShape) (kept : KeptCopies) → same_key other key ≡ false → kept_of other (entries ++ (key, kept) ∷ []) ≡ kept_of other entries
kept_others [] key other kept miss = rw miss refl
kept_others (e ∷ entries) key other kept miss =
    elim (cases_Bool (same_key other e.0)) [
      | inl hit ↦ rw hit refl
      | inr else ↦ rw else (kept_others entries key other kept miss)
    ]

pub puts_new : (entries after : Entries) (key : KeyShape) (commit until : ℕ) (kept : KeptCopies) → kept_of key entries ≡ None → after ≡ entries ++ (key, kept) ∷ [] → kept ≡ record { copies = (commit, until) ∷ []; capacity = 1 } → Puts key commit until entries after
puts_new entries after key commit until kept absent is one = record {
  copies = λ test.
      ap (λ (es : Entries). greatest_in test (kept_of key es)) is
      ∙ ap (greatest_in test) (kept_new entries key kept absent)
      ∙ ap (λ (k : KeptCopies). greatest test k.copies) one
      ∙ by (test commit)
      ∙ sym (ap (λ (o : Option KeptCopies). max (greatest_in test o) (cond (test commit) until 0)) absent);
  others = λ other miss. ap (λ (es : Entries). kept_of other es) is ∙ kept_others entries key other kept (other_way key other miss);
}
  where
    by : (b : Bool) → cond b (max until 0) 0 ≡ max 0 (cond b until 0)
    by true = (let e : max until 0 ≡ max 0 until = omega arith in e)
    by false = (let e : 0 ≡ max 0 0 = omega arith in e)

-- the copies after a put at the index of a key
pub put_shown : (held after : HeldKeys) (key : KeyShape) (index until : ℕ) (new : KeptCopies) → index ≡ position_or_len (same_key key) (keys_of held) → after ≡ extended_at (with_value_at held index new) index until →
    copies_in after ≡ set_value (same_key key) (copies_in held) new
put_shown held after key index until new at is = ap copies_in is ∙ extended_shown (with_value_at held index new) index until ∙ written_shown held key index new at

pub length_put : (held after : HeldKeys) (index until : ℕ) (new : KeptCopies) → after ≡ extended_at (with_value_at held index new) index until → length after ≡ length held
length_put held after index until new is = ap (λ (es : HeldKeys). length es) is ∙ length_extended (with_value_at held index new) index until ∙ length_written held index new

keys_set : (entries : Entries) (key : KeyShape) (new : KeptCopies) → keys_of (set_value (same_key key) entries new) ≡ keys_of entries
keys_set [] key new = refl
keys_set (e ∷ entries) key new =
    elim (cases_Bool (same_key key e.0)) [
      | inl hit ↦ rw hit refl
      | inr other ↦ rw other (ap (λ (ks : List KeyShape). e.0 ∷ ks) (keys_set entries key new))
    ]

pub distinct_set : (entries after : Entries) (key : KeyShape) (new : KeptCopies) → after ≡ set_value (same_key key) entries new → IsDistinct same_key (keys_of entries) → IsDistinct same_key (keys_of after)
distinct_set entries after key new is distinct = subst (λ (ks : List KeyShape). IsDistinct same_key ks) (sym (ap (λ (es : Entries). keys_of es) is ∙ keys_set entries key new)) distinct

pub distinct_shown : (held : HeldKeys) → IsDistinct same_key (keys_of held) → IsDistinct same_key (keys_of (copies_in held))
distinct_shown held distinct = subst (λ (ks : List KeyShape). IsDistinct same_key ks) (sym (keys_shown held)) distinct

-- a key's copies are replaced by ones of which the same are unexpired
pub held_same : (clock : ℕ) (held : Entries) (key : KeyShape) (old new : KeptCopies) → kept_of key held ≡ Some old → filter (is_later clock) new.copies ≡ filter (is_later clock) old.copies →
    held_of clock (set_value (same_key key) held new) ≡ held_of clock held
held_same clock [] key old new found same = refl
held_same clock (e ∷ held) key old new found same =
    elim (cases_Bool (same_key key e.0)) [
      | inl hit ↦ (
          let is : e.1 ≡ old = (let f : Some e.1 ≡ Some old = rw hit at found in cc) in
          rw hit (ap (λ (copies : List (ℕ × ℕ)). map (λ copy. (e.0, copy.0, copy.1)) copies ++ held_of clock held) (same ∙ ap (λ (kept : KeptCopies). filter (is_later clock) kept.copies) (sym is))))
      | inr other ↦ rw other (ap (λ (copies : List Copy). map (λ copy. (e.0, copy.0, copy.1)) (filter (is_later clock) e.1.copies) ++ copies) (held_same clock held key old new (rw other at found) same))
    ]

-- The copies of a key are replaced.
module _ (entries after : Entries) (key : KeyShape) (old new : KeptCopies) (found : kept_of key entries ≡ Some old) (is : after ≡ set_value (same_key key) entries new) where
  -- what a look-up finds
  kept_set : (asked : KeyShape) → kept_of asked after ≡ cond (same_key key asked) (Some new) (kept_of asked entries)
  kept_set asked =
      ap (λ (es : Entries). kept_of asked es) is
      ∙ lookup-set_value same_key_equiv (same_key key) (same_key_equiv.congr key) asked new entries (subst (λ (o : Option KeptCopies). IsSome o) (sym found) refl)

  own : kept_of key after ≡ Some new
  own = kept_set key ∙ ap (λ (b : Bool). cond b (Some new) (kept_of key entries)) ((same_key-Decides key key).1 refl)

  others : (other : KeyShape) → same_key key other ≡ false → kept_of other after ≡ kept_of other entries
  others other miss = kept_set other ∙ ap (λ (b : Bool). cond b (Some new) (kept_of other entries)) miss

  pub puts_again : (commit until : ℕ) → ((test : ℕ → Bool) → greatest test new.copies ≡ max (greatest test old.copies) (cond (test commit) until 0)) → Puts key commit until entries after
  puts_again commit until put = record {
    copies = λ test. ap (greatest_in test) own ∙ put test ∙ sym (ap (λ (o : Option KeptCopies). max (greatest_in test o) (cond (test commit) until 0)) found);
    others = others;
  }

  -- the copies of a key after a trim
  pub trimmed : (clock : ℕ) → filter (is_later clock) new.copies ≡ filter (is_later clock) old.copies → last_until new ≡ last_until old → Trims clock key entries after
  trimmed clock later last = record {
    keys = ap (λ (es : Entries). keys_of es) is ∙ keys_set entries key new;
    held = ap (held_of clock) is ∙ held_same clock entries key old new found later;
    last = ap (greatest_in (λ _. true)) own ∙ last ∙ sym (ap (greatest_in (λ _. true)) found);
    others = others;
  }

  pub space_set : HasSpace new → IfSome (kept_of key after) HasSpace
  space_set space = subst (λ (o : Option KeptCopies). IfSome o HasSpace) (sym own) space

-- ---- what a moment does

-- a step later
pub ages_then : (moment : ℕ) (first second third : Option KeptCopies) (a b c : Bool) → Ages moment first second a b → Ages moment second third b c → Ages moment first third a c
ages_then moment first second third a b c (inl before) (inl after) = inl (after.0 ∙ before.0, after.1 ∙ before.1)
ages_then moment first second third a b c (inl before) (inr (kept, is, past, gone, idle)) = inr (kept, sym before.0 ∙ is, past, gone, idle)
ages_then moment first second third a b c (inr (kept, is, past, gone, idle)) (inl after) = inr (kept, is, past, after.0 ∙ gone, after.1 ∙ idle)
ages_then moment first second third a b c (inr (kept, is, past, gone, idle)) (inr (other, other_is, other_past, other_gone, other_idle)) = inr (kept, is, past, other_gone, other_idle)

-- A key expired, and its entry was removed.
module _ {moment : ℕ} {key : KeyShape} {value : KeptCopies} {held rest : HeldKeys} (expires : Expires moment key value held rest) where
  abbrev removed : KeyShape × Timed KeptCopies
  removed = (key, record { until = expires.until; value = value })

  parted : IsPermutation held (removed ∷ rest)
  parted = expires.removed.parted

  -- it and the others are tied
  tied_all : AreTied held → AreTied (removed ∷ rest)
  tied_all tied = All-permutation (λ (e : KeyShape × Timed KeptCopies). e.1.until ≡ last_until e.1.value) held (removed ∷ rest) parted tied

  -- its last copy expired, and no other key was removed
  pub ages_expired : (idle after : List KeyShape) → AreTied held → IsDistinct same_key (keys_of (copies_in held)) →
      ((q : KeyShape) → list_any (same_key q) after ≡ (same_key key q || list_any (same_key q) idle)) →
      (asked : KeyShape) → Ages moment (kept_of asked (copies_in held)) (kept_of asked (copies_in rest)) (list_any (same_key asked) idle) (list_any (same_key asked) after)
  ages_expired idle after tied distinct with_key asked =
      let perm : IsPermutation (copies_in held) ((key, value) ∷ copies_in rest) = IsPermutation-map (λ (e : KeyShape × Timed KeptCopies). (e.0, e.1.value)) held (removed ∷ rest) parted in
      let found : kept_of asked (copies_in held) ≡ kept_of asked ((key, value) ∷ copies_in rest) =
      lookup_permutation same_key_equiv ((key, value) ∷ copies_in rest) (copies_in held) (IsPermutation-sym (copies_in held) ((key, value) ∷ copies_in rest) perm) distinct (same_key asked) (same_key_equiv.congr asked) in
      elim (cases_Bool (same_key key asked)) [
        | inl same ↦ (
            let is : key ≡ asked = (same_key-Decides key asked).0 same in
            let own : same_key asked key ≡ true = (same_key-Decides asked key).1 (sym is) in
            let last : expires.until ≡ last_until value = tied_all tied 0 removed (omega arith) in
            let past = expires.past in
            inr (
              value,
              found ∙ (rw own refl),
              omega (arith, last, past),
              ap (λ (k : KeyShape). kept_of k (copies_in rest)) (sym is) ∙ none_shown rest key expires.removed.absent,
              with_key asked ∙ ap (λ (b : Bool). b || list_any (same_key asked) idle) same,
            ))
        | inr other ↦ (
            let miss : same_key asked key ≡ false = other_way key asked other in
            inl (
              sym (found ∙ (rw miss refl)),
              with_key asked ∙ ap (λ (b : Bool). b || list_any (same_key asked) idle) other,
            ))
      ]

  pub tied_rest : AreTied held → AreTied rest
  tied_rest tied k d low = tied_all tied (suc k) d (omega (arith, low))

  pub fewer : length held ≡ length rest + 1
  fewer = let size = length_permutation held (removed ∷ rest) parted in omega (arith, size)

-- where no key leaves, none is past the moment
pub unexpired_all : (moment : ℕ) (held : HeldKeys) → AreTied held → All (λ (e : KeyShape × Timed KeptCopies). moment < e.1.until) held → AreUnexpired moment (copies_in held)
unexpired_all moment held tied later key =
    All-lookup (λ (kept : KeptCopies). moment < last_until kept) (same_key key) (copies_in held)
    (All-map (λ (e : KeyShape × KeptCopies). moment < last_until e.1) (λ (e : KeyShape × Timed KeptCopies). (e.0, e.1.value)) held
    (λ k d low. (let t = tied k d low in let l = later k d low in omega (arith, t, l))))
