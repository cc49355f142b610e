-- The held keys and their indexes in the queue.
use Rattle.std.proofs.Common.{◌≡◌, ◌⊎◌, zero, option_map, ℕ, ◌+◌, ◌-◌, ◌<◌, ◌≤◌, suc, true, List, [], ◌∷◌, ◌++◌, length, take, map, set, get_or, All, Contains, Some, None, refl, sym, ap, ◌∙◌, subst, arith, inl, inr, position, length-append}
use Rattle.std.specs.List.{slice_get, swap_remove}
use Rattle.std.specs.List.Sorted.{IsPermutation}
use Rattle.std.specs.Map.{lookup, keys_of}
use Rattle.std.specs.declared.cmp.Reverse.{Reverse}
use Rattle.std.proofs.lemmas.Option.{get_or_from_slice_get}
use Rattle.std.proofs.lemmas.Bool.{cases_Bool, cases_eq, cases_lt}
use Rattle.std.proofs.lemmas.List.{get_or-set_other, get_or-take, length-take, get_or_append_left, get_or-map}
use Rattle.std.proofs.lemmas.List.Quantifiers.{position-Some}
use Rattle.std.proofs.lemmas.List.Sorted.{IsPermutation-swap_remove, Contains-permutation, sum_by_popped, sum_by_pushed}
use Rattle.std.proofs.Math.Seq.{get_or-append_seam}
use Rattle.indexmap.specs.IndexMap.{insert_entry, set_value_at}
use Rattle.query_normal.specs.declared.key.KeyShape.{KeyShape}
use Rattle.query_normal.specs.Keys.{same_key}
use Rattle.query_normal.specs.SameKey.{same_key-Decides}
use Rattle.expiring_map.specs.declared.timed.Timed.{Timed}
use Rattle.expiring_map.specs.Due.{due, overdue, IsCovered, IsCoveredBut, IsDueAt, IsEarliest}
use Rattle.expiring_map.specs.Map.{Expiring}
use Rattle.expiring_map.specs.Entries.{Removes, Expires, with_value, extended, with_value_at, extended_at}

-- ---- the queue

-- an element of a list is in the list with one more
contains_later : {X : Type 0} (xs : List X) (x y : X) → Contains xs x → Contains (y ∷ xs) x
contains_later xs x y found = (suc found.0, omega (arith, found.1), found.2)

-- an element of a list is its first or one of the others
contains_at : {X : Type 0} (x y : X) (xs : List X) (k : ℕ) → k < length (x ∷ xs) → get_or (x ∷ xs) k y ≡ y → (x ≡ y) ⊎ Contains xs y
contains_at x y xs zero low e = inl e
contains_at x y xs (suc k) low e = inr (k, omega (arith, low), e)

-- an index that is due later than at a second
pub overdue_pushed : (moment due_at until index : ℕ) (queue after : List (Reverse (ℕ × ℕ))) → due_at < until → due_at ≤ moment → IsPermutation (due until index ∷ queue) after →
    overdue moment after < overdue moment queue + (moment + 1 - due_at)
overdue_pushed moment due_at until index queue after later past perm =
    let pushed = sum_by_pushed (λ (d : Reverse (ℕ × ℕ)). moment + 1 - d.0.0) (due until index) queue after perm in
    omega (arith, pushed)

-- an index that was popped
pub overdue_popped : (moment until index : ℕ) (queue after : List (Reverse (ℕ × ℕ))) → IsPermutation queue (due until index ∷ after) → overdue moment queue ≡ (moment + 1 - until) + overdue moment after
overdue_popped moment until index queue after perm =
    let popped = sum_by_popped (λ (d : Reverse (ℕ × ℕ)). moment + 1 - d.0.0) (due until index) queue after perm in
    omega (arith, popped)

module _ {V : Type 0} where
  -- an index of a longer queue
  due_later : (held : List (KeyShape × Timed V)) (queue after : List (Reverse (ℕ × ℕ))) (until index i : ℕ) → IsPermutation (due until index ∷ queue) after → IsDueAt held queue i → IsDueAt held after i
  due_later held queue after until index i perm found d =
      let old = found d in
      (old.0, old.1, Contains-permutation (due until index ∷ queue) after (due old.0 i) perm (contains_later queue (due old.0 i) (due until index) old.2))

  -- each index is covered once the one that was not is pushed
  pub covered_all : (held : List (KeyShape × Timed V)) (queue after : List (Reverse (ℕ × ℕ))) (until index : ℕ) → IsPermutation (due until index ∷ queue) after →
      ((d : KeyShape × Timed V) → (get_or held index d).1.until ≡ until) → IsCoveredBut index held queue → IsCovered held after
  covered_all held queue after until index perm here covered i within =
      elim (cases_eq i index) [
        | inl same ↦ (λ d. (
          until,
          (let e = here d in subst (λ (n : ℕ). until ≤ (get_or held n d).1.until) (sym same) (omega (arith, e))),
          subst (λ (n : ℕ). Contains after (due until n)) (sym same)
              (Contains-permutation (due until index ∷ queue) after (due until index) perm (0, omega arith, refl)),
        ))
        | inr other ↦ due_later held queue after until index i perm (covered i within other)
      ]

  -- an index past the last needs no cover
  pub covered_past : (held : List (KeyShape × Timed V)) (queue : List (Reverse (ℕ × ℕ))) (index : ℕ) → length held ≤ index → IsCoveredBut index held queue → IsCovered held queue
  covered_past held queue index past covered i within = covered i within (λ e. (let h : i ≡ index = e in omega (arith, h, past, within)))

  -- after the last key took an index, the other indexes are covered as before
  pub covered_moved : (held rest : List (KeyShape × Timed V)) (queue : List (Reverse (ℕ × ℕ))) (index : ℕ) (e : KeyShape × Timed V) → index < length held → rest ≡ swap_remove held index e →
      IsCoveredBut index held queue → IsCoveredBut index rest queue
  covered_moved held rest queue index e within is covered i low other d =
      let cut = length-take (length held - 1) (set held index (get_or held (length held - 1) e)) in
      let size : length rest ≡ length (take (length held - 1) (set held index (get_or held (length held - 1) e))) = ap length is in
      let low_here : i < length held - 1 = omega (arith, cut, size, low) in
      let here : get_or rest i d ≡ get_or held i d =
      ap (λ (xs : List (KeyShape × Timed V)). get_or xs i d) is
      ∙ get_or-take (length held - 1) (set held index (get_or held (length held - 1) e)) i d low_here
      ∙ get_or-set_other held index i (get_or held (length held - 1) e) d other in
      let old = covered i (omega (arith, low_here)) other d in
      (old.0, subst (λ (x : KeyShape × Timed V). old.0 ≤ x.1.until) (sym here) old.1, old.2)

  -- the other indexes stay covered when one is popped
  pub covered_popped : (held : List (KeyShape × Timed V)) (queue after : List (Reverse (ℕ × ℕ))) (until index : ℕ) → IsPermutation queue (due until index ∷ after) → IsCovered held queue → IsCoveredBut index held after
  covered_popped held queue after until index perm covered i within other d =
      let old = covered i within d in
      let there = Contains-permutation queue (due until index ∷ after) (due old.0 i) perm old.2 in (
        old.0,
        old.1,
        elim (contains_at (due until index) (due old.0 i) after there.0 there.1 there.2) [
          | inl same ↦ absurd (other (sym (ap (λ (x : Reverse (ℕ × ℕ)). x.0.1) same)))
          | inr found ↦ found
        ],
      )

  -- no key expires before the first index is due
  late : (held : List (KeyShape × Timed V)) (queue : List (Reverse (ℕ × ℕ))) (least : ℕ) → IsCovered held queue → All (λ (d : Reverse (ℕ × ℕ)). least ≤ d.0.0) queue → (i : ℕ) (d : KeyShape × Timed V) → i < length held → least ≤ (get_or held i d).1.until
  late held queue least covered first i d within =
      let at = covered i within d in
      let found = at.2 in
      let low : least ≤ at.0 = subst (λ (x : Reverse (ℕ × ℕ)). least ≤ x.0.0) found.2 (first found.0 (due at.0 i) found.1) in
      omega (arith, low, at.1)

  -- where no index is due, no key expires
  pub all_later : (moment : ℕ) (held : List (KeyShape × Timed V)) (queue : List (Reverse (ℕ × ℕ))) → IsCovered held queue → All (λ (d : Reverse (ℕ × ℕ)). moment < d.0.0) queue → All (λ (e : KeyShape × Timed V). moment < e.1.until) held
  all_later moment held queue covered later i d within =
      let at = covered i within d in
      let found = at.2 in
      let low : moment < at.0 = subst (λ (x : Reverse (ℕ × ℕ)). moment < x.0.0) found.2 (later found.0 (due at.0 i) found.1) in
      omega (arith, low, at.1)

  -- the key of the index that is due first, where it expires then, expires first
  pub earliest_at : (moment due_at index : ℕ) (held : List (KeyShape × Timed V)) (queue : List (Reverse (ℕ × ℕ))) → IsCovered held queue → All (λ (d : Reverse (ℕ × ℕ)). due_at ≤ d.0.0) queue → due_at ≤ moment →
      ((d : KeyShape × Timed V) → (get_or held index d).1.until ≤ due_at) → IsEarliest moment index held
  earliest_at moment due_at index held queue covered first past here i d within =
      let own = here d in
      let other = late held queue due_at covered first i d within in
      (omega (arith, own, other), omega (arith, own, past))

  -- a queue covers keys of which each expires as late or later
  covered_risen : (held after : List (KeyShape × Timed V)) (queue : List (Reverse (ℕ × ℕ))) → length after ≡ length held → ((i : ℕ) (d : KeyShape × Timed V) → (get_or held i d).1.until ≤ (get_or after i d).1.until) →
      IsCovered held queue → IsCovered after queue
  covered_risen held after queue same risen covered i within d =
      let old = covered i (omega (arith, same, within)) d in
      let up = risen i d in
      (old.0, omega (arith, old.1, up), old.2)

  -- and with a new key at the end
  pub covered_new : (held after : List (KeyShape × Timed V)) (queue queue_after : List (Reverse (ℕ × ℕ))) (key : KeyShape) (timed : Timed V) (index : ℕ) → after ≡ held ++ (key, timed) ∷ [] → index ≡ length held →
      IsPermutation (due timed.until index ∷ queue) queue_after → IsCovered held queue → IsCovered after queue_after
  covered_new held after queue queue_after key timed index is at perm covered =
      subst (λ (es : List (KeyShape × Timed V)). IsCovered es queue_after) (sym is) (λ i within d.
      let all = length-append held ((key, timed) ∷ []) in
      elim (cases_lt i (length held)) [
        | inl before ↦ (
            let old = due_later held queue queue_after timed.until index i perm (covered i before) d in
            let same = get_or_append_left held ((key, timed) ∷ []) d i before in
            (old.0, subst (λ (e : KeyShape × Timed V). old.0 ≤ e.1.until) (sym same) old.1, old.2))
        | inr past ↦ (
            let last : i ≡ index = omega (arith, all, within, past, at) in
            let end : i ≡ length held = last ∙ at in
            let same : get_or (held ++ (key, timed) ∷ []) i d ≡ (key, timed) = ap (λ (n : ℕ). get_or (held ++ (key, timed) ∷ []) n d) end ∙ get_or-append_seam held (key, timed) [] d in (
              timed.until,
              subst (λ (e : KeyShape × Timed V). timed.until ≤ e.1.until) (sym same) (omega arith),
              subst (λ (n : ℕ). Contains queue_after (due timed.until n)) (sym last)
                  (Contains-permutation (due timed.until index ∷ queue) queue_after (due timed.until index) perm (0, omega arith, refl)),
            ))
      ])

  -- the same entries and the same queue
  pub covered_same : (held after : List (KeyShape × Timed V)) (queue queue_after : List (Reverse (ℕ × ℕ))) → after ≡ held → queue_after ≡ queue → IsCovered held queue → IsCovered after queue_after
  covered_same held after queue queue_after is same covered =
      subst (λ (es : List (KeyShape × Timed V)). IsCovered es queue_after) (sym is) (subst (λ (xs : List (Reverse (ℕ × ℕ))). IsCovered held xs) (sym same) covered)

  pub covered_but : (held : List (KeyShape × Timed V)) (queue after : List (Reverse (ℕ × ℕ))) (index : ℕ) → after ≡ queue → IsCoveredBut index held queue → IsCoveredBut index held after
  covered_but held queue after index same covered = subst (λ (xs : List (Reverse (ℕ × ℕ))). IsCoveredBut index held xs) (sym same) covered

  -- ---- entries

  -- what a map shows
  abbrev pub shown : List (KeyShape × Timed V) → List KeyShape → Expiring V
  shown entries reserved = record { entries = entries; reserved = reserved }

  -- a new key is last
  pub insert_last : (held : List (KeyShape × Timed V)) (key : KeyShape) (timed : Timed V) → lookup (same_key key) held ≡ None → insert_entry same_key held key timed ≡ held ++ (key, timed) ∷ []
  insert_last [] key timed absent = refl
  insert_last (e ∷ held) key timed absent =
      elim (cases_Bool (same_key key e.0)) [
        | inl hit ↦ absurd (let first : Some e.1 ≡ None = rw hit at absent in cc)
        | inr other ↦ rw other (ap (λ (es : List (KeyShape × Timed V)). e ∷ es) (insert_last held key timed (rw other at absent)))
      ]

  -- the entry that a removal took out, and the others
  pub parted_at : (held rest : List (KeyShape × Timed V)) (index : ℕ) (e : KeyShape × Timed V) → index < length held → Some e ≡ slice_get held index → rest ≡ swap_remove held index e →
      IsPermutation held (e ∷ rest)
  parted_at held rest index e within there is =
      let at = get_or_from_slice_get held index e e (sym there) in
      subst (λ (xs : List (KeyShape × Timed V)). IsPermutation held (e ∷ xs)) (sym is) (IsPermutation-swap_remove held index e within (sym at))

  -- a later second written at an index
  pub extended_is : (held : List (KeyShape × Timed V)) (index until : ℕ) (timed : Timed V) → slice_get (map (λ e. e.1) held) index ≡ Some timed → set_value_at held index (extended timed until) ≡ extended_at held index until
  extended_is [] index until timed there = refl
  extended_is (e ∷ held) zero until timed there =
      let same : e.1 ≡ timed = (let h = there in cc) in
      ap (λ (t : Timed V). (e.0, extended t until) ∷ held) (sym same)
  extended_is (e ∷ held) (suc index) until timed there = ap (λ (es : List (KeyShape × Timed V)). e ∷ es) (extended_is held index until timed there)

  -- a value written at an index
  pub written_is : (held : List (KeyShape × Timed V)) (index : ℕ) (value : V) (timed : Timed V) → slice_get (map (λ e. e.1) held) index ≡ Some timed → set_value_at held index (with_value timed value) ≡ with_value_at held index value
  written_is [] index value timed there = refl
  written_is (e ∷ held) zero value timed there =
      let same : e.1 ≡ timed = (let h = there in cc) in
      ap (λ (t : Timed V). (e.0, with_value t value) ∷ held) (sym same)
  written_is (e ∷ held) (suc index) value timed there = ap (λ (es : List (KeyShape × Timed V)). e ∷ es) (written_is held index value timed there)

  length-extended_at : (held : List (KeyShape × Timed V)) (index until : ℕ) → length (extended_at held index until) ≡ length held
  length-extended_at [] index until = refl
  length-extended_at (e ∷ held) zero until = refl
  length-extended_at (e ∷ held) (suc index) until = ap suc (length-extended_at held index until)

  pub keys-extended_at : (held : List (KeyShape × Timed V)) (index until : ℕ) → keys_of (extended_at held index until) ≡ keys_of held
  keys-extended_at [] index until = refl
  keys-extended_at (e ∷ held) zero until = refl
  keys-extended_at (e ∷ held) (suc index) until = ap (λ (ks : List KeyShape). e.0 ∷ ks) (keys-extended_at held index until)

  pub keys-with_value_at : (held : List (KeyShape × Timed V)) (index : ℕ) (value : V) → keys_of (with_value_at held index value) ≡ keys_of held
  keys-with_value_at [] index value = refl
  keys-with_value_at (e ∷ held) zero value = refl
  keys-with_value_at (e ∷ held) (suc index) value = ap (λ (ks : List KeyShape). e.0 ∷ ks) (keys-with_value_at held index value)

  length-with_value_at : (held : List (KeyShape × Timed V)) (index : ℕ) (value : V) → length (with_value_at held index value) ≡ length held
  length-with_value_at [] index value = refl
  length-with_value_at (e ∷ held) zero value = refl
  length-with_value_at (e ∷ held) (suc index) value = ap suc (length-with_value_at held index value)

  extended-risen : (held : List (KeyShape × Timed V)) (index until i : ℕ) (d : KeyShape × Timed V) → (get_or held i d).1.until ≤ (get_or (extended_at held index until) i d).1.until
  extended-risen [] index until i d = omega arith
  extended-risen (e ∷ held) zero until zero d = omega arith
  extended-risen (e ∷ held) zero until (suc i) d = omega arith
  extended-risen (e ∷ held) (suc index) until zero d = omega arith
  extended-risen (e ∷ held) (suc index) until (suc i) d = extended-risen held index until i d

  written-risen : (held : List (KeyShape × Timed V)) (index : ℕ) (value : V) (i : ℕ) (d : KeyShape × Timed V) → (get_or held i d).1.until ≤ (get_or (with_value_at held index value) i d).1.until
  written-risen [] index value i d = omega arith
  written-risen (e ∷ held) zero value zero d = omega arith
  written-risen (e ∷ held) zero value (suc i) d = omega arith
  written-risen (e ∷ held) (suc index) value zero d = omega arith
  written-risen (e ∷ held) (suc index) value (suc i) d = written-risen held index value i d

  pub covered_extended : (held after : List (KeyShape × Timed V)) (queue : List (Reverse (ℕ × ℕ))) (index until : ℕ) → after ≡ extended_at held index until → IsCovered held queue → IsCovered after queue
  covered_extended held after queue index until is covered =
      subst (λ (es : List (KeyShape × Timed V)). IsCovered es queue) (sym is)
      (covered_risen held (extended_at held index until) queue (length-extended_at held index until) (extended-risen held index until) covered)

  pub covered_written : (held : List (KeyShape × Timed V)) (queue : List (Reverse (ℕ × ℕ))) (index : ℕ) (value : V) (timed : Timed V) → slice_get (map (λ e. e.1) held) index ≡ Some timed → IsCovered held queue →
      IsCovered (set_value_at held index (with_value timed value)) queue
  covered_written held queue index value timed there covered =
      subst (λ (es : List (KeyShape × Timed V)). IsCovered es queue) (sym (written_is held index value timed there))
      (covered_risen held (with_value_at held index value) queue (length-with_value_at held index value) (written-risen held index value) covered)

  -- what a map shows after a value was written at an index
  pub written_shown : (held : List (KeyShape × Timed V)) (index : ℕ) (value : V) (timed : Timed V) (reserved : List KeyShape) → slice_get (map (λ e. e.1) held) index ≡ Some timed →
      shown (set_value_at held index (with_value timed value)) reserved ≡ shown (with_value_at held index value) reserved
  written_shown held index value timed reserved there = ap (λ (es : List (KeyShape × Timed V)). shown es reserved) (written_is held index value timed there)

  -- the value at an index
  pub value_there : (held : List (KeyShape × Timed V)) (index : ℕ) (timed : Timed V) (value : V) → slice_get (map (λ e. e.1) held) index ≡ Some timed → value ≡ timed.value → option_map (λ e. e.1.value) (slice_get held index) ≡ Some value
  value_there [] index timed value there is = absurd (let h = there in cc)
  value_there (e ∷ held) zero timed value there is =
      let same : e.1 ≡ timed = (let h = there in cc) in
      ap (λ (t : Timed V). Some t.value) same ∙ ap (λ (v : V). Some v) (sym is)
  value_there (e ∷ held) (suc index) timed value there is = value_there held index timed value there is

  -- ---- a key that goes out

  -- the entry that leaves first
  pub expires_at : (moment seconds index : ℕ) (held rest : List (KeyShape × Timed V)) (e : KeyShape × Timed V) → seconds ≡ moment → index < length held → slice_get held index ≡ Some e → IsEarliest seconds index held →
      Removes e.0 e.1 held rest → Expires moment e.0 e.1.value held rest
  expires_at moment seconds index held rest e is within there earliest removes =
      let at : get_or held index e ≡ e = get_or_from_slice_get held index e e there in record {
        until = e.1.until;
        past = (let low : e.1.until ≤ seconds = subst (λ (x : KeyShape × Timed V). x.1.until ≤ seconds) at (earliest index e within).1 in omega (arith, low, is));
        earliest = λ i d low. (let here : get_or held index d ≡ e = get_or_from_slice_get held index e d there in
            subst (λ (x : KeyShape × Timed V). x.1.until ≤ (get_or held i d).1.until) here (earliest i d low).0);
        removed = removes;
      }

  -- the entry at the index of a key is the key's
  pub own_entry : (key : KeyShape) (held : List (KeyShape × Timed V)) (index : ℕ) (e : KeyShape × Timed V) → Some index ≡ position (same_key key) (keys_of held) → index < length held → slice_get held index ≡ Some e → e.0 ≡ key
  own_entry key held index e found within there =
      let at : get_or held index e ≡ e = get_or_from_slice_get held index e e there in
      let passes : same_key key (get_or (keys_of held) index key) ≡ true = (position-Some (same_key key) (keys_of held) index key (sym found)).1 in
      let owner : get_or (keys_of held) index key ≡ e.0 = get_or-map (λ (x : KeyShape × Timed V). x.0) held index e key within ∙ ap (λ (x : KeyShape × Timed V). x.0) at in
      sym ((same_key-Decides key e.0).0 (sym (ap (same_key key) owner) ∙ passes))

  -- the key that went
  pub removes_own : (key owner : KeyShape) (timed : Timed V) (old new : List (KeyShape × Timed V)) → owner ≡ key → Removes owner timed old new → Removes key timed old new
  removes_own key owner timed old new is removes = subst (λ (k : KeyShape). Removes k timed old new) is removes
