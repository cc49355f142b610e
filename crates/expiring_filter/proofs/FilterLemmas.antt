-- What a filter shows of what it keeps.
use Rattle.std.proofs.Common.{◌≡◌, ◌⊎◌, ℕ, zero, suc, ◌+◌, ◌*◌, ◌/◌, ◌^◌, ◌<◌, ◌≤◌, ◌==◌, Bool, true, false, List, [], ◌∷◌, ◌++◌, length, map, get_or, All, Option, Some, None, position, is_some, replicate, nat_lt, max, refl, sym, ap, ◌∙◌, subst, arith, inl, inr, ◌-◌, ◌%◌, lit<, pow-add, length-append}
use Rattle.std.proofs.Math.Nat.{pow-le-pow_right, mod-eq_of_lt, one-mul}
use Rattle.std.specs.List.{range_with_len, position_or_len}
use Rattle.std.specs.List.Sorted.{IsPermutation}
use Rattle.std.specs.Map.{lookup, keys_of}
use Rattle.std.proofs.lemmas.Bool.{cases_Bool, cases_lt}
use Rattle.std.proofs.lemmas.List.{ext_get_or, length-map, get_or-map, get_or_past, length-replicate, get_or-replicate, append_assoc}
use Rattle.std.proofs.lemmas.List.Elements.{All-append, All-map}
use Rattle.std.proofs.lemmas.List.FromFn.{length-map-range_with_len, get_or-map-range_with_len}
use Rattle.std.proofs.lemmas.List.Sorted.{IsPermutation-refl, IsPermutation-map, IsPermutation-trans, IsPermutation-append_right, length_permutation, sum_by_popped}
use Rattle.std.proofs.lemmas.List.Sums.{count_by-le-length, sum_by-append, sum_by-cons}
use Rattle.q_base.specs.Positions.{positions_of}
use Rattle.query_normal.specs.declared.key.KeyShape.{KeyShape}
use Rattle.query_normal.specs.Keys.{same_key}
use Rattle.query_normal.specs.SameKey.{same_key-Decides}
use Rattle.query_normal.specs.Pages.{positions}
use Rattle.query_normal.specs.Bits.{flat_bits}
use Rattle.query_normal.proofs.BitLemmas.{flat_bits-zeros}
use Rattle.expiring_map.specs.declared.timed.Timed.{Timed}
use Rattle.expiring_map.specs.Entries.{seconds_of, extended_at, Removes as MapRemoves, Expires as MapExpires}
use Rattle.expiring_filter.specs.Filter.{Removes}
use Rattle.expiring_filter.specs.Counts.{times, IsFlat}
use Rattle.expiring_filter.specs.Held.{count_among, IsCounted, LosesPast, is_among, put_until}

-- what a filter keeps of its keys, and what it shows of them
abbrev pub Entries : Type 0
Entries = List (KeyShape × Timed (Unit {0}))

abbrev pub Held : Type 0
Held = List (KeyShape × ℕ)

-- no bit is set where no counter is above 0
flat_first : (n size : ℕ) → 8 * n ≡ size → IsFlat (replicate size 0) (replicate n 0)
flat_first n size whole =
    let counters = length-replicate {A = ℕ} size 0 in
    let tests = length-map (replicate size 0) (λ m. nat_lt 0 m) in
    flat_bits-zeros n
    ∙ ap (λ m. replicate m false) whole
    ∙ ext_get_or false (replicate size false) (map (λ m. nat_lt 0 m) (replicate size 0))
    (length-replicate size false ∙ sym (tests ∙ counters))
    (λ j low.
    let size_is = length-replicate {A = Bool} size false in
    let within : j < size = omega (arith, low, size_is) in
    get_or-replicate size j false false within
    ∙ ap (λ m. nat_lt 0 m) (sym (get_or-replicate size j 0 0 within))
    ∙ sym (get_or-map (λ m. nat_lt 0 m) (replicate size 0) j 0 false (omega (arith, counters, within))))

-- 2 ^ log2_bits bits are whole bytes
pub eights : (log2_bits : ℕ) → 3 ≤ log2_bits → 8 * (2 ^ log2_bits / 8) ≡ 2 ^ log2_bits
eights log2_bits least =
    let split : 3 + (log2_bits - 3) ≡ log2_bits = omega arith in
    let power : 2 ^ (3 + (log2_bits - 3)) ≡ 2 ^ 3 * 2 ^ (log2_bits - 3) = pow-add 2 3 (log2_bits - 3) in
    let whole : 2 ^ log2_bits ≡ 8 * 2 ^ (log2_bits - 3) = ap (λ n. 2 ^ n) (sym split) ∙ power in
    omega (arith, whole)

-- `1 << log2_bits`
pub size_shifted : (log2_bits : ℕ) → log2_bits ≤ 22 → 1 * 2 ^ log2_bits % 2 ^ 64 ≡ 2 ^ log2_bits
size_shifted log2_bits most =
    let le : 2 ^ log2_bits ≤ 2 ^ 22 = pow-le-pow_right (lit< tt) most in
    mod-eq_of_lt (let e : 1 * 2 ^ log2_bits < 2 ^ 64 = omega arith in e) ∙ one-mul (2 ^ log2_bits)

-- ---- the entries, with their seconds alone

-- a key is held where it is found
pub found_among : (entries : Entries) (key : KeyShape) → is_some (lookup (same_key key) entries) ≡ is_among (seconds_of entries) key
found_among [] key = refl
found_among (e ∷ entries) key =
    elim (cases_Bool (same_key key e.0)) [
      | inl hit ↦ rw hit refl
      | inr other ↦ rw other (found_among entries key)
    ]

pub keys_shown : (entries : Entries) → map (λ e. e.0) (seconds_of entries) ≡ keys_of entries
keys_shown [] = refl
keys_shown (e ∷ entries) = ap (λ (ks : List KeyShape). e.0 ∷ ks) (keys_shown entries)

-- a new key is last
pub seconds_put : (entries after : Entries) (key : KeyShape) (until : ℕ) (value : Unit {0}) → lookup (same_key key) entries ≡ None → after ≡ entries ++ (key, record { until = until; value = value }) ∷ [] →
    seconds_of after ≡ put_until (seconds_of entries) key until
seconds_put entries after key until value absent is = ap (λ (es : Entries). seconds_of es) is ∙ last entries absent
  where
    last : (es : Entries) → lookup (same_key key) es ≡ None → seconds_of (es ++ (key, record { until = until; value = value }) ∷ []) ≡ put_until (seconds_of es) key until
    last [] none = refl
    last (e ∷ es) none =
        elim (cases_Bool (same_key key e.0)) [
          | inl hit ↦ absurd (let first : Some e.1 ≡ None = rw hit at none in cc)
          | inr other ↦ rw other (ap (λ (xs : Held). (e.0, e.1.until) ∷ xs) (last es (rw other at none)))
        ]

put_last : (held : Held) (key : KeyShape) (until : ℕ) → is_among held key ≡ false → put_until held key until ≡ held ++ (key, until) ∷ []
put_last [] key until absent = refl
put_last (e ∷ held) key until absent =
    elim (cases_Bool (same_key key e.0)) [
      | inl hit ↦ absurd (let wrong : true ≡ false = rw hit at absent in cc)
      | inr other ↦ rw other (ap (λ (xs : Held). e ∷ xs) (put_last held key until (rw other at absent)))
    ]

-- a held key keeps the greater second
pub seconds_extended : (entries : Entries) (key : KeyShape) (index until : ℕ) → index ≡ position_or_len (same_key key) (keys_of entries) → index < length entries → seconds_of (extended_at entries index until) ≡ put_until (seconds_of entries) key until
seconds_extended [] key index until at within = absurd (omega (arith, within))
seconds_extended (e ∷ entries) key index until at within =
    elim (cases_Bool (same_key key e.0)) [
      | inl hit ↦ (
          let first : index ≡ 0 = rw hit at at in
          ap (λ (i : ℕ). seconds_of (extended_at (e ∷ entries) i until)) first ∙ rw hit refl)
      | inr other ↦ (
          let rest = position_or_len (same_key key) (keys_of entries) in
          let behind : index ≡ 1 + rest = rw other at at in
          let next : index ≡ suc rest = omega (arith, behind) in
          ap (λ (i : ℕ). seconds_of (extended_at (e ∷ entries) i until)) next
          ∙ ap (λ (xs : Held). (e.0, e.1.until) ∷ xs) (seconds_extended entries key rest until refl (omega (arith, next, within)))
          ∙ rw other refl)
    ]

-- the index that a look-up finds
pub index_found : (key : KeyShape) (keys : List KeyShape) (index : ℕ) → Some index ≡ position (same_key key) keys → index ≡ position_or_len (same_key key) keys
index_found key keys index found =
    elim (cases_Bool (nat_lt (position_or_len (same_key key) keys) (length keys))) [
      | inl within ↦ (let own : Some index ≡ Some (position_or_len (same_key key) keys) = rw within at found in cc)
      | inr past ↦ absurd (let none : Some index ≡ None = rw past at found in cc)
    ]

-- a key that is not found is no one's
others_of : (key : KeyShape) (entries : Entries) → lookup (same_key key) entries ≡ None → All (λ (x : KeyShape × ℕ). same_key key x.0 ≡ false) (seconds_of entries)
others_of key [] absent k d low = absurd (omega (arith, low))
others_of key (e ∷ entries) absent zero d low =
    elim (cases_Bool (same_key key e.0)) [
      | inl hit ↦ absurd (let first : Some e.1 ≡ None = rw hit at absent in cc)
      | inr other ↦ other
    ]
others_of key (e ∷ entries) absent (suc k) d low =
    elim (cases_Bool (same_key key e.0)) [
      | inl hit ↦ absurd (let first : Some e.1 ≡ None = rw hit at absent in cc)
      | inr other ↦ others_of key entries (rw other at absent) k d (omega (arith, low))
    ]

-- the removed entry, with its second alone
pub parted : (key : KeyShape) (timed : Timed (Unit {0})) (entries rest : Entries) → MapRemoves key timed entries rest → IsPermutation (seconds_of entries) ((key, timed.until) ∷ seconds_of rest)
parted key timed entries rest removes = IsPermutation-map (λ (e : KeyShape × Timed (Unit {0})). (e.0, e.1.until)) entries ((key, timed) ∷ rest) removes.parted

pub removed : (key : KeyShape) (timed : Timed (Unit {0})) (entries rest : Entries) → MapRemoves key timed entries rest → Removes key (seconds_of entries) (seconds_of rest)
removed key timed entries rest removes = record { gone = (key, timed.until) ∷ []; parted = parted key timed entries rest removes; same = one; others = others_of key rest removes.absent }
  where
    one : All (λ (x : KeyShape × ℕ). same_key key x.0 ≡ true) ((key, timed.until) ∷ [])
    one zero d low = (same_key-Decides key key).1 refl
    one (suc k) d low = absurd (omega (arith, low))

-- nothing is removed where the key is not found
pub removed_none : (key : KeyShape) (entries after : Entries) → after ≡ entries → lookup (same_key key) entries ≡ None → Removes key (seconds_of entries) (seconds_of after)
removed_none key entries after same absent = subst (λ (es : Entries). Removes key (seconds_of entries) (seconds_of es)) (sym same) (record { gone = []; parted = IsPermutation-refl (seconds_of entries); same = λ k d low. absurd (omega (arith, low)); others = others_of key entries absent })

-- ---- keys that expired

pub lost_none : (moment : ℕ) (held : Held) → LosesPast moment held held
lost_none moment held = record { gone = []; parted = IsPermutation-refl held; past = λ k d low. absurd (omega (arith, low)) }

-- one more
pub lost_more : (moment : ℕ) (first : Held) (key : KeyShape) (value : Unit {0}) (entries rest : Entries) → LosesPast moment first (seconds_of entries) → MapExpires moment key value entries rest → LosesPast moment first (seconds_of rest)
lost_more moment first key value entries rest lost expires =
    let one = parted key (record { until = expires.until; value = value }) entries rest expires.removed in
    record {
      gone = lost.gone ++ (key, expires.until) ∷ [];
      parted =
          subst (λ (xs : Held). IsPermutation first xs) (sym (append_assoc lost.gone ((key, expires.until) ∷ []) (seconds_of rest)))
          (IsPermutation-trans first (lost.gone ++ seconds_of entries) (lost.gone ++ ((key, expires.until) ∷ seconds_of rest)) lost.parted
          (IsPermutation-append_right lost.gone (seconds_of entries) ((key, expires.until) ∷ seconds_of rest) one));
      past = All-append (λ (x : KeyShape × ℕ). x.1 ≤ moment) lost.gone ((key, expires.until) ∷ []) lost.past (single key expires.until moment expires.past);
    }
  where
    single : (key : KeyShape) (until moment : ℕ) → until ≤ moment → All (λ (x : KeyShape × ℕ). x.1 ≤ moment) ((key, until) ∷ [])
    single key until moment past zero d low = past
    single key until moment past (suc k) d low = absurd (omega (arith, low))

-- each step leaves fewer
pub fewer : (moment : ℕ) (key : KeyShape) (value : Unit {0}) (entries rest : Entries) → MapExpires moment key value entries rest → length rest < length entries
fewer moment key value entries rest expires =
    let size = length_permutation entries ((key, record { until = expires.until; value = value }) ∷ rest) expires.removed.parted in
    omega (arith, size)

-- nothing is found where a look-up says so
pub none_found : {X : Type 0} (o : Option X) → false ≡ is_some o → o ≡ None
none_found None h = refl
none_found (Some n) h = absurd (let e = h in cc)

pub all_shown : (moment : ℕ) (entries : Entries) → All (λ (e : KeyShape × Timed (Unit {0})). moment < e.1.until) entries → All (λ (x : KeyShape × ℕ). moment < x.1) (seconds_of entries)
all_shown moment entries all = All-map (λ (x : KeyShape × ℕ). moment < x.1) (λ (e : KeyShape × Timed (Unit {0})). (e.0, e.1.until)) entries all

-- ---- the counts

-- Counts of that many bits and hashes.
module _ (log2_bits hashes : ℕ) where
  -- a key has a position for each hash
  length_positions : (key : KeyShape) → length (positions key log2_bits hashes) ≡ hashes
  unfolding positions_of
  length_positions key = length-map-range_with_len _ 0 hashes

  -- no counter passes what the held keys can count
  counts_small : (held : Held) (j : ℕ) → hashes ≤ 16 → count_among log2_bits hashes held j ≤ 16 * length held
  counts_small [] j few = omega arith
  counts_small (e ∷ held) j few =
      let one = sum_by-cons (λ (x : KeyShape × ℕ). times j (positions x.0 log2_bits hashes)) e held in
      let rest = counts_small held j few in
      let own = count_by-le-length (λ (p : ℕ). p == j) (positions e.0 log2_bits hashes) in
      let size = length_positions e.0 in
      omega (arith, one, rest, own, size, few)

  count-extended : (entries : Entries) (index until j : ℕ) → count_among log2_bits hashes (seconds_of (extended_at entries index until)) j ≡ count_among log2_bits hashes (seconds_of entries) j
  count-extended [] index until j = refl
  count-extended (e ∷ entries) zero until j =
      let one = sum_by-cons (λ (x : KeyShape × ℕ). times j (positions x.0 log2_bits hashes)) (e.0, e.1.until) (seconds_of entries) in
      let two = sum_by-cons (λ (x : KeyShape × ℕ). times j (positions x.0 log2_bits hashes)) (e.0, max e.1.until until) (seconds_of entries) in
      omega (arith, one, two)
  count-extended (e ∷ entries) (suc index) until j =
      let one = sum_by-cons (λ (x : KeyShape × ℕ). times j (positions x.0 log2_bits hashes)) (e.0, e.1.until) (seconds_of entries) in
      let two = sum_by-cons (λ (x : KeyShape × ℕ). times j (positions x.0 log2_bits hashes)) (e.0, e.1.until) (seconds_of (extended_at entries index until)) in
      let rest = count-extended entries index until j in
      omega (arith, one, two, rest)

  -- nothing is held at first
  pub counted_first : (entries : Entries) (counters bytes : List ℕ) → log2_bits ≤ 22 → hashes ≤ 16 → entries ≡ [] →
      counters ≡ replicate (2 ^ log2_bits) 0 → bytes ≡ replicate (2 ^ log2_bits / 8) 0 → 8 * (2 ^ log2_bits / 8) ≡ 2 ^ log2_bits → IsCounted log2_bits hashes (seconds_of entries) counters bytes
  counted_first entries counters bytes most few none zeros clear whole =
      let size = length-replicate {A = ℕ} (2 ^ log2_bits) 0 in
      let counted : IsCounted log2_bits hashes [] (replicate (2 ^ log2_bits) 0) (replicate (2 ^ log2_bits / 8) 0) = record {
        most_bits = most;
        few_hashes = few;
        few = omega arith;
        sized = size;
        counted = λ j low. get_or-replicate (2 ^ log2_bits) j 0 0 (omega (arith, low, size));
        flat = flat_first (2 ^ log2_bits / 8) (2 ^ log2_bits) whole;
      } in
      subst (λ (es : Entries). IsCounted log2_bits hashes (seconds_of es) counters bytes) (sym none)
      (subst (λ (xs : List ℕ). IsCounted log2_bits hashes [] xs bytes) (sym zeros)
      (subst (λ (xs : List ℕ). IsCounted log2_bits hashes [] (replicate (2 ^ log2_bits) 0) xs) (sym clear) counted))

-- what the counters were made for stays
abbrev pub SameFilter : ℕ → ℕ → ℕ → ℕ → Type 0
SameFilter log2_bits hashes log2_after hashes_after = (log2_after ≡ log2_bits) × (hashes_after ≡ hashes)

same_counted : (log2_bits hashes log2_after hashes_after : ℕ) (held : Held) (counters bytes : List ℕ) → SameFilter log2_bits hashes log2_after hashes_after → IsCounted log2_bits hashes held counters bytes → IsCounted log2_after hashes_after held counters bytes
same_counted log2_bits hashes log2_after hashes_after held counters bytes same counted =
    subst (λ (n : ℕ). IsCounted n hashes_after held counters bytes) (sym same.0) (subst (λ (n : ℕ). IsCounted log2_bits n held counters bytes) (sym same.1) counted)

-- The counts of the held keys.
module _ {log2_bits hashes : ℕ} {held : Held} {counters bytes : List ℕ} (c : IsCounted log2_bits hashes held counters bytes) where
  -- the bits are those of the counts
  pub bits_counted : flat_bits bytes ≡ map (λ j. nat_lt 0 (count_among log2_bits hashes held j)) (range_with_len 0 (2 ^ log2_bits))
  bits_counted =
      let long = length-map counters (λ n. nat_lt 0 n) in
      let size = length-map-range_with_len (λ j. nat_lt 0 (count_among log2_bits hashes held j)) 0 (2 ^ log2_bits) in
      c.flat
      ∙ ext_get_or false (map (λ n. nat_lt 0 n) counters) (map (λ j. nat_lt 0 (count_among log2_bits hashes held j)) (range_with_len 0 (2 ^ log2_bits)))
      (long ∙ c.sized ∙ sym size)
      (λ j low.
      let within : j < length counters = omega (arith, long, low) in
      get_or-map (λ n. nat_lt 0 n) counters j 0 false within
      ∙ ap (λ n. nat_lt 0 n) (c.counted j within)
      ∙ sym (get_or-map-range_with_len (λ i. nat_lt 0 (count_among log2_bits hashes held i)) 0 (2 ^ log2_bits) j j false (let s = c.sized in omega (arith, within, s)) (omega arith)))

  -- the positions of one key more do not overflow a counter
  pub counter_fits : (key : KeyShape) (j : ℕ) → get_or counters j 0 + times j (positions key log2_bits hashes) < 2 ^ 32
  counter_fits key j =
      let own = count_by-le-length (λ (p : ℕ). p == j) (positions key log2_bits hashes) in
      let size = length_positions log2_bits hashes key in
      elim (cases_lt j (length counters)) [
        | inl within ↦ (
            let all = counts_small log2_bits hashes held j c.few_hashes in
            let counted = c.counted j within in
            omega (arith, all, counted, own, size, c.few, c.few_hashes))
        | inr past ↦ (
            let none = get_or_past counters j 0 past in
            omega (arith, none, own, size, c.few_hashes))
      ]

  -- and of those that are left without one
  module _ (key : KeyShape) (until : ℕ) (rest : Held) (perm : IsPermutation held ((key, until) ∷ rest)) where
    -- the counts of the removed key are among the counts
    pub enough : (j : ℕ) → j < length counters → times j (positions key log2_bits hashes) ≤ get_or counters j 0
    enough j low =
        let sum = sum_by_popped (λ (x : KeyShape × ℕ). times j (positions x.0 log2_bits hashes)) (key, until) held rest perm in
        let counted = c.counted j low in
        omega (arith, sum, counted)

    -- the counts without a key
    pub counted_without : {log2_after hashes_after : ℕ} (after bits : List ℕ) → SameFilter log2_bits hashes log2_after hashes_after → length after ≡ length counters →
        ((j : ℕ) → j < length counters → get_or after j 0 + times j (positions key log2_bits hashes) ≡ get_or counters j 0) → IsFlat after bits → IsCounted log2_after hashes_after rest after bits
    counted_without {log2_after} {hashes_after} after bits same_filter same lowered flat =
        let fewer = length_permutation held ((key, until) ∷ rest) perm in
        same_counted log2_bits hashes log2_after hashes_after rest after bits same_filter (record {
          most_bits = c.most_bits;
          few_hashes = c.few_hashes;
          few = omega (arith, fewer, c.few);
          sized = same ∙ c.sized;
          counted = λ j low.
              let inside : j < length counters = omega (arith, same, low) in
              let sum = sum_by_popped (λ (x : KeyShape × ℕ). times j (positions x.0 log2_bits hashes)) (key, until) held rest perm in
              let was = c.counted j inside in
              let now = lowered j inside in
              omega (arith, sum, was, now);
          flat = flat;
        })

-- the counts with one key more
pub counted_with : (log2_bits hashes log2_after hashes_after : ℕ) (entries after_entries : Entries) (key : KeyShape) (until : ℕ) (counters after bytes bits : List ℕ) → SameFilter log2_bits hashes log2_after hashes_after →
    seconds_of after_entries ≡ put_until (seconds_of entries) key until → lookup (same_key key) entries ≡ None → length entries < 1000000 → IsCounted log2_bits hashes (seconds_of entries) counters bytes → length after ≡ length counters →
    ((j : ℕ) → j < length counters → get_or after j 0 ≡ get_or counters j 0 + times j (positions key log2_bits hashes)) → IsFlat after bits → IsCounted log2_after hashes_after (seconds_of after_entries) after bits
counted_with log2_bits hashes log2_after hashes_after entries after_entries key until counters after bytes bits same_filter put absent few c same raised flat =
    let held = seconds_of entries in
    let none : is_among held key ≡ false = sym (found_among entries key) ∙ ap is_some absent in
    let more = length-append held ((key, until) ∷ []) in
    let size = length-map {B = KeyShape × ℕ} entries (λ (e : KeyShape × Timed (Unit {0})). (e.0, e.1.until)) in
    subst (λ (xs : Held). IsCounted log2_after hashes_after xs after bits) (sym (put ∙ put_last held key until none))
    (same_counted log2_bits hashes log2_after hashes_after (held ++ (key, until) ∷ []) after bits same_filter (record {
      most_bits = c.most_bits;
      few_hashes = c.few_hashes;
      few = omega (arith, more, size, few);
      sized = same ∙ c.sized;
      counted = λ j low.
          let inside : j < length counters = omega (arith, same, low) in
          let was = c.counted j inside in
          let now = raised j inside in
          let sum = sum_by-append (λ (x : KeyShape × ℕ). times j (positions x.0 log2_bits hashes)) held ((key, until) ∷ []) in
          omega (arith, was, now, sum);
      flat = flat;
    }))

length-extended : (entries : Entries) (index until : ℕ) → length (seconds_of (extended_at entries index until)) ≡ length (seconds_of entries)
length-extended [] index until = refl
length-extended (e ∷ entries) zero until = refl
length-extended (e ∷ entries) (suc index) until = ap suc (length-extended entries index until)

-- the counts where a second rose
pub counted_extended : (log2_bits hashes : ℕ) (entries after : Entries) (index until : ℕ) (counters bytes : List ℕ) → after ≡ extended_at entries index until → IsCounted log2_bits hashes (seconds_of entries) counters bytes →
    IsCounted log2_bits hashes (seconds_of after) counters bytes
counted_extended log2_bits hashes entries after index until counters bytes is c =
    subst (λ (es : Entries). IsCounted log2_bits hashes (seconds_of es) counters bytes) (sym is) (record {
      most_bits = c.most_bits;
      few_hashes = c.few_hashes;
      few = (let long = length-extended entries index until in omega (arith, long, c.few));
      sized = c.sized;
      counted = λ j low. c.counted j low ∙ sym (count-extended log2_bits hashes entries index until j);
      flat = c.flat;
    })

-- one more key that is not held is within the limit
pub few_without : (entries : Entries) (key : KeyShape) → (is_among (seconds_of entries) key ≡ true) ⊎ (length (seconds_of entries) < 1000000) → lookup (same_key key) entries ≡ None → length entries < 1000000
few_without entries key few absent =
    let size = length-map {B = KeyShape × ℕ} entries (λ (e : KeyShape × Timed (Unit {0})). (e.0, e.1.until)) in
    elim few [
      | inl among ↦ absurd (let wrong : true ≡ false = sym among ∙ sym (found_among entries key) ∙ ap is_some absent in cc)
      | inr space ↦ omega (arith, size, space)
    ]
