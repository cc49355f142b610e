-- The keys of outdated copies, each with the second until which these may be kept.
use Rattle.std.proofs.Common.{◌≡◌, ℕ, suc, ◌+◌, ◌*◌, ◌^◌, ◌<◌, ◌≤◌, ◌==◌, Bool, true, false, ◌||◌, ◌⊎◌, max, nat_lt, List, [], ◌∷◌, ◌++◌, length, map, filter, All, sum_by, count_by, if◌then◌else◌, refl, sym, ap, ap₂, ◌∙◌, subst, arith, inl, inr}
use Rattle.std.specs.List.{list_any, range_with_len, AllByRecursion, IsDistinct}
use Rattle.std.proofs.lemmas.Bool.{cases_Bool, lt-ltb, le-ltb}
use Rattle.std.proofs.lemmas.List.{map-append}
use Rattle.std.proofs.lemmas.List.Sums.{sum_by-cons}
use Rattle.std.proofs.lemmas.List.FromFn.{length-map-range_with_len}
use Rattle.std.proofs.lemmas.List.Sorted.{IsPermutation-map}
use Rattle.std.proofs.lemmas.Map.Keys.{IsDistinct-IsPermutation, IsDistinct-tail}
use Rattle.query_normal.specs.Bits.{flat_bits}
use Rattle.query_normal.specs.Keys.{same_key}
use Rattle.query_normal.specs.Pages.{positions}
use Rattle.query_normal.specs.SameKey.{same_key-Decides}
use Rattle.query_normal.specs.declared.key.KeyShape.{KeyShape}
use Rattle.query_normal.proofs.BitLemmas.{length-flat_bits}
use Rattle.expiring_filter.specs.Held.{Expires, put_until, is_among, count_among as held_count}
use Rattle.expiring_filter.specs.Filter.{Filter, bits_of as filter_bits}
use Rattle.hub_model.specs.Record.{bits_of}
use Rattle.hub_model.proofs.KeySets.{same_key-flips}
use Rattle.hub_core.specs.CopiesView.{while_later, until_in}
use Rattle.hub_core.proofs.GreatestLemmas.{best, best-cons, best-append, best-le, best-permuted, any-best}

-- a second of some that are later than the clock is later, or there is none
above_or_none : {X : Type 0} (u : X → ℕ) (p : X → Bool) (c : ℕ) (xs : List X) → All (λ x. c < u x) xs → (best u p xs ≡ 0) ⊎ (c < best u p xs)
above_or_none u p c [] all = inl refl
above_or_none u p c (x ∷ xs) all =
    let rest = above_or_none u p c xs (λ k d low. all (suc k) d (omega (arith, low))) in
    let own = all 0 x (omega arith) in
    let more = best-cons u p x xs in
    elim (cases_Bool (p x)) [
      | inl hit ↦ (
          let is : best u p (x ∷ xs) ≡ max (u x) (best u p xs) = more ∙ ap (λ (b : Bool). max (if b then u x else 0) (best u p xs)) hit in
          inr (omega (arith, is, own)))
      | inr miss ↦ (
          let is : best u p (x ∷ xs) ≡ max 0 (best u p xs) = more ∙ ap (λ (b : Bool). max (if b then u x else 0) (best u p xs)) miss in
          elim rest [ inl none ↦ inl (omega (arith, is, none)) | inr later ↦ inr (omega (arith, is, later)) ])
    ]

-- nothing is left out of those that are later than the clock
pub until-reached : (clock : ℕ) (held : List (KeyShape × ℕ)) → All (λ e. clock < e.1) held → (key : KeyShape) → until_in held key ≡ while_later clock (until_in held key)
until-reached clock held later key =
    elim (above_or_none (λ (e : KeyShape × ℕ). e.1) (λ (e : KeyShape × ℕ). same_key key e.0) clock held later) [
      | inl none ↦ sym (ap (while_later clock) none ∙ ap (λ (b : Bool). if b then 0 else 0) (le-ltb clock 0 (omega arith)) ∙ sym none)
      | inr late ↦ sym (ap (λ (b : Bool). if b then until_in held key else 0) (lt-ltb clock (until_in held key) late))
    ]

-- what is left of the invalidations of a key when some expire
pub until-expired : (clock : ℕ) (old new : List (KeyShape × ℕ)) → Expires clock old new → (key : KeyShape) → until_in new key ≡ while_later clock (until_in old key)
until-expired clock old new expires key =
    let u : KeyShape × ℕ → ℕ = λ e. e.1 in
    let p : KeyShape × ℕ → Bool = λ e. same_key key e.0 in
    let gone = expires.lost.gone in
    let whole = best-permuted u p old (gone ++ new) expires.lost.parted in
    let parts = best-append u p gone new in
    let past = best-le u p clock gone (λ k d low hit. expires.lost.past k d low) in
    elim (above_or_none u p clock new expires.later) [
      | inl none ↦ (
          let old_past : best u p old ≤ clock = omega (arith, whole, parts, past, none) in
          none ∙ sym (ap (λ (b : Bool). if b then best u p old else 0) (le-ltb clock (best u p old) old_past)))
      | inr later ↦ (
          let same : best u p new ≡ best u p old = omega (arith, whole, parts, past, later) in
          let old_later : clock < best u p old = omega (arith, same, later) in
          same ∙ sym (ap (λ (b : Bool). if b then best u p old else 0) (lt-ltb clock (best u p old) old_later)))
    ]

-- the keys that are left differ
distinct-behind : (gone new : List KeyShape) → IsDistinct same_key (gone ++ new) → IsDistinct same_key new
distinct-behind [] new d = d
distinct-behind (k ∷ gone) new d = distinct-behind gone new (IsDistinct-tail same_key k (gone ++ new) d)

pub once-expired : (clock : ℕ) (old new : List (KeyShape × ℕ)) → Expires clock old new → IsDistinct same_key (map (λ e. e.0) old) → IsDistinct same_key (map (λ e. e.0) new)
once-expired clock old new expires once =
    let gone = expires.lost.gone in
    let moved = IsDistinct-IsPermutation same_key same_key-flips (map (λ (e : KeyShape × ℕ). e.0) old) (map (λ (e : KeyShape × ℕ). e.0) (gone ++ new)) (IsPermutation-map (λ (e : KeyShape × ℕ). e.0) old (gone ++ new) expires.lost.parted) once in
    distinct-behind (map (λ (e : KeyShape × ℕ). e.0) gone) (map (λ (e : KeyShape × ℕ). e.0) new) (subst (λ (ks : List KeyShape). IsDistinct same_key ks) (map-append (λ (e : KeyShape × ℕ). e.0) gone new) moved)

-- a key that is invalidated
pub until-put : (held : List (KeyShape × ℕ)) (key : KeyShape) (until : ℕ) (other : KeyShape) → until_in (put_until held key until) other ≡ max (until_in held other) (if same_key other key then until else 0)
until-put [] key until other =
    let one = best-cons (λ (e : KeyShape × ℕ). e.1) (λ (e : KeyShape × ℕ). same_key other e.0) (key, until) [] in
    one ∙ (let h : max (if same_key other key then until else 0) 0 ≡ max 0 (if same_key other key then until else 0) = omega arith in h)
until-put (e ∷ held) key until other =
    let u : KeyShape × ℕ → ℕ = λ x. x.1 in
    let p : KeyShape × ℕ → Bool = λ x. same_key other x.0 in
    let first = best-cons u p e held in
    elim (cases_Bool (same_key key e.0)) [
      | inl hit ↦ (
          let same : key ≡ e.0 = (same_key-Decides key e.0).0 hit in
          let raised = best-cons u p (e.0, max e.1 until) held in
          rw hit
          (raised
          ∙ by (same_key other e.0) e.1 until (best u p held)
          ∙ ap₂ (λ (n : ℕ) (k : KeyShape). max n (if same_key other k then until else 0)) (sym first) (sym same)))
      | inr miss ↦ (
          let rest = until-put held key until other in
          let kept = best-cons u p e (put_until held key until) in
          rw miss
          (kept
          ∙ ap (λ (n : ℕ). max (if same_key other e.0 then e.1 else 0) n) rest
          ∙ (let h : max (if same_key other e.0 then e.1 else 0) (max (best u p held) (if same_key other key then until else 0)) ≡ max (max (if same_key other e.0 then e.1 else 0) (best u p held)) (if same_key other key then until else 0) = omega arith in h)
          ∙ ap (λ (n : ℕ). max n (if same_key other key then until else 0)) (sym first)))
    ]
  where
    by : (b : Bool) (m n r : ℕ) → max (if b then max m n else 0) r ≡ max (max (if b then m else 0) r) (if b then n else 0)
    by true m n r = omega arith
    by false m n r = omega arith

-- the keys still differ
apart-put : (held : List (KeyShape × ℕ)) (key : KeyShape) (until : ℕ) (first : KeyShape) → same_key first key ≡ false → AllByRecursion (λ k. same_key first k ≡ false) (map (λ e. e.0) held) → AllByRecursion (λ k. same_key first k ≡ false) (map (λ e. e.0) (put_until held key until))
apart-put [] key until first other apart = (other, tt)
apart-put (e ∷ held) key until first other apart =
    elim (cases_Bool (same_key key e.0)) [
      | inl hit ↦ rw hit (apart.0, apart.1)
      | inr miss ↦ rw miss (apart.0, apart-put held key until first other apart.1)
    ]

pub once-put : (held : List (KeyShape × ℕ)) (key : KeyShape) (until : ℕ) → IsDistinct same_key (map (λ e. e.0) held) → IsDistinct same_key (map (λ e. e.0) (put_until held key until))
unfolding IsDistinct
once-put [] key until once = (tt, tt)
once-put (e ∷ held) key until once =
    elim (cases_Bool (same_key key e.0)) [
      | inl hit ↦ rw hit (once.0, once.1)
      | inr miss ↦ rw miss (apart-put held key until e.0 (same_key-flips e.0 key ∙ miss) once.0, once-put held key until once.1)
    ]

-- a key is held where its second is later than the clock
pub held-later : (clock : ℕ) (held : List (KeyShape × ℕ)) (key : KeyShape) → All (λ e. clock < e.1) held → is_among held key ≡ nat_lt clock (until_in held key)
held-later clock held key later = any-best (λ (e : KeyShape × ℕ). e.1) (λ (e : KeyShape × ℕ). same_key key e.0) clock held later

-- a test of what a list is made of
pub any-map : {X Y : Type 0} (f : X → Y) (p : Y → Bool) (xs : List X) → list_any p (map f xs) ≡ list_any (λ x. p (f x)) xs
any-map f p [] = refl
any-map f p (x ∷ xs) = ap (λ (b : Bool). p (f x) || b) (any-map f p xs)

sum-of : {X Y : Type 0} (f : X → Y) (n : Y → ℕ) (xs : List X) → sum_by (λ x. n (f x)) xs ≡ sum_by n (map f xs)
sum-of f n [] = refl
sum-of f n (x ∷ xs) = sum_by-cons (λ y. n (f y)) x xs ∙ ap (λ (m : ℕ). n (f x) + m) (sum-of f n xs) ∙ sym (sum_by-cons n (f x) (map f xs))

-- the bits of a filter are those of its keys
pub bits-held : (filter : Filter) → filter_bits filter ≡ bits_of (map (λ e. e.0) filter.held) filter.log2_bits filter.hashes
bits-held filter = ap (λ (count : ℕ → ℕ). map (λ j. nat_lt 0 (count j)) (range_with_len 0 (2 ^ filter.log2_bits)))
    (λ i j. sum-of (λ (e : KeyShape × ℕ). e.0) (λ (key : KeyShape). count_by (λ p. p == j) (positions key filter.log2_bits filter.hashes)) filter.held i)

-- bytes whose bits are those of a filter
pub bytes-held : (filter : Filter) (bytes : List ℕ) → flat_bits bytes ≡ filter_bits filter → 8 * length bytes ≡ 2 ^ filter.log2_bits
bytes-held filter bytes same =
    sym (length-flat_bits bytes) ∙ ap length same ∙ length-map-range_with_len (λ j. nat_lt 0 (held_count filter.log2_bits filter.hashes filter.held j)) 0 (2 ^ filter.log2_bits)
