-- Lists of keys that have the same members.
use Rattle.std.proofs.Common.{◌≡◌, Bool, true, false, cond, ◌&&◌, ◌||◌, List, [], ◌∷◌, ◌++◌, filter, refl, sym, ap, ◌∙◌, subst, inl, inr}
use Rattle.std.specs.List.{list_any, AllByRecursion, IsDistinct}
use Rattle.std.specs.List.Sorted.{IsPermutation}
use Rattle.std.specs.Set.{unique_keys}
use Rattle.std.proofs.lemmas.Bool.{cases_Bool, both_ways, or_parts, or_left}
use Rattle.std.proofs.lemmas.List.Sorted.{IsPermutation-refl, IsPermutation-sym, IsPermutation-trans, IsPermutation-cons, IsPermutation-middle, list_any-IsPermutation}
use Rattle.std.proofs.lemmas.Map.Keys.{IsDistinct-IsPermutation}
use Rattle.std.proofs.lemmas.Map.Made.{is_member-filter}
use Rattle.query_normal.specs.declared.key.KeyShape.{KeyShape}
use Rattle.query_normal.specs.Keys.{same_key}
use Rattle.query_normal.specs.SameKey.{same_key-Decides, same_key_equiv}

-- a key is itself
pub same_key-itself : (key : KeyShape) → same_key key key ≡ true
same_key-itself key = (same_key-Decides key key).1 refl

-- two keys compare the same way in either order
pub same_key-flips : (a b : KeyShape) → same_key a b ≡ same_key b a
same_key-flips a b = same_key_equiv.symm a b

abbrev among : List KeyShape → KeyShape → Bool
among keys key = list_any (same_key key) keys

-- a key that is not among the others is other than each
apart_from_absent : (key : KeyShape) (keys : List KeyShape) → among keys key ≡ false → AllByRecursion (λ k. same_key key k ≡ false) keys
apart_from_absent key [] h = tt
apart_from_absent key (k ∷ ks) h = (let parts = or_parts (same_key key k) (among ks key) h in (parts.0, apart_from_absent key ks parts.1))

absent_from_apart : (key : KeyShape) (keys : List KeyShape) → AllByRecursion (λ k. same_key key k ≡ false) keys → among keys key ≡ false
absent_from_apart key [] h = refl
absent_from_apart key (k ∷ ks) h = (let here = h.0 in let there = absent_from_apart key ks h.1 in cc)

-- ---- each key once

by_tests : (b c : Bool) (key x : KeyShape) (xs : List KeyShape) → among xs x ≡ b → same_key key x ≡ c → among (unique_keys same_key xs) key ≡ among xs key → among (cond b (unique_keys same_key xs) (x ∷ unique_keys same_key xs)) key ≡ (c || among xs key)
by_tests true true key x xs there same r = r ∙ ap (among xs) ((same_key-Decides key x).0 same) ∙ there
by_tests true false key x xs there same r = r
by_tests false c key x xs there same r = (let h : (same_key key x || among (unique_keys same_key xs) key) ≡ (c || among xs key) = cc in h)

-- the members stay
pub among-unique : (xs : List KeyShape) (key : KeyShape) → among (unique_keys same_key xs) key ≡ among xs key
among-unique [] key = refl
among-unique (x ∷ xs) key = by_tests (among xs x) (same_key key x) key x xs refl refl (among-unique xs key)

once_by : (b : Bool) (x : KeyShape) (xs : List KeyShape) → among xs x ≡ b → IsDistinct same_key (unique_keys same_key xs) → IsDistinct same_key (cond b (unique_keys same_key xs) (x ∷ unique_keys same_key xs))
unfolding IsDistinct
once_by true x xs there d = d
once_by false x xs there d = (apart_from_absent x (unique_keys same_key xs) (among-unique xs x ∙ there), d)

-- and none is there twice
pub distinct-unique : (xs : List KeyShape) → IsDistinct same_key (unique_keys same_key xs)
unfolding IsDistinct
distinct-unique [] = tt
distinct-unique (x ∷ xs) = once_by (among xs x) x xs refl (distinct-unique xs)

-- ---- a part of the keys

apart_filter_by : (b : Bool) (test : KeyShape → Bool) (key k : KeyShape) (ks : List KeyShape) → same_key key k ≡ false → AllByRecursion (λ k. same_key key k ≡ false) (filter test ks) → AllByRecursion (λ k. same_key key k ≡ false) (cond b (k ∷ filter test ks) (filter test ks))
apart_filter_by true test key k ks here there = (here, there)
apart_filter_by false test key k ks here there = there

apart_filter : (test : KeyShape → Bool) (key : KeyShape) (ks : List KeyShape) → AllByRecursion (λ k. same_key key k ≡ false) ks → AllByRecursion (λ k. same_key key k ≡ false) (filter test ks)
apart_filter test key [] h = tt
apart_filter test key (k ∷ ks) h = apart_filter_by (test k) test key k ks h.0 (apart_filter test key ks h.1)

distinct_filter_by : (b : Bool) (test : KeyShape → Bool) (k : KeyShape) (ks : List KeyShape) → AllByRecursion (λ x. same_key k x ≡ false) ks → IsDistinct same_key (filter test ks) → IsDistinct same_key (cond b (k ∷ filter test ks) (filter test ks))
unfolding IsDistinct
distinct_filter_by true test k ks here there = (apart_filter test k ks here, there)
distinct_filter_by false test k ks here there = there

-- a part of distinct keys is distinct too
pub distinct-filter : (test : KeyShape → Bool) (ks : List KeyShape) → IsDistinct same_key ks → IsDistinct same_key (filter test ks)
unfolding IsDistinct
distinct-filter test [] d = tt
distinct-filter test (k ∷ ks) d = distinct_filter_by (test k) test k ks d.0 (distinct-filter test ks d.1)

-- a part has the members that pass its test
pub among-filter : (test : KeyShape → Bool) (ks : List KeyShape) (key : KeyShape) → among (filter test ks) key ≡ (among ks key && test key)
among-filter test ks key = is_member-filter same_key_equiv test key (λ x e. ap test ((same_key-Decides key x).0 e)) ks

-- ---- lists of the same members are permutations of each other

-- a list that has a key, parted there
pub record IsParted (key : KeyShape) (ys : List KeyShape) : Type 0 where
  pub front : List KeyShape
  pub back : List KeyShape
  pub parted : ys ≡ front ++ key ∷ back

parted_at : (key : KeyShape) (ys : List KeyShape) → among ys key ≡ true → IsParted key ys
parted_at key [] h = cc
parted_at key (y ∷ ys) h = elim (cases_Bool (same_key key y)) [
  | inl same ↦ record { front = []; back = ys; parted = (let e : key ≡ y = (same_key-Decides key y).0 same in ap (λ (k : KeyShape). k ∷ ys) (sym e)) }
  | inr other ↦ (
      let there : among ys key ≡ true = cc in
      let p = parted_at key ys there in
      record { front = y ∷ p.front; back = p.back; parted = ap (λ (l : List KeyShape). y ∷ l) p.parted })
]

pub same_keys-permute : (xs ys : List KeyShape) → IsDistinct same_key xs → IsDistinct same_key ys → ((key : KeyShape) → list_any (same_key key) xs ≡ list_any (same_key key) ys) → IsPermutation xs ys
unfolding IsDistinct
same_keys-permute [] [] dx dy h = IsPermutation-refl []
same_keys-permute [] (y ∷ ys) dx dy h = absurd (let here = h y in let itself = same_key-itself y in both_ways (among (y ∷ ys) y) (sym here) (or_left (same_key y y) (among ys y) itself))
same_keys-permute (x ∷ xs) ys dx dy h =
    let itself : (same_key x x || among xs x) ≡ true = or_left (same_key x x) (among xs x) (same_key-itself x) in
    let p = parted_at x ys (sym (h x) ∙ itself) in
    let moved : IsPermutation ys (x ∷ (p.front ++ p.back)) = subst (λ (l : List KeyShape). IsPermutation l (x ∷ (p.front ++ p.back))) (sym p.parted) (IsPermutation-middle p.front x p.back) in
    let apart : IsDistinct same_key (x ∷ (p.front ++ p.back)) = IsDistinct-IsPermutation same_key same_key-flips ys (x ∷ (p.front ++ p.back)) moved dy in
    let rest = same_keys-permute xs (p.front ++ p.back) dx.1 apart.1 (others_alike x xs (p.front ++ p.back) dx.0 apart.0 (λ key. h key ∙ list_any-IsPermutation (same_key key) ys (x ∷ (p.front ++ p.back)) moved)) in
    IsPermutation-trans (x ∷ xs) (x ∷ (p.front ++ p.back)) ys (IsPermutation-cons x xs (p.front ++ p.back) rest) (IsPermutation-sym ys (x ∷ (p.front ++ p.back)) moved)
  where
    others_alike : (x : KeyShape) (xs zs : List KeyShape) → AllByRecursion (λ k. same_key x k ≡ false) xs → AllByRecursion (λ k. same_key x k ≡ false) zs → ((key : KeyShape) → among (x ∷ xs) key ≡ among (x ∷ zs) key) → (key : KeyShape) → among xs key ≡ among zs key
    others_alike x xs zs ax az h key = elim (cases_Bool (same_key key x)) [
      | inl same ↦ (
          let e : key ≡ x = (same_key-Decides key x).0 same in
          ap (among xs) e ∙ absent_from_apart x xs ax ∙ sym (ap (among zs) e ∙ absent_from_apart x zs az))
      | inr other ↦ (let both : (same_key key x || among xs key) ≡ (same_key key x || among zs key) = h key in cc)
    ]
