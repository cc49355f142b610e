-- Copies, and the keys that have one.
use Rattle.std.proofs.Common.{◌≡◌, ℕ, zero, suc, ◌<◌, Bool, true, false, cond, ◌&&◌, ◌||◌, List, [], ◌∷◌, map, filter, refl, sym, ap, ◌∙◌, subst, inl, inr, arith}
use Rattle.std.specs.Prelude.{nat_lt, slice_index_or}
use Rattle.std.specs.List.{list_any, Contains, IsDistinct}
use Rattle.std.proofs.lemmas.Bool.{and_parts, and_from, or_cases, or_left, or_right, ltb-true, lt-ltb}
use Rattle.std.proofs.lemmas.List.Elements.{Contains-append_right, Contains-append_cases, All-contains, All-filter, All-contains_itself, filter_passes}
use Rattle.query_normal.specs.declared.key.KeyShape.{KeyShape}
use Rattle.query_normal.specs.Keys.{same_key}
use Rattle.query_normal.specs.SameKey.{same_key-Decides}
use Rattle.hub_model.specs.Copies.{issues, is_live, live, some_copy, keys_of}
use Rattle.hub_model.specs.State.{IssuedCopy, State, until_of}
use Rattle.hub_model.proofs.KeySets.{among-unique, distinct-unique}

-- ---- tests of the elements of a list

-- an element that passes a test
pub found_by : {X : Type 0} (p : X → Bool) (xs : List X) → list_any p xs ≡ true → (x : X) × Contains xs x × (p x ≡ true)
found_by p [] h = cc
found_by {X} p (x ∷ xs) h = elim (or_cases (p x) (list_any p xs) h) [
  | inl here ↦ (x, (0, omega arith, refl), here)
  | inr there ↦ (let f = found_by p xs there in (f.0, Contains-append_right (x ∷ []) xs f.0 f.1, f.2))
]

-- a list of one element has that one alone
only_at : {X : Type 0} (y x : X) (k : ℕ) → slice_index_or (y ∷ []) k x ≡ x → k < 1 → y ≡ x
only_at y x zero e l = e
only_at y x (suc k) e l = absurd (omega (arith, l))

pub only : {X : Type 0} (y x : X) → Contains (y ∷ []) x → y ≡ x
only y x h = only_at y x h.0 h.2 (let l = h.1 in omega (arith, l))

-- the test of a list is true where an element passes
pub any_from : {X : Type 0} (p : X → Bool) (xs : List X) (x : X) → Contains xs x → p x ≡ true → list_any p xs ≡ true
any_from p [] x h passes = absurd (let k = h.1 in omega (arith, k))
any_from p (y ∷ ys) x h passes = elim (Contains-append_cases (y ∷ []) ys x h) [
  | inl here ↦ or_left (p y) (list_any p ys) (subst (λ z. p z ≡ true) (sym (only y x here)) passes)
  | inr there ↦ or_right (p y) (list_any p ys) (any_from p ys x there passes)
]

-- what a filter keeps was there and passes
pub filter-parts : {X : Type 0} (p : X → Bool) (xs : List X) (x : X) → Contains (filter p xs) x → Contains xs x × (p x ≡ true)
filter-parts p xs x h = (
  All-contains (Contains xs) (filter p xs) x (All-filter p (Contains xs) xs (All-contains_itself xs)) h,
  All-contains (λ y. p y ≡ true) (filter p xs) x (filter_passes p xs) h,
)

kept_first : {X : Type 0} (b : Bool) (p : X → Bool) (y : X) (ys : List X) → p y ≡ b → b ≡ true → Contains (cond b (y ∷ filter p ys) (filter p ys)) y
kept_first true p y ys h t = (0, omega arith, refl)
kept_first false p y ys h t = cc

kept_tail : {X : Type 0} (b : Bool) (p : X → Bool) (y : X) (ys : List X) (x : X) → Contains (filter p ys) x → Contains (cond b (y ∷ filter p ys) (filter p ys)) x
kept_tail true p y ys x h = Contains-append_right (y ∷ []) (filter p ys) x h
kept_tail false p y ys x h = h

-- what is there and passes is kept
pub filter-from : {X : Type 0} (p : X → Bool) (xs : List X) (x : X) → Contains xs x → p x ≡ true → Contains (filter p xs) x
filter-from p [] x h passes = h
filter-from p (y ∷ ys) x h passes = elim (Contains-append_cases (y ∷ []) ys x h) [
  | inl here ↦ (
      let e : y ≡ x = only y x here in
      subst (λ z. Contains (filter p (y ∷ ys)) z) e (kept_first (p y) p y ys refl (ap p e ∙ passes)))
  | inr there ↦ kept_tail (p y) p y ys x (filter-from p ys x there passes)
]

-- ---- the copies of a state

-- a copy that may still be kept: it was issued for a lifetime, which is not over
pub live-parts : (s : State) (r : IssuedCopy) → Contains (live s) r → Contains s.copies r × (0 < r.ttl) × (s.clock < until_of r)
live-parts s r h =
    let p = filter-parts (is_live s.clock) (issues s) r h in
    let q = filter-parts (λ r. nat_lt 0 r.ttl) s.copies r p.0 in
    (q.0, ltb-true 0 r.ttl q.1, ltb-true s.clock (until_of r) p.1)

pub live-from : (s : State) (r : IssuedCopy) → Contains s.copies r → 0 < r.ttl → s.clock < until_of r → Contains (live s) r
live-from s r there some later = filter-from (is_live s.clock) (issues s) r (filter-from (λ r. nat_lt 0 r.ttl) s.copies r there (lt-ltb 0 r.ttl some)) (lt-ltb s.clock (until_of r) later)

-- a key has a copy that passes the test
pub copy-parts : (key : KeyShape) (test : IssuedCopy → Bool) (copies : List IssuedCopy) → some_copy key test copies ≡ true → (r : IssuedCopy) × Contains copies r × (r.key ≡ key) × (test r ≡ true)
copy-parts key test copies h =
    let f = found_by (λ r. same_key key r.key && test r) copies h in
    let b = and_parts (same_key key f.0.key) (test f.0) f.2 in
    (f.0, f.1, sym ((same_key-Decides key f.0.key).0 b.0), b.1)

pub copy-from : (key : KeyShape) (test : IssuedCopy → Bool) (copies : List IssuedCopy) (r : IssuedCopy) → Contains copies r → r.key ≡ key → test r ≡ true → some_copy key test copies ≡ true
copy-from key test copies r there is_key passes = any_from (λ r. same_key key r.key && test r) copies r there
    (and_from (same_key key r.key) (test r) ((same_key-Decides key r.key).1 (sym is_key)) passes)

-- the keys of copies are those that have one
keys-map : (key : KeyShape) (copies : List IssuedCopy) → list_any (same_key key) (map (λ r. r.key) copies) ≡ list_any (λ r. same_key key r.key) copies
keys-map key [] = refl
keys-map key (r ∷ rs) = ap (λ (b : Bool). same_key key r.key || b) (keys-map key rs)

pub among-keys_of : (key : KeyShape) (copies : List IssuedCopy) → list_any (same_key key) (keys_of copies) ≡ list_any (λ r. same_key key r.key) copies
among-keys_of key copies = among-unique (map (λ r. r.key) copies) key ∙ keys-map key copies

pub distinct-keys_of : (copies : List IssuedCopy) → IsDistinct same_key (keys_of copies)
distinct-keys_of copies = distinct-unique (map (λ r. r.key) copies)
