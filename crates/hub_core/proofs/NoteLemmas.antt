-- What is noted of keys, one after another.
use Rattle.std.proofs.Common.{◌≡◌, ℕ, zero, suc, ◌+◌, ◌<◌, ◌≤◌, Bool, true, false, ◌&&◌, ◌||◌, max, List, [], ◌∷◌, ◌++◌, length, get_or, slice_get, take, nat_lt, IsTrue, Option, Some, option_map, if◌then◌else◌, refl, sym, ap, ap₂, ◌∙◌, subst, arith, inl, inr}
use Rattle.std.specs.List.{list_any, AllByRecursion, IsDistinct}
use Rattle.std.proofs.lemmas.Bool.{cases_Bool}
use Rattle.std.proofs.lemmas.List.Elements.{All-append, All-cons, All-nil, All-weaker}
use Rattle.std.proofs.lemmas.List.Folds.{list_any-append}
use Rattle.std.proofs.Math.Seq.{take-suc}
use Rattle.query_normal.specs.Keys.{same_key}
use Rattle.query_normal.specs.SameKey.{same_key-Decides, same_key_equiv}
use Rattle.query_normal.specs.declared.key.KeyShape.{KeyShape}
use Rattle.issued_expiries.specs.Copies.{Copy, is_active}
use Rattle.ttl_estimator.specs.declared.estimates.Kept.{Kept}
use Rattle.ttl_estimator.specs.Estimates.{after_issue}
use Rattle.purge_list.specs.LastChanges.{Changes, change_of, is_known}
use Rattle.hub_core.specs.declared.invalidations.Invalidation.{Invalidation}
use Rattle.hub_core.specs.Invalidations.{HasEntry, HaveEntries, raised_by}
use Rattle.hub_core.proofs.GreatestLemmas.{best-cons, best-append}

-- the items up to one and that one
pub next-of : {X : Type 0} (xs : List X) (i : ℕ) (x : X) → x ≡ get_or xs i x → i < length xs → take (i + 1) xs ≡ take i xs ++ x ∷ []
next-of xs i x item low = ap (λ n. take n xs) (let h : i + 1 ≡ suc i = omega arith in h) ∙ take-suc xs i x low ∙ ap (λ y. take i xs ++ y ∷ []) (sym item)

-- an item that is found at an index
pub item-at : {X : Type 0} (xs : List X) (i : ℕ) (x : X) → slice_get xs i ≡ Some x → x ≡ get_or xs i x
item-at [] i x found = absurd (let e = found in cc)
item-at (y ∷ ys) zero x found = (let e = found in cc)
item-at (y ∷ ys) (suc i) x found = item-at ys i x found

any-of-next : (key : KeyShape) (keys : List KeyShape) (i : ℕ) (m : KeyShape) → m ≡ get_or keys i m → i < length keys → list_any (same_key key) (take (i + 1) keys) ≡ (list_any (same_key key) (take i keys) || same_key key m)
any-of-next key keys i m item low =
    ap (list_any (same_key key)) (next-of keys i m item low)
    ∙ list_any-append (same_key key) (take i keys) (m ∷ [])
    ∙ ap (λ (b : Bool). list_any (same_key key) (take i keys) || b) (or_false (same_key key m))
  where
    or_false : (b : Bool) → (b || false) ≡ b
    or_false true = refl
    or_false false = refl

-- of distinct keys the next is not among those before it
fresh : (keys : List KeyShape) (i : ℕ) (m : KeyShape) → IsDistinct same_key keys → m ≡ get_or keys i m → i < length keys → list_any (same_key m) (take i keys) ≡ false
unfolding IsDistinct
fresh [] i m once item low = absurd (omega (arith, low))
fresh (k ∷ ks) zero m once item low = refl
fresh (k ∷ ks) (suc i) m once item low =
    let rest = fresh ks i m once.1 item (omega (arith, low)) in
    let apart : same_key k m ≡ false = among_apart ks i once.0 item (omega (arith, low)) in
    rw (same_key_equiv.symm m k, apart) rest
  where
    among_apart : (xs : List KeyShape) (n : ℕ) → AllByRecursion (λ x. same_key k x ≡ false) xs → m ≡ get_or xs n m → n < length xs → same_key k m ≡ false
    among_apart [] n all is short = absurd (omega (arith, short))
    among_apart (x ∷ xs) zero all is short = ap (same_key k) is ∙ all.0
    among_apart (x ∷ xs) (suc n) all is short = among_apart xs n all.1 is (omega (arith, short))

-- what is kept after one key more of distinct ones
pub outdated-next : {X : Type 0} (first old new : KeyShape → Option X) (f : X → X) (keys : List KeyShape) (i : ℕ) (m : KeyShape) → m ≡ get_or keys i m → i < length keys → IsDistinct same_key keys →
    ((key : KeyShape) → old key ≡ (if list_any (same_key key) (take i keys) then option_map f (first key) else first key)) →
    ((key : KeyShape) → new key ≡ (if same_key m key then option_map f (old m) else old key)) →
    (key : KeyShape) → new key ≡ (if list_any (same_key key) (take (i + 1) keys) then option_map f (first key) else first key)
outdated-next first old new f keys i m item low once was is key =
    is key
    ∙ elim (cases_Bool (same_key m key)) [
      | inl own ↦ (
          let e : m ≡ key = (same_key-Decides m key).0 own in
          let untouched : old m ≡ first m = was m ∙ ap (λ (b : Bool). if b then option_map f (first m) else first m) (fresh keys i m once item low) in
          ap (λ (b : Bool). if b then option_map f (old m) else old key) own
          ∙ ap (option_map f) (untouched ∙ ap first e)
          ∙ sym (ap (λ (b : Bool). if b then option_map f (first key) else first key) (any-of-next key keys i m item low ∙ ap (λ (b : Bool). list_any (same_key key) (take i keys) || b) (same_key_equiv.symm key m ∙ own) ∙ or_true (list_any (same_key key) (take i keys)))))
      | inr apart ↦ (
          ap (λ (b : Bool). if b then option_map f (old m) else old key) apart
          ∙ was key
          ∙ sym (ap (λ (b : Bool). if b then option_map f (first key) else first key) (any-of-next key keys i m item low ∙ ap (λ (b : Bool). list_any (same_key key) (take i keys) || b) (same_key_equiv.symm key m ∙ apart) ∙ or_false (list_any (same_key key) (take i keys)))))
    ]
  where
    or_true : (b : Bool) → (b || true) ≡ true
    or_true true = refl
    or_true false = refl

    or_false : (b : Bool) → (b || false) ≡ b
    or_false true = refl
    or_false false = refl

-- no invalidation raises nothing
pub raised-none : (b : Bool) (n : ℕ) → n ≡ (if b then max n 0 else n)
raised-none true n = omega arith
raised-none false n = refl

-- one invalidation more
pub raised-next : (first old new : Changes) (invalidations : List Invalidation) (i : ℕ) (m : Invalidation) → m ≡ get_or invalidations i m → i < length invalidations →
    ((key : KeyShape) → change_of old key ≡ (if is_known first key then max (change_of first key) (raised_by key (take i invalidations)) else change_of first key)) → ((key : KeyShape) → is_known old key ≡ is_known first key) →
    ((key : KeyShape) → change_of new key ≡ (if same_key m.key key && is_known old m.key then max (change_of old key) m.commit else change_of old key)) →
    (key : KeyShape) → change_of new key ≡ (if is_known first key then max (change_of first key) (raised_by key (take (i + 1) invalidations)) else change_of first key)
raised-next first old new invalidations i m item low was known is key =
    let more : raised_by key (take (i + 1) invalidations) ≡ max (raised_by key (take i invalidations)) (if same_key key m.key then m.commit else 0) =
    ap (raised_by key) (next-of invalidations i m item low)
    ∙ best-append (λ (x : Invalidation). x.commit) (λ (x : Invalidation). same_key key x.key) (take i invalidations) (m ∷ [])
    ∙ ap (max (raised_by key (take i invalidations))) (best-cons (λ (x : Invalidation). x.commit) (λ (x : Invalidation). same_key key x.key) m [] ∙ (let h : max (if same_key key m.key then m.commit else 0) 0 ≡ (if same_key key m.key then m.commit else 0) = omega arith in h)) in
    is key
    ∙ elim (cases_Bool (same_key m.key key)) [
      | inl own ↦ (
          let e : m.key ≡ key = (same_key-Decides m.key key).0 own in
          let there : is_known old m.key ≡ is_known first key = known m.key ∙ ap (is_known first) e in
          ap₂ (λ (a b : Bool). if a && b then max (change_of old key) m.commit else change_of old key) own there
          ∙ ap (λ (n : ℕ). if is_known first key then max n m.commit else n) (was key)
          ∙ by (is_known first key) (change_of first key) (raised_by key (take i invalidations)) m.commit (raised_by key (take (i + 1) invalidations)) (more ∙ ap (λ (b : Bool). max (raised_by key (take i invalidations)) (if b then m.commit else 0)) (same_key_equiv.symm key m.key ∙ own)))
      | inr apart ↦ (
          ap (λ (a : Bool). if a && is_known old m.key then max (change_of old key) m.commit else change_of old key) apart
          ∙ was key
          ∙ left (is_known first key) (change_of first key) (raised_by key (take i invalidations)) (raised_by key (take (i + 1) invalidations)) (more ∙ ap (λ (b : Bool). max (raised_by key (take i invalidations)) (if b then m.commit else 0)) (same_key_equiv.symm key m.key ∙ apart)))
    ]
  where
    by : (b : Bool) (a r n s : ℕ) → s ≡ max r n → (if b then max (if b then max a r else a) n else (if b then max a r else a)) ≡ (if b then max a s else a)
    by true a r n s e = omega (arith, e)
    by false a r n s e = refl

    left : (b : Bool) (a r s : ℕ) → s ≡ max r 0 → (if b then max a r else a) ≡ (if b then max a s else a)
    left true a r s e = omega (arith, e)
    left false a r s e = refl

-- ---- a read

pub and-true-right : (b : Bool) → (b && true) ≡ b
and-true-right true = refl
and-true-right false = refl

pub and-false-right : (b : Bool) → (b && false) ≡ false
and-false-right true = refl
and-false-right false = refl

-- a key's own is the same under either name
pub own-or : {X : Type 0} (f : KeyShape → X) (key other : KeyShape) → f other ≡ (if same_key key other then f key else f other)
own-or f key other = by (same_key key other) refl
  where
    by : (b : Bool) → same_key key other ≡ b → f other ≡ (if b then f key else f other)
    by true own = ap f (sym ((same_key-Decides key other).0 own))
    by false apart = refl

-- what is kept of keys after the estimate of one was dropped or not, and its copy noted
pub noted-read : (first middle last : KeyShape → Option Kept) (key : KeyShape) (ttl clock : ℕ) (while : Option Kept → Option Kept) →
    ((other : KeyShape) → middle other ≡ (if same_key key other then while (first key) else first other)) →
    ((other : KeyShape) → last other ≡ (if same_key key other && nat_lt 0 ttl then Some (after_issue ttl clock (middle key)) else middle other)) →
    (other : KeyShape) → last other ≡ (if same_key key other then (if nat_lt 0 ttl then Some (after_issue ttl clock (while (first key))) else while (first key)) else first other)
noted-read first middle last key ttl clock while dropped noted other =
    let own : middle key ≡ while (first key) = dropped key ∙ ap (λ (b : Bool). if b then while (first key) else first key) ((same_key-Decides key key).1 refl) in
    noted other ∙ ap₂ (λ (o p : Option Kept). if same_key key other && nat_lt 0 ttl then Some (after_issue ttl clock o) else p) own (dropped other) ∙ by (same_key key other) (nat_lt 0 ttl)
  where
    by : (a b : Bool) → (if a && b then Some (after_issue ttl clock (while (first key))) else (if a then while (first key) else first other)) ≡ (if a then (if b then Some (after_issue ttl clock (while (first key))) else while (first key)) else first other)
    by true true = refl
    by true false = refl
    by false b = refl

-- ---- what is added one after another

-- the keys of a set with one more
pub key-added : (key k : KeyShape) (old new : List KeyShape) → new ≡ (if list_any (same_key k) old then old else old ++ k ∷ []) → list_any (same_key key) new ≡ (list_any (same_key key) old || same_key key k)
key-added key k old new is = ap (list_any (same_key key)) is ∙ by (list_any (same_key k) old) refl
  where
    or_false : (b : Bool) → (b || false) ≡ b
    or_false true = refl
    or_false false = refl

    by : (b : Bool) → list_any (same_key k) old ≡ b → list_any (same_key key) (if b then old else old ++ k ∷ []) ≡ (list_any (same_key key) old || same_key key k)
    by true there = elim (cases_Bool (same_key key k)) [
      | inl own ↦ (
          let e : key ≡ k = (same_key-Decides key k).0 own in
          let has : list_any (same_key key) old ≡ true = ap (λ (x : KeyShape). list_any (same_key x) old) e ∙ there in
          has ∙ sym (ap (λ (b : Bool). b || same_key key k) has))
      | inr apart ↦ sym (ap (λ (b : Bool). list_any (same_key key) old || b) apart ∙ or_false (list_any (same_key key) old))
    ]
    by false none = list_any-append (same_key key) old (k ∷ []) ∙ ap (λ (b : Bool). list_any (same_key key) old || b) (or_false (same_key key k))

-- one item more passes a test
pub any-next : {X : Type 0} (p : X → Bool) (xs : List X) (i : ℕ) (x : X) → x ≡ get_or xs i x → i < length xs → list_any p (take (i + 1) xs) ≡ (list_any p (take i xs) || p x)
any-next p xs i x item low =
    ap (list_any p) (next-of xs i x item low) ∙ list_any-append p (take i xs) (x ∷ []) ∙ ap (λ (b : Bool). list_any p (take i xs) || b) (or_false (p x))
  where
    or_false : (b : Bool) → (b || false) ≡ b
    or_false true = refl
    or_false false = refl

-- ---- entries for last changes

pub entries-none : (copies : List Copy) (changes : Changes) → HaveEntries copies changes []
entries-none copies changes k d low = absurd (omega (arith, low))

-- an item of a list, or the one behind it
pub entries-next : (copies : List Copy) (old new : Changes) (invalidations : List Invalidation) (i : ℕ) (m : Invalidation) → m ≡ get_or invalidations i m → i < length invalidations → HaveEntries copies old (take i invalidations) →
    ((key : KeyShape) → IsTrue (is_known old key) → IsTrue (is_known new key)) → (IsTrue (is_active copies m.key) → IsTrue (is_known new m.key)) → HaveEntries copies new (take (i + 1) invalidations)
entries-next copies old new invalidations i m item low were stays own =
    subst (λ (ms : List Invalidation). HaveEntries copies new ms) (sym (next-of invalidations i m item low))
    (All-append (HasEntry copies new) (take i invalidations) (m ∷ []) (All-weaker (HasEntry copies old) (HasEntry copies new) (λ x had active. stays x.key (had active)) (take i invalidations) were)
    (All-cons (HasEntry copies new) m [] own (All-nil (HasEntry copies new))))

-- a loop that has come to the end
pub take-all : {X : Type 0} (n : ℕ) (xs : List X) → length xs ≤ n → take n xs ≡ xs
take-all zero [] less = refl
take-all (suc n) [] less = refl
take-all zero (x ∷ xs) less = absurd (omega (arith, less))
take-all (suc n) (x ∷ xs) less = ap (λ l. x ∷ l) (take-all n xs (omega (arith, less)))

pub entries-all : (copies : List Copy) (changes : Changes) (invalidations : List Invalidation) (i : ℕ) → length invalidations ≤ i → HaveEntries copies changes (take i invalidations) → HaveEntries copies changes invalidations
entries-all copies changes invalidations i end all = subst (λ (ms : List Invalidation). HaveEntries copies changes ms) (take-all i invalidations end) all
