-- Lists of keys.
use Rattle.std.proofs.Common.{◌≡◌, Bool, true, false, not, ◌&&◌, ◌||◌, if◌then◌else◌, List, [], ◌∷◌, ◌++◌, Option, Some, None, IfSome, IsTrue, OnOk, Result, Ok, Err, find, option_to_list, refl, sym, ap, ap₂, ◌∙◌, subst, inl, inr, ◌⊎◌}
use Rattle.std.specs.List.{list_any}
use Rattle.std.proofs.lemmas.Bool.{cases_Bool}
use Rattle.std.proofs.lemmas.Map.Made.{IfSome-find_same}
use Rattle.std.proofs.lemmas.List.Folds.{list_any-append}
use Rattle.query_normal.specs.declared.key.KeyShape.{KeyShape}
use Rattle.query_normal.specs.Keys.{same_key}
use Rattle.query_normal.specs.SameKey.{same_key-Decides}

-- the key that a look-up in a set removes is the key
pub taken_is : (key taken_out : KeyShape) (keys : List KeyShape) → Some taken_out ≡ find (same_key key) keys → taken_out ≡ key
taken_is key taken_out keys taken = subst (λ (o : Option KeyShape). IfSome o (λ k. k ≡ key)) (sym taken) (IfSome-find_same same_key-Decides key keys)

-- a key that was removed from a list was in it
pub popped_is : (o : Option KeyShape) (old new : List KeyShape) → old ≡ new ++ option_to_list o → IfSome o (λ key. list_any (same_key key) old ≡ true)
popped_is None old new is = tt
popped_is (Some key) old new is =
    ap (list_any (same_key key)) is
    ∙ list_any-append (same_key key) new (key ∷ [])
    ∙ ap (λ (b : Bool). list_any (same_key key) new || (b || false)) ((same_key-Decides key key).1 refl)
    ∙ or_true (list_any (same_key key) new)
  where
    or_true : (a : Bool) → (a || true) ≡ true
    or_true true = refl
    or_true false = refl

-- ---- keys of which the first is kept apart

-- a key that is the same as another is found where that one is
found_as : (key other : KeyShape) (keys : List KeyShape) → same_key key other ≡ true → list_any (same_key other) keys ≡ list_any (same_key key) keys
found_as key other keys same = ap (λ (k : KeyShape). list_any (same_key k) keys) (sym ((same_key-Decides key other).0 same))

-- what is left of keys without one of them
abbrev pub IsLeft : KeyShape → KeyShape → (keys left : List KeyShape) → Type 0
IsLeft key other keys left = list_any (same_key other) left ≡ (not (same_key key other) && list_any (same_key other) keys)

-- keys that do not have the key are left without it
pub absent-left : (key other : KeyShape) (keys : List KeyShape) → list_any (same_key key) keys ≡ false → IsLeft key other keys keys
absent-left key other keys absent = elim (cases_Bool (same_key key other)) [
  | inl same ↦ found_as key other keys same ∙ absent ∙ sym (ap (λ (b : Bool). not b && list_any (same_key other) keys) same)
  | inr apart ↦ sym (ap (λ (b : Bool). not b && list_any (same_key other) keys) apart)
]

either : (a b k : Bool) → (not k && a || not k && b) ≡ (not k && (a || b))
either a b true = refl
either a b false = refl

-- two lists, each left without the key
pub both-left : (key other : KeyShape) (first first' keys left : List KeyShape) → IsLeft key other first first' → IsLeft key other keys left → IsLeft key other (first ++ keys) (first' ++ left)
both-left key other first first' keys left one two =
    list_any-append (same_key other) first' left
    ∙ ap₂ (λ (a b : Bool). a || b) one two
    ∙ either (list_any (same_key other) first) (list_any (same_key other) keys) (same_key key other)
    ∙ sym (ap (λ (b : Bool). not (same_key key other) && b) (list_any-append (same_key other) first keys))

-- a first key that is the key is not left
pub first-left : (key other : KeyShape) (first : Option KeyShape) → list_any (same_key key) (option_to_list first) ≡ true → IsLeft key other (option_to_list first) []
first-left key other None there = absurd (let e = there in cc)
first-left key other (Some own) there = elim (cases_Bool (same_key key other)) [
  | inl same ↦ sym (ap (λ (b : Bool). not b && list_any (same_key other) (own ∷ [])) same)
  | inr apart ↦ elim (cases_Bool (same_key other own)) [
    | inl is ↦ absurd (
        let one : key ≡ own = (same_key-Decides key own).0 (own_is (same_key key own) there) in
        let two : other ≡ own = (same_key-Decides other own).0 is in
        let hit : same_key key other ≡ true = (same_key-Decides key other).1 (one ∙ sym two) in
        cc)
    | inr far ↦ sym (ap₂ (λ (a b : Bool). not a && (b || false)) apart far)
  ]
]
  where
    own_is : (b : Bool) → (b || false) ≡ true → b ≡ true
    own_is true h = refl
    own_is false h = h

by_inserted : (a l k : Bool) → (a || (l || (k || false))) ≡ (k || (a || l))
by_inserted true l true = refl
by_inserted true l false = refl
by_inserted false true true = refl
by_inserted false true false = refl
by_inserted false false true = refl
by_inserted false false false = refl

by_there : (a l k : Bool) → (k ≡ true → l ≡ true) → (a || l) ≡ (k || (a || l))
by_there a l false there = refl
by_there true l true there = refl
by_there false l true there = there refl

-- a key that was inserted behind the first one
pub inserted : (key other : KeyShape) (first keys new : List KeyShape) → new ≡ (if list_any (same_key key) keys then keys else keys ++ key ∷ []) → list_any (same_key other) (first ++ new) ≡ (same_key other key || list_any (same_key other) (first ++ keys))
inserted key other first keys new is =
    list_any-append (same_key other) first new
    ∙ by (cases_Bool (list_any (same_key key) keys))
    ∙ sym (ap (λ (b : Bool). same_key other key || b) (list_any-append (same_key other) first keys))
  where
    by : ((list_any (same_key key) keys ≡ true) ⊎ (list_any (same_key key) keys ≡ false)) → (list_any (same_key other) first || list_any (same_key other) new) ≡ (same_key other key || (list_any (same_key other) first || list_any (same_key other) keys))
    by (inl there) =
        let same : new ≡ keys = is ∙ ap (λ (b : Bool). if b then keys else keys ++ key ∷ []) there in
        ap (λ (ks : List KeyShape). list_any (same_key other) first || list_any (same_key other) ks) same
        ∙ by_there (list_any (same_key other) first) (list_any (same_key other) keys) (same_key other key)
        (λ hit. sym (found_as other key keys hit) ∙ there)
    by (inr absent) =
        let more : new ≡ keys ++ key ∷ [] = is ∙ ap (λ (b : Bool). if b then keys else keys ++ key ∷ []) absent in
        ap (λ (ks : List KeyShape). list_any (same_key other) first || list_any (same_key other) ks) more
        ∙ ap (λ (b : Bool). list_any (same_key other) first || b) (list_any-append (same_key other) keys (key ∷ []))
        ∙ by_inserted (list_any (same_key other) first) (list_any (same_key other) keys) (same_key other key)

-- the test of equal keys does not depend on their order
pub same_key-turned : (a b : KeyShape) → same_key a b ≡ same_key b a
same_key-turned a b = elim (cases_Bool (same_key a b)) [
  | inl hit ↦ hit ∙ sym ((same_key-Decides b a).1 (sym ((same_key-Decides a b).0 hit)))
  | inr miss ↦ elim (cases_Bool (same_key b a)) [
    | inl hit ↦ absurd (let is : same_key a b ≡ true = (same_key-Decides a b).1 (sym ((same_key-Decides b a).0 hit)) in cc)
    | inr far ↦ miss ∙ sym far
  ]
]

-- one key more
pub one-more : (key : KeyShape) (old new : List KeyShape) → ((other : KeyShape) → list_any (same_key other) new ≡ (same_key other key || list_any (same_key other) old)) → (other : KeyShape) → list_any (same_key other) new ≡ (same_key key other || list_any (same_key other) old)
one-more key old new more other = more other ∙ ap (λ (b : Bool). b || list_any (same_key other) old) (same_key-turned other key)

-- it is among them then, and the others are as before
pub own-reserved : (key : KeyShape) (old new : List KeyShape) → ((other : KeyShape) → list_any (same_key other) new ≡ (same_key key other || list_any (same_key other) old)) → IsTrue (list_any (same_key key) new)
own-reserved key old new more = more key ∙ ap (λ (b : Bool). b || list_any (same_key key) old) ((same_key-Decides key key).1 refl)

-- what follows where a call succeeded
pub on-ok : {A E : Type 0} {P Q : Type 0} (r : Result A E) → (P → Q) → OnOk r P → OnOk r Q
on-ok (Ok a) to given = to given
on-ok (Err e) to given = tt
