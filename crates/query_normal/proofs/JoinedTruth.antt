-- Whether each or some of the items of a list pass a test, and what does not change it.
use Rattle.std.proofs.Common.{◌≡◌, Bool, true, false, not, ◌&&◌, ◌||◌, List, [], ◌∷◌, ◌++◌, Ordering, inl, inr, refl, sym, ap, ◌∙◌}
use Rattle.std.specs.Bool.{Decides}
use Rattle.std.specs.List.{list_any, filter, fold}
use Rattle.std.specs.Ordering.{is_lt}
use Rattle.std.proofs.lemmas.Bool.{cases_Bool}
use Rattle.query_core.specs.Window.{placed, in_order}
use Rattle.query_normal.specs.Normal.{distinct_after, distinct}

-- ---- two truth values, joined by `and` (true) or `or` (false)

abbrev pub joins : Bool → Bool → Bool → Bool
joins true x y = x && y
joins false x y = x || y

pub joins_own : (b y : Bool) → joins b b y ≡ y
joins_own true y = refl
joins_own false y = refl

pub joins_unit : (b x : Bool) → joins b x b ≡ x
joins_unit true true = refl
joins_unit true false = refl
joins_unit false true = refl
joins_unit false false = refl

pub joins_zero : (b y : Bool) → joins b (not b) y ≡ not b
joins_zero true y = refl
joins_zero false y = refl

pub joins_zero_last : (b x : Bool) → joins b x (not b) ≡ not b
joins_zero_last true true = refl
joins_zero_last true false = refl
joins_zero_last false true = refl
joins_zero_last false false = refl

pub joins_assoc : (b x y z : Bool) → joins b (joins b x y) z ≡ joins b x (joins b y z)
joins_assoc true true y z = refl
joins_assoc true false y z = refl
joins_assoc false true y z = refl
joins_assoc false false y z = refl

pub joins_swap : (b x y z : Bool) → joins b x (joins b y z) ≡ joins b y (joins b x z)
joins_swap true true true z = refl
joins_swap true true false z = refl
joins_swap true false true z = refl
joins_swap true false false z = refl
joins_swap false true true z = refl
joins_swap false true false z = refl
joins_swap false false true z = refl
joins_swap false false false z = refl

pub joins_twice : (b x z : Bool) → joins b x (joins b x z) ≡ joins b x z
joins_twice true true z = refl
joins_twice true false z = refl
joins_twice false true z = refl
joins_twice false false z = refl

-- ---- lists

module _ {X : Type 0} (p : X → Bool) where
  -- whether each (true) or some (false) of the items pass
  abbrev pub holds : Bool → List X → Bool
  holds b [] = b
  holds b (x ∷ xs) = joins b (p x) (holds b xs)

  pub holds-append : (b : Bool) (xs ys : List X) → holds b (xs ++ ys) ≡ joins b (holds b xs) (holds b ys)
  holds-append b [] ys = sym (joins_own b (holds b ys))
  holds-append b (x ∷ xs) ys = ap (joins b (p x)) (holds-append b xs ys) ∙ sym (joins_assoc b (p x) (holds b xs) (holds b ys))

  pub holds_any : (xs : List X) → holds false xs ≡ list_any p xs
  holds_any [] = refl
  holds_any (x ∷ xs) = ap (λ r. p x || r) (holds_any xs)

  -- what an order does
  holds-placed : (b : Bool) (cmp : X → X → Ordering) (xs : List X) (new : X) → holds b (placed cmp xs new) ≡ joins b (p new) (holds b xs)
  holds-placed b cmp [] new = refl
  holds-placed b cmp (x ∷ xs) new =
      elim (cases_Bool (is_lt (cmp new x))) [
        | inl e ↦ rw e refl
        | inr e ↦ rw e (ap (joins b (p x)) (holds-placed b cmp xs new) ∙ joins_swap b (p x) (p new) (holds b xs))
      ]

  holds-fold : (b : Bool) (cmp : X → X → Ordering) (xs ys : List X) → holds b (fold (placed cmp) ys xs) ≡ joins b (holds b xs) (holds b ys)
  holds-fold b cmp [] ys = sym (joins_own b (holds b ys))
  holds-fold b cmp (x ∷ xs) ys =
      holds-fold b cmp xs (placed cmp ys x)
      ∙ ap (joins b (holds b xs)) (holds-placed b cmp ys x)
      ∙ joins_swap b (holds b xs) (p x) (holds b ys)
      ∙ sym (joins_assoc b (p x) (holds b xs) (holds b ys))

  pub holds-in_order : (b : Bool) (cmp : X → X → Ordering) (xs : List X) → holds b (in_order cmp xs) ≡ holds b xs
  holds-in_order b cmp xs = holds-fold b cmp xs [] ∙ joins_unit b (holds b xs)

  -- what it does to leave out repeats
  holds-distinct_after : (b : Bool) (same : X → X → Bool) → ((x y : X) → Decides (same x y) (x ≡ y)) → (x : X) (xs : List X)
      → joins b (p x) (holds b (distinct_after same x xs)) ≡ joins b (p x) (holds b xs)
  holds-distinct_after b same decides x [] = refl
  holds-distinct_after b same decides x (y ∷ ys) =
      elim (cases_Bool (same x y)) [
        | inl e ↦ (
            let equal : x ≡ y = (decides x y).0 e in
            rw e (
            holds-distinct_after b same decides x ys
            ∙ sym (joins_twice b (p x) (holds b ys))
            ∙ ap (λ z. joins b (p x) (joins b (p z) (holds b ys))) equal))
        | inr e ↦ rw e (ap (joins b (p x)) (holds-distinct_after b same decides y ys))
      ]

  pub holds-distinct : (b : Bool) (same : X → X → Bool) → ((x y : X) → Decides (same x y) (x ≡ y)) → (xs : List X) → holds b (distinct same xs) ≡ holds b xs
  holds-distinct b same decides [] = refl
  holds-distinct b same decides (x ∷ xs) = holds-distinct_after b same decides x xs

  -- items that pass as the neutral value may be left out
  pub holds-filter : (b : Bool) (left_out : X → Bool) → ((x : X) → left_out x ≡ true → p x ≡ b) → (xs : List X) → holds b (filter (λ x. not (left_out x)) xs) ≡ holds b xs
  holds-filter b left_out neutral [] = refl
  holds-filter b left_out neutral (x ∷ xs) =
      elim (cases_Bool (left_out x)) [
        | inl e ↦ rw e (holds-filter b left_out neutral xs ∙ sym (joins_own b (holds b xs)) ∙ ap (λ r. joins b r (holds b xs)) (sym (neutral x e)))
        | inr e ↦ rw e (ap (joins b (p x)) (holds-filter b left_out neutral xs))
      ]

  -- one that passes as the other value decides
  pub holds-zero : (b : Bool) (decisive : X → Bool) → ((x : X) → decisive x ≡ true → p x ≡ not b) → (xs : List X) → list_any decisive xs ≡ true → holds b xs ≡ not b
  holds-zero b decisive zeros [] e = absurd (cc)
  holds-zero b decisive zeros (x ∷ xs) e =
      elim (cases_Bool (decisive x)) [
        | inl is ↦ ap (λ r. joins b r (holds b xs)) (zeros x is) ∙ joins_zero b (holds b xs)
        | inr not_it ↦ ap (joins b (p x)) (holds-zero b decisive zeros xs (rw not_it at e)) ∙ joins_zero_last b (p x)
      ]
