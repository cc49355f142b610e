-- Filters of the same operands, in any order, nesting or number, have one normal form, where texts tell filters apart.
use Rattle.std.proofs.Common.{◌≡◌, Bool, true, false, not, ◌&&◌, ◌||◌, List, [], ◌∷◌, ◌++◌, Ordering, inl, inr, refl, sym, ap, ap₂, ◌∙◌, subst, append-nil}
use Rattle.std.specs.Bool.{⊤, Decides}
use Rattle.std.specs.Cmp.{IsTotalOrder}
use Rattle.std.specs.List.{list_any, filter, flat_map, AllByRecursion}
use Rattle.std.specs.Ordering.{is_lt, ordering_reverse}
use Rattle.std.specs.declared.cmp.Ordering.TheVariants.{Less, Equal, Greater}
use Rattle.std.proofs.lemmas.Bool.{cases_Bool}
use Rattle.std.proofs.lemmas.Cmp.{tied_itself}
use Rattle.query_core.specs.Filters.{Filter, constant, compared, listed, having, present, negated, every, some, Operands, no_operands, operand, operand_list}
use Rattle.query_core.specs.Same.{same_filter}
use Rattle.query_core.specs.SameLaws.{same_filter-Decides}
use Rattle.query_core.specs.Window.{in_order}
use Rattle.query_core.proofs.Rising.{Under, Rises, in_order_rises, in_order_all}
use Rattle.query_normal.specs.Forms.{SameItems, forms, forms_of}
use Rattle.query_normal.specs.Normal.{distinct_after, distinct, text_cmp, filters_once, parts_of, is_constant, joined, connected, normal_filter, normal_parts}
use Rattle.query_normal.proofs.JoinedTruth.{holds_any, holds-in_order, holds-distinct}
use Rattle.query_normal.proofs.NormalMeaning.{operand_list-of}
use Rattle.query_normal.proofs.OnceLemmas.{once_all}
use Rattle.query_normal.proofs.Settled.{Settled, IsPart, IsOperand, text_cmp_total, settled_list, kept_operands, normal_settled, parts_are_settled, connected_itself, joined_many_and, joined_many_or, operands_of-list, part_itself}

-- ---- whether some item passes a test

or_assoc : (a b c : Bool) → ((a || b) || c) ≡ (a || (b || c))
or_assoc true b c = refl
or_assoc false b c = refl

or_none : (a b : Bool) → (a || b) ≡ false → (a ≡ false) × (b ≡ false)
or_none true b e = absurd (cc)
or_none false b e = (refl, e)

module _ {X : Type 0} (p : X → Bool) where
  any-append : (xs ys : List X) → list_any p (xs ++ ys) ≡ (list_any p xs || list_any p ys)
  any-append [] ys = refl
  any-append (x ∷ xs) ys = ap (λ r. p x || r) (any-append xs ys) ∙ sym (or_assoc (p x) (list_any p xs) (list_any p ys))

  any-filter : (r : X → Bool) (xs : List X) → list_any p (filter r xs) ≡ list_any (λ x. r x && p x) xs
  any-filter r [] = refl
  any-filter r (x ∷ xs) = elim (cases_Bool (r x)) [ inl e ↦ rw e (ap (λ s. p x || s) (any-filter r xs)) | inr e ↦ rw e (any-filter r xs) ]

  any-flat_map : {Y : Type 0} (f : Y → List X) (ys : List Y) → list_any p (flat_map f ys) ≡ list_any (λ y. list_any p (f y)) ys
  any-flat_map f [] = refl
  any-flat_map f (y ∷ ys) = any-append (f y) (flat_map f ys) ∙ ap (λ r. list_any p (f y) || r) (any-flat_map f ys)

  any-alike : (q : X → Bool) → ((x : X) → p x ≡ q x) → (xs : List X) → list_any p xs ≡ list_any q xs
  any-alike q alike [] = refl
  any-alike q alike (x ∷ xs) = ap₂ (λ (a b : Bool). a || b) (alike x) (any-alike q alike xs)

-- ---- lists that ascend

is_less : (o : Ordering) → is_lt o ≡ true → o ≡ Less
is_less Less e = refl
is_less Equal e = absurd (cc)
is_less Greater e = absurd (cc)

module _ {X : Type 0} (cmp : X → X → Ordering) (total : IsTotalOrder cmp) where
  -- each is greater than x
  abbrev After : X → List X → Type 0
  After x [] = ⊤
  After x (y ∷ ys) = (is_lt (cmp x y) ≡ true) × After x ys

  -- each is greater than those before it
  abbrev Ascends : List X → Type 0
  Ascends [] = ⊤
  Ascends (x ∷ xs) = After x xs × Ascends xs

  further : (x y : X) (zs : List X) → is_lt (cmp x y) ≡ true → After y zs → After x zs
  further x y [] l a = tt
  further x y (z ∷ zs) l a = (ap is_lt (total.trans x y z (is_less (cmp x y) l) (is_less (cmp y z) a.0)), further x y zs l a.1)

  not_before : (x y : X) → is_lt (cmp x y) ≡ true → is_lt (cmp y x) ≡ false
  not_before x y l = ap is_lt (total.antisymm y x ∙ ap ordering_reverse (is_less (cmp x y) l))

  not_itself : (x : X) → is_lt (cmp x x) ≡ false
  not_itself x = ap is_lt (tied_itself total x)

  none_less : (x : X) (ys : List X) → After x ys → list_any (λ z. is_lt (cmp z x)) ys ≡ false
  none_less x [] a = refl
  none_less x (y ∷ ys) a = let back = not_before x y a.0 in rw back (none_less x ys a.1)

  -- the first is the least
  first_least : (x : X) (ys : List X) → After x ys → list_any (λ z. is_lt (cmp z x)) (x ∷ ys) ≡ false
  first_least x ys a = let own = not_itself x in rw own (none_less x ys a)

  -- a test of what is greater than x
  beyond : (x : X) (p : X → Bool) (ys : List X) → After x ys → list_any (λ z. is_lt (cmp x z) && p z) ys ≡ list_any p ys
  beyond x p [] a = refl
  beyond x p (y ∷ ys) a = let here = a.0 in rw here (ap (λ r. p y || r) (beyond x p ys a.1))

  beyond_first : (x y : X) (p : X → Bool) (ys : List X) → is_lt (cmp x y) ≡ false → After x ys → list_any (λ z. is_lt (cmp x z) && p z) (y ∷ ys) ≡ list_any p ys
  beyond_first x y p ys own a = rw own (beyond x p ys a)

  module _ (T : X → Type 0) (tells : (x y : X) → T x → T y → is_lt (cmp x y) ≡ false → is_lt (cmp y x) ≡ false → x ≡ y) where
    -- two such lists of the same items are the same
    ascend_same : (xs ys : List X) → AllByRecursion T xs → AllByRecursion T ys → Ascends xs → Ascends ys → SameItems xs ys → xs ≡ ys
    ascend_same [] [] s t a b same = refl
    ascend_same [] (y ∷ ys) s t a b same = absurd (let no : false ≡ true = same (λ z. true) in cc)
    ascend_same (x ∷ xs) [] s t a b same = absurd (let no : true ≡ false = same (λ z. true) in cc)
    ascend_same (x ∷ xs) (y ∷ ys) s t a b same =
        let not_y = (or_none (is_lt (cmp x y)) _ (same (λ z. is_lt (cmp z y)) ∙ first_least y ys b.0)).0 in
        let not_x = (or_none (is_lt (cmp y x)) _ (sym (same (λ z. is_lt (cmp z x))) ∙ first_least x xs a.0)).0 in
        let first : x ≡ y = tells x y s.0 t.0 not_y not_x in
        let rest : SameItems xs ys =
        λ p. sym (beyond_first x x p xs (not_itself x) a.0) ∙ same (λ z. is_lt (cmp x z) && p z)
        ∙ beyond_first x y p ys not_y (subst (λ z. After z ys) (sym first) b.0) in
        ap₂ (λ (z : X) (zs : List X). z ∷ zs) first (ascend_same xs ys s.1 t.1 a.1 b.1 rest)

    module _ (same : X → X → Bool) (decides : (x y : X) → Decides (same x y) (x ≡ y)) where
      ascends_after : (x : X) (ys : List X) → T x → AllByRecursion T ys → Under cmp total x ys → Rises cmp total ys → After x (distinct_after same x ys) × Ascends (distinct_after same x ys)
      ascends_after x [] s t u r = (tt, tt)
      ascends_after x (y ∷ ys) s t u r =
          elim (cases_Bool (same x y)) [
            | inl e ↦ rw e (ascends_after x ys s t.1 u.1 r.1)
            | inr e ↦ (
                let here : is_lt (cmp x y) ≡ true =
                elim (cases_Bool (is_lt (cmp x y))) [
                  | inl l ↦ l
                  | inr l ↦ absurd (let is = (decides x y).1 (tells x y s t.0 l u.0) in cc)
                ] in
                let more = ascends_after y ys t.0 t.1 r.0 r.1 in
                rw e ((here, further x y (distinct_after same y ys) here more.0), more))
          ]

      ascends_distinct : (xs : List X) → AllByRecursion T xs → Rises cmp total xs → Ascends (distinct same xs)
      ascends_distinct [] t r = tt
      ascends_distinct (x ∷ xs) t r = ascends_after x xs t.0 t.1 r.0 r.1

      once_any : (p : X → Bool) (xs : List X) → list_any p (distinct same (in_order cmp xs)) ≡ list_any p xs
      once_any p xs = sym (holds_any p (distinct same (in_order cmp xs))) ∙ holds-distinct p false same decides (in_order cmp xs) ∙ holds-in_order p false cmp xs ∙ holds_any p xs

      -- the same items in order without repeats are one list
      once_same : (xs ys : List X) → AllByRecursion T xs → AllByRecursion T ys → SameItems xs ys → distinct same (in_order cmp xs) ≡ distinct same (in_order cmp ys)
      once_same xs ys s t alike =
          ascend_same (distinct same (in_order cmp xs)) (distinct same (in_order cmp ys)) (once_all T same cmp xs s) (once_all T same cmp ys t)
          (ascends_distinct (in_order cmp xs) (in_order_all T cmp xs s) (in_order_rises cmp total xs))
          (ascends_distinct (in_order cmp ys) (in_order_all T cmp ys t) (in_order_rises cmp total ys))
          (λ p. once_any p xs ∙ alike p ∙ sym (once_any p ys))

-- ---- operands of an `and` (true) or an `or` (false)

-- a test that the deciding constant passes, and the neutral one does not
abbrev seen : Bool → (Filter → Bool) → Filter → Bool
seen b p f = is_constant (not b) f || (not (is_constant b f) && p f)

-- no such test tells the lists apart
abbrev Alike : Bool → List Filter → List Filter → Type 0
Alike b xs ys = (p : Filter → Bool) → list_any (seen b p) xs ≡ list_any (seen b p) ys

-- of the constants a filter is one
one_constant : (b : Bool) (f : Filter) → is_constant b f ≡ true → is_constant (not b) f ≡ false
one_constant true (constant true) e = refl
one_constant true (constant false) e = absurd (cc)
one_constant false (constant true) e = absurd (cc)
one_constant false (constant false) e = refl
one_constant b (compared p op v) e = absurd (cc)
one_constant b (listed p vs) e = absurd (cc)
one_constant b (having p v) e = absurd (cc)
one_constant b (present p) e = absurd (cc)
one_constant b (negated f) e = absurd (cc)
one_constant b (every fs) e = absurd (cc)
one_constant b (some fs) e = absurd (cc)

seen_kept : (b : Bool) (p : Filter → Bool) (f : Filter) → (not (is_constant b f) && seen b p f) ≡ seen b p f
seen_kept b p f =
    elim (cases_Bool (is_constant b f)) [
      | inl e ↦ let other = one_constant b f e in rw (e, other) refl
      | inr e ↦ rw e refl
    ]

seen_neutral : (b : Bool) (p : Filter → Bool) → seen b p (constant b) ≡ false
seen_neutral true p = refl
seen_neutral false p = refl

seen_deciding : (b : Bool) (p : Filter → Bool) → seen b p (constant (not b)) ≡ true
seen_deciding true p = refl
seen_deciding false p = refl

and_none : (a : Bool) → (a && false) ≡ false
and_none true = refl
and_none false = refl

or_false : (a : Bool) → (a || false) ≡ a
or_false true = refl
or_false false = refl

-- the deciding constant is seen
any_deciding : (b : Bool) (xs : List Filter) → list_any (seen b (λ f. false)) xs ≡ list_any (is_constant (not b)) xs
any_deciding b xs =
    any-alike (seen b (λ f. false)) (is_constant (not b))
    (λ f. ap (λ r. is_constant (not b) f || r) (and_none (not (is_constant b f))) ∙ or_false (is_constant (not b) f)) xs

decided : (b : Bool) (p : Filter → Bool) (xs : List Filter) → list_any (is_constant (not b)) xs ≡ true → list_any (seen b p) xs ≡ true
decided b p [] e = absurd (cc)
decided b p (x ∷ xs) e =
    elim (cases_Bool (is_constant (not b) x)) [
      | inl is ↦ rw is refl
      | inr other ↦ (
          let more = decided b p xs (rw other at e) in
          ap (λ r. seen b p x || r) more ∙ or_true (seen b p x))
    ]
  where
    or_true : (a : Bool) → (a || true) ≡ true
    or_true true = refl
    or_true false = refl

-- where no constant decides, the others are seen
undecided : (b : Bool) (p : Filter → Bool) (xs : List Filter) → list_any (is_constant (not b)) xs ≡ false → list_any (λ f. not (is_constant b f) && p f) xs ≡ list_any (seen b p) xs
undecided b p [] e = refl
undecided b p (x ∷ xs) e =
    let (here, more) = or_none (is_constant (not b) x) (list_any (is_constant (not b)) xs) e in
    rw here (ap (λ r. (not (is_constant b x) && p x) || r) (undecided b p xs more))

-- filters that are joined are seen as the operands
joined_seen : (b : Bool) (t : Filter → Bool) (fs : List Filter) → t (constant b) ≡ false → AllByRecursion (IsOperand b) fs → list_any t (parts_of b (joined b fs)) ≡ list_any t fs
joined_seen true t [] none is = rw none refl
joined_seen false t [] none is = rw none refl
joined_seen b t (f ∷ []) none is = ap (list_any t) (part_itself b f is.0.1)
joined_seen true t (f ∷ g ∷ fs) none is = ap (list_any t) (operand_list-of (f ∷ g ∷ fs))
joined_seen false t (f ∷ g ∷ fs) none is = ap (list_any t) (operand_list-of (f ∷ g ∷ fs))

parts_of_constant : (b c : Bool) → parts_of b (constant c) ≡ constant c ∷ []
parts_of_constant true c = refl
parts_of_constant false c = refl

-- what is connected adds what its parts add
connected_seen : (b : Bool) (fs : List Filter) → AllByRecursion (IsPart b) fs → Alike b (parts_of b (connected b fs)) fs
connected_seen b fs is p =
    let kept = filter (λ f. not (is_constant b f)) fs in
    elim (cases_Bool (list_any (is_constant (not b)) fs)) [
      | inl e ↦ rw e (ap (list_any (seen b p)) (parts_of_constant b (not b)) ∙ ap (λ r. r || false) (seen_deciding b p) ∙ sym (decided b p fs e))
      | inr e ↦ rw e (
          joined_seen b (seen b p) (filters_once kept) (seen_neutral b p) (once_all (IsOperand b) same_filter text_cmp kept (kept_operands b fs is e))
          ∙ filters_seen kept
          ∙ any-filter (seen b p) (λ f. not (is_constant b f)) fs
          ∙ any-alike (λ f. not (is_constant b f) && seen b p f) (seen b p) (seen_kept b p) fs)
    ]
  where
    filters_seen : (xs : List Filter) → list_any (seen b p) (filters_once xs) ≡ list_any (seen b p) xs
    filters_seen xs =
        sym (holds_any (seen b p) (filters_once xs)) ∙ holds-distinct (seen b p) false same_filter same_filter-Decides (in_order text_cmp xs)
        ∙ holds-in_order (seen b p) false text_cmp xs ∙ holds_any (seen b p) xs

-- a filter that is not joined so adds its own parts
one_seen : (b : Bool) (f : Filter) → Alike b (parts_of b (normal_filter false f)) (flat_map (parts_of b) (normal_filter false f ∷ []))
one_seen b f p = ap (list_any (seen b p)) (sym (append-nil (parts_of b (normal_filter false f))))

mutual
  -- a normal form adds what its operands add
  forms_seen : (b : Bool) (f : Filter) → Alike b (parts_of b (normal_filter false f)) (flat_map (parts_of b) (forms b f))
  forms_seen true (every fs) p = connected_seen true (normal_parts false true fs) (parts_are_settled false true fs) p ∙ operands_seen true fs p
  forms_seen false (some fs) p = connected_seen false (normal_parts false false fs) (parts_are_settled false false fs) p ∙ operands_seen false fs p
  forms_seen true (constant c) p = one_seen true (constant c) p
  forms_seen true (compared k op v) p = one_seen true (compared k op v) p
  forms_seen true (listed k vs) p = one_seen true (listed k vs) p
  forms_seen true (having k v) p = one_seen true (having k v) p
  forms_seen true (present k) p = one_seen true (present k) p
  forms_seen true (negated f) p = one_seen true (negated f) p
  forms_seen true (some fs) p = one_seen true (some fs) p
  forms_seen false (constant c) p = one_seen false (constant c) p
  forms_seen false (compared k op v) p = one_seen false (compared k op v) p
  forms_seen false (listed k vs) p = one_seen false (listed k vs) p
  forms_seen false (having k v) p = one_seen false (having k v) p
  forms_seen false (present k) p = one_seen false (present k) p
  forms_seen false (negated f) p = one_seen false (negated f) p
  forms_seen false (every fs) p = one_seen false (every fs) p

  operands_seen : (b : Bool) (fs : Operands) → Alike b (normal_parts false b fs) (flat_map (parts_of b) (forms_of b fs))
  operands_seen b no_operands p = refl
  operands_seen b (operand f fs) p =
      any-append (seen b p) (parts_of b (normal_filter false f)) (normal_parts false b fs)
      ∙ ap₂ (λ (x y : Bool). x || y) (forms_seen b f p ∙ any-flat_map (seen b p) (parts_of b) (forms b f)) (operands_seen b fs p ∙ any-flat_map (seen b p) (parts_of b) (forms_of b fs))
      ∙ sym (any-append (λ g. list_any (seen b p) (parts_of b g)) (forms b f) (forms_of b fs))
      ∙ sym (any-flat_map (seen b p) (parts_of b) (forms b f ++ forms_of b fs))

-- what is settled is connected of its own parts
itself_connected : (b : Bool) (f : Filter) → Settled f → connected b (parts_of b f) ≡ f
itself_connected true (every fs) s = connected_itself true (operand_list fs) (settled_list true fs s.2) s.1 ∙ joined_many_and (operand_list fs) s.0 ∙ ap every (operands_of-list fs)
itself_connected false (some fs) s = connected_itself false (operand_list fs) (settled_list false fs s.2) s.1 ∙ joined_many_or (operand_list fs) s.0 ∙ ap some (operands_of-list fs)
itself_connected true (constant true) s = refl
itself_connected true (constant false) s = refl
itself_connected true (compared p op v) s = refl
itself_connected true (listed p vs) s = refl
itself_connected true (having p v) s = refl
itself_connected true (present p) s = refl
itself_connected true (negated f) s = refl
itself_connected true (some fs) s = refl
itself_connected false (constant true) s = refl
itself_connected false (constant false) s = refl
itself_connected false (compared p op v) s = refl
itself_connected false (listed p vs) s = refl
itself_connected false (having p v) s = refl
itself_connected false (present p) s = refl
itself_connected false (negated f) s = refl
itself_connected false (every fs) s = refl

all_filter : {X : Type 0} (P : X → Type 0) (r : X → Bool) (xs : List X) → AllByRecursion P xs → AllByRecursion P (filter r xs)
all_filter P r [] a = tt
all_filter P r (x ∷ xs) a =
    let rest = all_filter P r xs a.1 in
    elim (cases_Bool (r x)) [ inl e ↦ rw e (a.0, rest) | inr e ↦ rw e rest ]

-- T: filters that their texts tell apart
module _ (T : Filter → Type 0) (tells : (f g : Filter) → T f → T g → is_lt (text_cmp f g) ≡ false → is_lt (text_cmp g f) ≡ false → f ≡ g) where
  connected_same : (b : Bool) (xs ys : List Filter) → AllByRecursion T xs → AllByRecursion T ys → Alike b xs ys → connected b xs ≡ connected b ys
  connected_same b xs ys s t alike =
      let neutral = λ (f : Filter). not (is_constant b f) in
      let deciding : list_any (is_constant (not b)) xs ≡ list_any (is_constant (not b)) ys = sym (any_deciding b xs) ∙ alike (λ f. false) ∙ any_deciding b ys in
      elim (cases_Bool (list_any (is_constant (not b)) xs)) [
        | inl e ↦ (let f : list_any (is_constant (not b)) ys ≡ true = sym deciding ∙ e in rw (e, f) refl)
        | inr e ↦ (
            let f : list_any (is_constant (not b)) ys ≡ false = sym deciding ∙ e in
            let kept : SameItems (filter neutral xs) (filter neutral ys) =
            λ p. any-filter p neutral xs ∙ undecided b p xs e ∙ alike p ∙ sym (undecided b p ys f) ∙ sym (any-filter p neutral ys) in
            rw (e, f) (ap (joined b) (once_same text_cmp text_cmp_total T tells same_filter same_filter-Decides (filter neutral xs) (filter neutral ys) (all_filter T neutral xs s) (all_filter T neutral ys t) kept)))
      ]

  pub one_form : (b : Bool) (f g : Filter) → AllByRecursion T (parts_of b (normal_filter false f)) → AllByRecursion T (parts_of b (normal_filter false g)) → SameItems (forms b f) (forms b g)
      → normal_filter false f ≡ normal_filter false g
  one_form b f g s t same =
      let alike : Alike b (parts_of b (normal_filter false f)) (parts_of b (normal_filter false g)) =
      λ p. forms_seen b f p ∙ any-flat_map (seen b p) (parts_of b) (forms b f) ∙ same (λ h. list_any (seen b p) (parts_of b h)) ∙ sym (any-flat_map (seen b p) (parts_of b) (forms b g)) ∙ sym (forms_seen b g p) in
      sym (itself_connected b (normal_filter false f) (normal_settled false f))
      ∙ connected_same b (parts_of b (normal_filter false f)) (parts_of b (normal_filter false g)) s t alike
      ∙ itself_connected b (normal_filter false g) (normal_settled false g)
