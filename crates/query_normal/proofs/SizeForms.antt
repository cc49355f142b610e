-- A normal form is a filter of the language where the filter is, and no larger.
use Rattle.std.proofs.Common.{◌≡◌, ℕ, suc, ◌+◌, ◌≤◌, Bool, true, false, not, List, [], ◌∷◌, ◌++◌, length, Ordering, inl, inr, refl, sym, ap, ◌∙◌, arith}
use Rattle.std.specs.List.{list_any, filter, fold, AllByRecursion}
use Rattle.std.specs.Ordering.{is_lt}
use Rattle.std.proofs.lemmas.Bool.{cases_Bool}
use Rattle.std.proofs.lemmas.List.Elements.{All-from_recursion, recursion_from_All}
use Rattle.q_doc.specs.Tree.{Tree}
use Rattle.q_doc.specs.Order.{tree_cmp}
use Rattle.query_core.specs.Filters.{Filter, constant, compared, listed, having, present, negated, every, some, Operands, no_operands, operand, operands_of, operand_list, height, operands_height}
use Rattle.query_core.specs.Limits.{leaves, operands_leaves, IsScalar, IsUtf8Path, IsFilter, AreFilters}
use Rattle.query_core.specs.Meaning.{same_value}
use Rattle.query_core.specs.Same.{same_filter}
use Rattle.query_core.specs.Window.{placed, in_order}
use Rattle.query_normal.specs.Normal.{distinct_after, distinct, text_cmp, filters_once, values_once, one_of, signed, parts_of, is_constant, joined, connected, normal_filter, normal_parts}
use Rattle.query_normal.proofs.NormalMeaning.{operand_list-of}
use Rattle.query_normal.proofs.OnceLemmas.{once_all}
use Rattle.query_normal.proofs.Settled.{Settled, AreSettled, normal_settled}

-- ---- sums over lists

module _ {X : Type 0} (size : X → ℕ) where
  abbrev pub total : List X → ℕ
  total [] = 0
  total (x ∷ xs) = size x + total xs

  pub total-append : (xs ys : List X) → total (xs ++ ys) ≡ total xs + total ys
  total-append [] ys = omega arith
  total-append (x ∷ xs) ys = let rest = total-append xs ys in omega (arith, rest)

  total-placed : (cmp : X → X → Ordering) (xs : List X) (new : X) → total (placed cmp xs new) ≡ size new + total xs
  total-placed cmp [] new = refl
  total-placed cmp (x ∷ xs) new =
      let rest = total-placed cmp xs new in
      elim (cases_Bool (is_lt (cmp new x))) [ inl e ↦ rw e refl | inr e ↦ rw e (omega (arith, rest)) ]

  total-fold : (cmp : X → X → Ordering) (xs ys : List X) → total (fold (placed cmp) ys xs) ≡ total xs + total ys
  total-fold cmp [] ys = omega arith
  total-fold cmp (x ∷ xs) ys = let rest = total-fold cmp xs (placed cmp ys x) in let first = total-placed cmp ys x in omega (arith, rest, first)

  total-after : (same : X → X → Bool) (x : X) (ys : List X) → total (distinct_after same x ys) ≤ total ys
  total-after same x [] = omega arith
  total-after same x (y ∷ ys) =
      let here = total-after same x ys in
      let next = total-after same y ys in
      elim (cases_Bool (same x y)) [ inl e ↦ rw e (omega (arith, here)) | inr e ↦ rw e (omega (arith, next)) ]

  total-distinct : (same : X → X → Bool) (xs : List X) → total (distinct same xs) ≤ total xs
  total-distinct same [] = omega arith
  total-distinct same (x ∷ xs) = let rest = total-after same x xs in omega (arith, rest)

  -- a list in order without repeats is no larger
  pub total-once : (same : X → X → Bool) (cmp : X → X → Ordering) (xs : List X) → total (distinct same (in_order cmp xs)) ≤ total xs
  total-once same cmp xs = let sum = total-fold cmp xs [] in let less = total-distinct same (in_order cmp xs) in omega (arith, sum, less)

  pub total-filter : (r : X → Bool) (xs : List X) → total (filter r xs) ≤ total xs
  total-filter r [] = omega arith
  total-filter r (x ∷ xs) =
      let rest = total-filter r xs in
      elim (cases_Bool (r x)) [ inl e ↦ rw e (omega (arith, rest)) | inr e ↦ rw e (omega (arith, rest)) ]

-- the number of values
count_is : (vs : List Tree) → total (λ v. 1) vs ≡ length vs
count_is [] = refl
count_is (v ∷ vs) = let rest = count_is vs in omega (arith, rest)

values_fewer : (vs : List Tree) → length (values_once vs) ≤ length vs
values_fewer vs =
    let less = total-once (λ (v : Tree). 1) same_value tree_cmp vs in
    let before = count_is vs in let after = count_is (values_once vs) in omega (arith, less, before, after)

-- ---- leaves

list_leaves : (fs : Operands) → total leaves (operand_list fs) ≡ operands_leaves fs
list_leaves no_operands = refl
list_leaves (operand f fs) = let rest = list_leaves fs in omega (arith, rest)

of_leaves : (fs : List Filter) → operands_leaves (operands_of fs) ≡ total leaves fs
of_leaves fs = sym (list_leaves (operands_of fs)) ∙ ap (total leaves) (operand_list-of fs)

mutual
  settled_leaves : (f : Filter) → Settled f → 1 ≤ leaves f
  settled_leaves (constant b) s = omega arith
  settled_leaves (compared p op v) s = omega arith
  settled_leaves (listed p vs) s = omega arith
  settled_leaves (having p v) s = omega arith
  settled_leaves (present p) s = omega arith
  settled_leaves (negated f) s = settled_leaves f s.1
  settled_leaves (every fs) s = operands_leave true fs s.2 (let h = s.0 in omega (arith, h))
  settled_leaves (some fs) s = operands_leave false fs s.2 (let h = s.0 in omega (arith, h))

  operands_leave : (b : Bool) (fs : Operands) → AreSettled b fs → 1 ≤ length (operand_list fs) → 1 ≤ operands_leaves fs
  operands_leave b no_operands s h = absurd (omega arith)
  operands_leave b (operand f fs) s h = let first = settled_leaves f s.0.0 in omega (arith, first)

pub parts_leaves : (b : Bool) (f : Filter) → total leaves (parts_of b f) ≡ leaves f
parts_leaves true (every fs) = list_leaves fs
parts_leaves true (constant c) = omega arith
parts_leaves true (compared p op v) = omega arith
parts_leaves true (listed p vs) = omega arith
parts_leaves true (having p v) = omega arith
parts_leaves true (present p) = omega arith
parts_leaves true (negated f) = omega arith
parts_leaves true (some fs) = omega arith
parts_leaves false (some fs) = list_leaves fs
parts_leaves false (constant c) = omega arith
parts_leaves false (compared p op v) = omega arith
parts_leaves false (listed p vs) = omega arith
parts_leaves false (having p v) = omega arith
parts_leaves false (present p) = omega arith
parts_leaves false (negated f) = omega arith
parts_leaves false (every fs) = omega arith

joined_leaves : (b : Bool) (fs : List Filter) (n : ℕ) → total leaves fs ≤ n → 1 ≤ n → leaves (joined b fs) ≤ n
joined_leaves b [] n h k = omega (arith, k)
joined_leaves b (f ∷ []) n h k = omega (arith, h)
joined_leaves true (f ∷ g ∷ fs) n h k = let sum = of_leaves (f ∷ g ∷ fs) in omega (arith, sum, h)
joined_leaves false (f ∷ g ∷ fs) n h k = let sum = of_leaves (f ∷ g ∷ fs) in omega (arith, sum, h)

connected_leaves : (b : Bool) (fs : List Filter) → 1 ≤ total leaves fs → leaves (connected b fs) ≤ total leaves fs
connected_leaves b fs h =
    let kept = filter (λ f. not (is_constant b f)) fs in
    elim (cases_Bool (list_any (is_constant (not b)) fs)) [
      | inl e ↦ rw e h
      | inr e ↦ rw e (
          let less = total-once leaves same_filter text_cmp kept in
          let fewer = total-filter leaves (λ f. not (is_constant b f)) fs in
          joined_leaves b (filters_once kept) (total leaves fs) (omega (arith, less, fewer)) h)
    ]

one_of_leaves : (p : List (List ℕ)) (vs : List Tree) → leaves (one_of p vs) ≤ 1 + length vs
one_of_leaves p [] = omega arith
one_of_leaves p (v ∷ []) = omega arith
one_of_leaves p (v ∷ w ∷ vs) = omega arith

signed_leaves : (n : Bool) (f : Filter) → leaves (signed n f) ≡ leaves f
signed_leaves false f = refl
signed_leaves true (constant b) = refl
signed_leaves true (compared p op v) = refl
signed_leaves true (listed p vs) = refl
signed_leaves true (having p v) = refl
signed_leaves true (present p) = refl
signed_leaves true (negated f) = refl
signed_leaves true (every fs) = refl
signed_leaves true (some fs) = refl

mutual
  -- the leaves do not grow
  pub normal_leaves : (n : Bool) (f : Filter) → IsFilter f → leaves (normal_filter n f) ≤ leaves f
  normal_leaves n (constant b) is = let e = signed_leaves n (constant b) in omega (arith, e)
  normal_leaves n (compared p op v) is = let e = signed_leaves n (compared p op v) in omega (arith, e)
  normal_leaves n (listed p vs) is =
      let e = signed_leaves n (one_of p (values_once vs)) in
      let few = one_of_leaves p (values_once vs) in
      let fewer = values_fewer vs in
      omega (arith, e, few, fewer)
  normal_leaves n (having p v) is = let e = signed_leaves n (having p v) in omega (arith, e)
  normal_leaves n (present p) is = let e = signed_leaves n (present p) in omega (arith, e)
  normal_leaves n (negated f) is = normal_leaves (not n) f is
  normal_leaves n (every fs) is =
      let some_parts = parts_some n (not n) fs (let two = is.0 in omega (arith, two)) in
      let less = parts_fewer n (not n) fs is.1 in
      let joint = connected_leaves (not n) (normal_parts n (not n) fs) some_parts in
      omega (arith, less, joint)
  normal_leaves n (some fs) is =
      let some_parts = parts_some n n fs (let two = is.0 in omega (arith, two)) in
      let less = parts_fewer n n fs is.1 in
      let joint = connected_leaves n (normal_parts n n fs) some_parts in
      omega (arith, less, joint)

  parts_fewer : (n b : Bool) (fs : Operands) → AreFilters fs → total leaves (normal_parts n b fs) ≤ operands_leaves fs
  parts_fewer n b no_operands is = omega arith
  parts_fewer n b (operand f fs) is =
      let sum = total-append leaves (parts_of b (normal_filter n f)) (normal_parts n b fs) in
      let own = parts_leaves b (normal_filter n f) in
      let less = normal_leaves n f is.0 in
      let rest = parts_fewer n b fs is.1 in
      omega (arith, sum, own, less, rest)

  parts_some : (n b : Bool) (fs : Operands) → 1 ≤ length (operand_list fs) → 1 ≤ total leaves (normal_parts n b fs)
  parts_some n b no_operands h = absurd (omega arith)
  parts_some n b (operand f fs) h =
      let sum = total-append leaves (parts_of b (normal_filter n f)) (normal_parts n b fs) in
      let own = parts_leaves b (normal_filter n f) in
      let first = settled_leaves (normal_filter n f) (normal_settled n f) in
      omega (arith, sum, own, first)

-- ---- heights

-- each is at most this high
abbrev pub AreLow : ℕ → List Filter → Type 0
AreLow h fs = AllByRecursion (λ f. height f ≤ h) fs

low_list : (h : ℕ) (fs : Operands) → operands_height fs ≤ h → AreLow h (operand_list fs)
low_list h no_operands l = tt
low_list h (operand f fs) l = (omega (arith, l), low_list h fs (omega (arith, l)))

low_operands : (h : ℕ) (fs : List Filter) → AreLow h fs → operands_height (operands_of fs) ≤ h
low_operands h [] l = omega arith
low_operands h (f ∷ fs) l = let first = l.0 in let rest = low_operands h fs l.1 in omega (arith, first, rest)

pub parts_low : (b : Bool) (h : ℕ) (f : Filter) → height f ≤ h → AreLow h (parts_of b f)
parts_low true h (every fs) l = low_list h fs (omega (arith, l))
parts_low true h (constant c) l = (l, tt)
parts_low true h (compared p op v) l = (l, tt)
parts_low true h (listed p vs) l = (l, tt)
parts_low true h (having p v) l = (l, tt)
parts_low true h (present p) l = (l, tt)
parts_low true h (negated f) l = (l, tt)
parts_low true h (some fs) l = (l, tt)
parts_low false h (some fs) l = low_list h fs (omega (arith, l))
parts_low false h (constant c) l = (l, tt)
parts_low false h (compared p op v) l = (l, tt)
parts_low false h (listed p vs) l = (l, tt)
parts_low false h (having p v) l = (l, tt)
parts_low false h (present p) l = (l, tt)
parts_low false h (negated f) l = (l, tt)
parts_low false h (every fs) l = (l, tt)

joined_low : (b : Bool) (h : ℕ) (fs : List Filter) → AreLow h fs → height (joined b fs) ≤ suc h
joined_low b h [] l = omega arith
joined_low b h (f ∷ []) l = let first = l.0 in omega (arith, first)
joined_low true h (f ∷ g ∷ fs) l = let low = low_operands h (f ∷ g ∷ fs) l in omega (arith, low)
joined_low false h (f ∷ g ∷ fs) l = let low = low_operands h (f ∷ g ∷ fs) l in omega (arith, low)

filter_each : {X : Type 0} (P : X → Type 0) (r : X → Bool) (xs : List X) → AllByRecursion P xs → AllByRecursion P (filter r xs)
filter_each P r [] a = tt
filter_each P r (x ∷ xs) a =
    let rest = filter_each P r xs a.1 in
    elim (cases_Bool (r x)) [ inl e ↦ rw e (a.0, rest) | inr e ↦ rw e rest ]

connected_low : (b : Bool) (h : ℕ) (fs : List Filter) → AreLow h fs → height (connected b fs) ≤ suc h
connected_low b h fs l =
    let kept = filter (λ f. not (is_constant b f)) fs in
    elim (cases_Bool (list_any (is_constant (not b)) fs)) [
      | inl e ↦ rw e (omega arith)
      | inr e ↦ rw e (
          joined_low b h (filters_once kept)
          (once_all (λ f. height f ≤ h) same_filter text_cmp kept (filter_each (λ f. height f ≤ h) (λ f. not (is_constant b f)) fs l)))
    ]

-- one more where it is negated
abbrev allowed : Bool → ℕ → ℕ
allowed false h = h
allowed true h = suc h

allowed_not : (n : Bool) (h : ℕ) → allowed (not n) h ≤ allowed n (suc h)
allowed_not true h = omega arith
allowed_not false h = omega arith

allowed_more : (n : Bool) (g h : ℕ) → g ≤ h → allowed n g ≤ allowed n h
allowed_more true g h l = omega (arith, l)
allowed_more false g h l = l

allowed_suc : (n : Bool) (h : ℕ) → suc (allowed n h) ≡ allowed n (suc h)
allowed_suc true h = refl
allowed_suc false h = refl

one_of_low : (p : List (List ℕ)) (vs : List Tree) → height (one_of p vs) ≡ 1
one_of_low p [] = refl
one_of_low p (v ∷ []) = refl
one_of_low p (v ∷ w ∷ vs) = refl

signed_low : (n : Bool) (f : Filter) → height f ≡ 1 → height (signed n f) ≤ allowed n 1
signed_low false f e = omega (arith, e)
signed_low true (constant b) e = omega arith
signed_low true (compared p op v) e = omega arith
signed_low true (listed p vs) e = omega arith
signed_low true (having p v) e = omega arith
signed_low true (present p) e = omega arith
signed_low true (negated f) e = omega (arith, e)
signed_low true (every fs) e = omega (arith, e)
signed_low true (some fs) e = omega (arith, e)

each_append : {X : Type 0} (P : X → Type 0) (xs ys : List X) → AllByRecursion P xs → AllByRecursion P ys → AllByRecursion P (xs ++ ys)
each_append P [] ys a b = b
each_append P (x ∷ xs) ys a b = (a.0, each_append P xs ys a.1 b)

mutual
  -- the height does not grow, but for the negation
  pub normal_low : (n : Bool) (f : Filter) → height (normal_filter n f) ≤ allowed n (height f)
  normal_low n (constant b) = signed_low n (constant b) refl
  normal_low n (compared p op v) = signed_low n (compared p op v) refl
  normal_low n (listed p vs) = signed_low n (one_of p (values_once vs)) (one_of_low p (values_once vs))
  normal_low n (having p v) = signed_low n (having p v) refl
  normal_low n (present p) = signed_low n (present p) refl
  normal_low n (negated f) = let low = normal_low (not n) f in let more = allowed_not n (height f) in omega (arith, low, more)
  normal_low n (every fs) =
      let low = connected_low (not n) (allowed n (operands_height fs)) (normal_parts n (not n) fs) (parts_are_low n (not n) (operands_height fs) fs (omega arith)) in
      let e = allowed_suc n (operands_height fs) in omega (arith, low, e)
  normal_low n (some fs) =
      let low = connected_low n (allowed n (operands_height fs)) (normal_parts n n fs) (parts_are_low n n (operands_height fs) fs (omega arith)) in
      let e = allowed_suc n (operands_height fs) in omega (arith, low, e)

  parts_are_low : (n b : Bool) (h : ℕ) (fs : Operands) → operands_height fs ≤ h → AreLow (allowed n h) (normal_parts n b fs)
  parts_are_low n b h no_operands l = tt
  parts_are_low n b h (operand f fs) l =
      let first = normal_low n f in
      let more = allowed_more n (height f) h (omega (arith, l)) in
      each_append (λ g. height g ≤ allowed n h) (parts_of b (normal_filter n f)) (normal_parts n b fs)
      (parts_low b (allowed n h) (normal_filter n f) (omega (arith, first, more)))
      (parts_are_low n b h fs (omega (arith, l)))

-- ---- filters of the language

filters_list : (fs : Operands) → AreFilters fs → AllByRecursion IsFilter (operand_list fs)
filters_list no_operands is = tt
filters_list (operand f fs) is = (is.0, filters_list fs is.1)

filters_operands : (fs : List Filter) → AllByRecursion IsFilter fs → AreFilters (operands_of fs)
filters_operands [] is = tt
filters_operands (f ∷ fs) is = (is.0, filters_operands fs is.1)

pub parts_filters : (b : Bool) (f : Filter) → IsFilter f → AllByRecursion IsFilter (parts_of b f)
parts_filters true (every fs) is = filters_list fs is.1
parts_filters true (constant c) is = (is, tt)
parts_filters true (compared p op v) is = (is, tt)
parts_filters true (listed p vs) is = (is, tt)
parts_filters true (having p v) is = (is, tt)
parts_filters true (present p) is = (is, tt)
parts_filters true (negated f) is = (is, tt)
parts_filters true (some fs) is = (is, tt)
parts_filters false (some fs) is = filters_list fs is.1
parts_filters false (constant c) is = (is, tt)
parts_filters false (compared p op v) is = (is, tt)
parts_filters false (listed p vs) is = (is, tt)
parts_filters false (having p v) is = (is, tt)
parts_filters false (present p) is = (is, tt)
parts_filters false (negated f) is = (is, tt)
parts_filters false (every fs) is = (is, tt)

joined_filter : (b : Bool) (fs : List Filter) → AllByRecursion IsFilter fs → IsFilter (joined b fs)
joined_filter b [] is = tt
joined_filter b (f ∷ []) is = is.0
joined_filter true (f ∷ g ∷ fs) is = (let long = ap length (operand_list-of (f ∷ g ∷ fs)) in omega (arith, long), filters_operands (f ∷ g ∷ fs) is)
joined_filter false (f ∷ g ∷ fs) is = (let long = ap length (operand_list-of (f ∷ g ∷ fs)) in omega (arith, long), filters_operands (f ∷ g ∷ fs) is)

connected_filter : (b : Bool) (fs : List Filter) → AllByRecursion IsFilter fs → IsFilter (connected b fs)
connected_filter b fs is =
    let kept = filter (λ f. not (is_constant b f)) fs in
    elim (cases_Bool (list_any (is_constant (not b)) fs)) [
      | inl e ↦ rw e tt
      | inr e ↦ rw e (
          joined_filter b (filters_once kept) (once_all IsFilter same_filter text_cmp kept (filter_each IsFilter (λ f. not (is_constant b f)) fs is)))
    ]

one_of_filter : (p : List (List ℕ)) (vs : List Tree) → IsUtf8Path p → AllByRecursion IsScalar vs → IsFilter (one_of p vs)
one_of_filter p [] path is = tt
one_of_filter p (v ∷ []) path is = (path, is.0)
one_of_filter p (v ∷ w ∷ vs) path is = (path, All-from_recursion IsScalar (v ∷ w ∷ vs) is)

signed_filter : (n : Bool) (f : Filter) → IsFilter f → IsFilter (signed n f)
signed_filter false f is = is
signed_filter true (constant b) is = tt
signed_filter true (compared p op v) is = is
signed_filter true (listed p vs) is = is
signed_filter true (having p v) is = is
signed_filter true (present p) is = is
signed_filter true (negated f) is = is
signed_filter true (every fs) is = is
signed_filter true (some fs) is = is

mutual
  -- it stays a filter of the language
  pub normal_is_filter : (n : Bool) (f : Filter) → IsFilter f → IsFilter (normal_filter n f)
  normal_is_filter n (constant b) is = signed_filter n (constant b) is
  normal_is_filter n (compared p op v) is = signed_filter n (compared p op v) is
  normal_is_filter n (listed p vs) is =
      signed_filter n (one_of p (values_once vs))
      (one_of_filter p (values_once vs) is.0 (once_all IsScalar same_value tree_cmp vs (recursion_from_All IsScalar vs is.1)))
  normal_is_filter n (having p v) is = signed_filter n (having p v) is
  normal_is_filter n (present p) is = signed_filter n (present p) is
  normal_is_filter n (negated f) is = normal_is_filter (not n) f is
  normal_is_filter n (every fs) is = connected_filter (not n) (normal_parts n (not n) fs) (parts_are_filters n (not n) fs is.1)
  normal_is_filter n (some fs) is = connected_filter n (normal_parts n n fs) (parts_are_filters n n fs is.1)

  parts_are_filters : (n b : Bool) (fs : Operands) → AreFilters fs → AllByRecursion IsFilter (normal_parts n b fs)
  parts_are_filters n b no_operands is = tt
  parts_are_filters n b (operand f fs) is =
      each_append IsFilter (parts_of b (normal_filter n f)) (normal_parts n b fs)
      (parts_filters b (normal_filter n f) (normal_is_filter n f is.0)) (parts_are_filters n b fs is.1)
