-- Results that are told by versions or by ids.
use Rattle.std.proofs.Common.{◌≡◌, ℕ, zero, suc, min, Bool, ◌==◌, ◌&&◌, true, false, eqb, List, [], ◌∷◌, length, drop, refl, sym, ap, ap₂, ◌∙◌, subst, arith}
use Rattle.std.specs.Bool.{Decides}
use Rattle.std.specs.List.{AllByRecursion, Contains}
use Rattle.std.specs.Str.{bytes_eq}
use Rattle.std.specs.Cmp.Lexicographic.{pointwise}
use Rattle.std.proofs.lemmas.Bool.{and_parts}
use Rattle.std.proofs.lemmas.List.Elements.{recursion_from_All, All-contains_itself}
use Rattle.std.proofs.lemmas.Bool.Decides.{Decides-eqb, nat_tests}
use Rattle.std.proofs.lemmas.Slice.Eq.{bytes_eq-Decides}
use Rattle.query_core.specs.declared.query.Kind.{Kind}
use Rattle.query_core.specs.declared.query.Kind.TheVariants.{Objects, Ids}
use Rattle.query_core.specs.Window.{Row}
use Rattle.result_kinds.specs.Results.{objects, ids, ids_of, result_of, text_of_result}
use Rattle.result_kinds.specs.Same.{same_id, same_version, same_result, AreOfOneStore}

-- ---- rows of one store, by versions

versions_equal : (P Q : Row → Type 0) → ((x y : Row) → P x → Q y → x.0 ≡ y.0 → x.1 ≡ y.1 → x ≡ y) → (xs ys : List Row) → AllByRecursion P xs → AllByRecursion Q ys
    → pointwise same_version xs ys ≡ true → xs ≡ ys
versions_equal P Q one [] [] p q h = refl
versions_equal P Q one [] (y ∷ ys) p q h = absurd (cc)
versions_equal P Q one (x ∷ xs) [] p q h = absurd (cc)
versions_equal P Q one (x ∷ xs) (y ∷ ys) p q h =
    let parts = and_parts (same_version x y) (pointwise same_version xs ys) h in
    let tests = and_parts (x.1 == y.1) (bytes_eq x.0 y.0) parts.0 in
    let head : x ≡ y = one x y p.0 q.0 ((bytes_eq-Decides x.0 y.0).0 tests.1) ((Decides-eqb x.1 y.1).0 tests.0) in
    let rest : xs ≡ ys = versions_equal P Q one xs ys p.1 q.1 parts.1 in
    ap₂ (λ z zs. z ∷ zs) head rest

versions_own : (xs : List Row) → pointwise same_version xs xs ≡ true
versions_own [] = refl
versions_own (x ∷ xs) = ap₂ (λ a b. a && b) (ap₂ (λ a b. a && b) ((Decides-eqb x.1 x.1).1 refl) ((bytes_eq-Decides x.0 x.0).1 refl)) (versions_own xs)

contains_each : (xs : List Row) → AllByRecursion (Contains xs) xs
contains_each xs = recursion_from_All (Contains xs) xs (All-contains_itself xs)

-- ---- ids

ids_equal : (xs ys : List Row) → pointwise same_id xs ys ≡ true → ids_of xs ≡ ids_of ys
ids_equal [] [] h = refl
ids_equal [] (y ∷ ys) h = absurd (cc)
ids_equal (x ∷ xs) [] h = absurd (cc)
ids_equal (x ∷ xs) (y ∷ ys) h =
    let parts = and_parts (same_id x y) (pointwise same_id xs ys) h in
    ap₂ (λ z zs. z ∷ zs) ((bytes_eq-Decides x.0 y.0).0 parts.0) (ids_equal xs ys parts.1)

ids_own : (xs ys : List Row) → ids_of xs ≡ ids_of ys → pointwise same_id xs ys ≡ true
ids_own [] [] e = refl
ids_own [] (y ∷ ys) e = absurd (cc)
ids_own (x ∷ xs) [] e = absurd (cc)
ids_own (x ∷ xs) (y ∷ ys) e =
    let head : x.0 ≡ y.0 = cc in
    let rest : ids_of xs ≡ ids_of ys = cc in
    ap₂ (λ a b. a && b) ((bytes_eq-Decides x.0 y.0).1 head) (ids_own xs ys rest)

-- ---- results

-- the test decides whether two results of one store are equal
pub results_told : (kind : Kind) (a b : List Row) → AreOfOneStore a b → Decides (same_result kind a b) (result_of kind a ≡ result_of kind b)
results_told Objects a b one = (
  λ h. ap objects (versions_equal (Contains a) (Contains b) one a b (contains_each a) (contains_each b) h),
  λ e. let same : a ≡ b = cc in subst (λ (ys : List Row). pointwise same_version a ys ≡ true) same (versions_own a),
)
results_told Ids a b one = (
  λ h. ap ids (ids_equal a b h),
  λ e. let same : ids_of a ≡ ids_of b = cc in ids_own a b same,
)

-- equal results have equal texts
pub texts_equal : (kind : Kind) (a b : List Row) → AreOfOneStore a b → same_result kind a b ≡ true → text_of_result (result_of kind a) ≡ text_of_result (result_of kind b)
texts_equal kind a b one h = ap text_of_result ((results_told kind a b one).0 h)

-- ---- the end of two lists

eqb-above : (n : ℕ) → eqb 0 (suc n) ≡ false
eqb-above n = grind (arith, nat_tests)

eqb-below : (n : ℕ) → eqb (suc n) 0 ≡ false
eqb-below n = grind (arith, nat_tests)

eqb-suc : (m n : ℕ) → eqb m n ≡ eqb (suc m) (suc n)
eqb-suc m n = grind (arith, nat_tests)

-- where the shorter list is at its end, the lengths decide
pub pairs_end : (test : Row → Row → Bool) (n : ℕ) (xs ys : List Row) → n ≡ min (length xs) (length ys) → pointwise test (drop n xs) (drop n ys) ≡ eqb (length xs) (length ys)
pairs_end test zero [] [] e = refl
pairs_end test zero [] (y ∷ ys) e = sym (eqb-above (length ys))
pairs_end test zero (x ∷ xs) [] e = sym (eqb-below (length xs))
pairs_end test zero (x ∷ xs) (y ∷ ys) e = absurd (omega arith)
pairs_end test (suc n) [] ys e = absurd (omega arith)
pairs_end test (suc n) (x ∷ xs) [] e = absurd (omega arith)
pairs_end test (suc n) (x ∷ xs) (y ∷ ys) e = pairs_end test n xs ys (omega arith) ∙ eqb-suc (length xs) (length ys)
