-- On what a window depends.
use Rattle.std.proofs.Common.{◌≡◌, ℕ, zero, suc, List, [], ◌∷◌, map, take, drop, Bool, true, false, not, ◌&&◌, inl, inr, Less, Equal, Greater, Ordering, refl, sym, ap, ◌∙◌}
use Rattle.std.specs.Ordering.{is_lt, is_eq, ordering_reverse, ordering_then, nat_cmp}
use Rattle.std.specs.Cmp.Lexicographic.{slice_cmp}
use Rattle.std.specs.List.{filter, AllByRecursion, Contains}
use Rattle.std.specs.Str.{bytes_eq}
use Rattle.std.proofs.lemmas.Bool.{cases_Bool}
use Rattle.std.proofs.lemmas.List.Elements.{recursion_from_All, All-contains_itself}
use Rattle.std.proofs.lemmas.Map.Text.{is_eq-slice_cmp}
use Rattle.query_core.specs.declared.query.Query.{Query}
use Rattle.query_core.specs.Meaning.{satisfies}
use Rattle.query_core.specs.Window.{Row, Order, paths_cmp, rows_cmp, matches, window}
use Rattle.query_core.proofs.Rising.{tied, in_order_alike, in_order_all}
use Rattle.query_core.proofs.RowOrder.{rows_cmp_total}

-- ---- rows that tie have one id

then_Equal : (p o : Ordering) → ordering_then p o ≡ Equal → o ≡ Equal
then_Equal Less o e = absurd (cc)
then_Equal Equal o e = e
then_Equal Greater o e = absurd (cc)

tie_is_Equal : (o p : Ordering) → p ≡ ordering_reverse o → (not (is_lt o) && not (is_lt p)) ≡ true → o ≡ Equal
tie_is_Equal Less p e h = absurd (cc)
tie_is_Equal Equal p e h = refl
tie_is_Equal Greater p e h = absurd (let k : (not (is_lt p)) ≡ false = ap (λ x. not (is_lt x)) e in cc)

pub tied_ids : (order : Order) (a b : Row) → tied (rows_cmp order) (rows_cmp_total order) a b ≡ true → bytes_eq a.0 b.0 ≡ true
tied_ids order a b h =
    let e = tie_is_Equal (rows_cmp order a b) (rows_cmp order b a) ((rows_cmp_total order).antisymm b a) h in
    let ids = then_Equal (paths_cmp order a.2 b.2) (slice_cmp nat_cmp a.0 b.0) e in
    sym (is_eq-slice_cmp a.0 b.0) ∙ ap is_eq ids

-- ---- a test that only items of one id pass

filter_narrow : {X : Type 0} (t s p : X → Bool) → ((x : X) → t x ≡ true → s x ≡ true) → (xs : List X) → filter t (filter p xs) ≡ filter t (filter p (filter s xs))
filter_narrow t s p h [] = refl
filter_narrow t s p h (x ∷ xs) =
    let rest = filter_narrow t s p h xs in
    elim (cases_Bool (p x)) [
      | inl e ↦ elim (cases_Bool (t x)) [
        | inl f ↦ let g : s x ≡ true = h x f in rw (e, f, g, e, f) (ap (λ l. x ∷ l) rest)
        | inr f ↦ elim (cases_Bool (s x)) [ inl g ↦ rw (e, f, g, e, f) rest | inr g ↦ rw (e, f, g) rest ]
      ]
      | inr e ↦ elim (cases_Bool (s x)) [ inl g ↦ rw (e, g, e) rest | inr g ↦ rw (e, g) rest ]
    ]

pub matches_alike : (q : Query) (docs others : List Row) → ((id : List ℕ) → filter (λ (row : Row). bytes_eq id row.0) docs ≡ filter (λ (row : Row). bytes_eq id row.0) others) → matches q docs ≡ matches q others
matches_alike q docs others h =
    let p : Row → Bool = λ row. satisfies q.filter row.2 in
    in_order_alike (rows_cmp q.order) (rows_cmp_total q.order) (filter p docs) (filter p others)
    (λ z. let t : Row → Bool = tied (rows_cmp q.order) (rows_cmp_total q.order) z in
    let s : Row → Bool = λ row. bytes_eq z.0 row.0 in
    filter_narrow t s p (tied_ids q.order z) docs ∙ ap (λ l. filter t (filter p l)) (h z.0) ∙ sym (filter_narrow t s p (tied_ids q.order z) others))

pub window_alike : (q : Query) (docs others : List Row) → ((id : List ℕ) → filter (λ (row : Row). bytes_eq id row.0) docs ≡ filter (λ (row : Row). bytes_eq id row.0) others) → window q docs ≡ window q others
window_alike q docs others h = ap (λ l. take q.take (drop q.skip l)) (matches_alike q docs others h)

-- ---- what holds of each document holds of each row of a window

module _ {X : Type 0} (P : X → Type 0) where
  filter_all : (p : X → Bool) (xs : List X) → AllByRecursion P xs → AllByRecursion P (filter p xs)
  filter_all p [] h = tt
  filter_all p (x ∷ xs) h = elim (cases_Bool (p x)) [ inl e ↦ rw e (h.0, filter_all p xs h.1) | inr e ↦ rw e (filter_all p xs h.1) ]

  drop_all : (n : ℕ) (xs : List X) → AllByRecursion P xs → AllByRecursion P (drop n xs)
  drop_all zero xs h = h
  drop_all (suc n) [] h = tt
  drop_all (suc n) (x ∷ xs) h = drop_all n xs h.1

  take_all_of : (n : ℕ) (xs : List X) → AllByRecursion P xs → AllByRecursion P (take n xs)
  take_all_of zero xs h = tt
  take_all_of (suc n) [] h = tt
  take_all_of (suc n) (x ∷ xs) h = (h.0, take_all_of n xs h.1)

pub window_all : (P : Row → Type 0) (q : Query) (docs : List Row) → AllByRecursion P docs → AllByRecursion P (window q docs)
window_all P q docs h =
    take_all_of P q.take (drop q.skip (matches q docs)) (drop_all P q.skip (matches q docs)
    (in_order_all P (rows_cmp q.order) (filter (λ row. satisfies q.filter row.2) docs) (filter_all P (λ row. satisfies q.filter row.2) docs h)))

-- ---- versions determine rows

determined : {X : Type 0} (P Q : X → Type 0) (version : X → ℕ) → ((a b : X) → P a → Q b → version a ≡ version b → a ≡ b) → (xs ys : List X) → AllByRecursion P xs → AllByRecursion Q ys
    → map version xs ≡ map version ys → xs ≡ ys
determined P Q version same [] [] p q e = refl
determined P Q version same [] (y ∷ ys) p q e = absurd (cc)
determined P Q version same (x ∷ xs) [] p q e = absurd (cc)
determined P Q version same (x ∷ xs) (y ∷ ys) p q e =
    let heads : version x ≡ version y = cc in
    let tails : map version xs ≡ map version ys = cc in
    let head = same x y p.0 q.0 heads in
    let rest = determined P Q version same xs ys p.1 q.1 tails in
    cc

contains_each : (xs : List Row) → AllByRecursion (Contains xs) xs
contains_each xs = recursion_from_All (Contains xs) xs (All-contains_itself xs)

pub windows_determined : (q : Query) (docs others : List Row) → ((a b : Row) → Contains docs a → Contains others b → a.1 ≡ b.1 → a ≡ b)
    → map (λ (row : Row). row.1) (window q docs) ≡ map (λ (row : Row). row.1) (window q others) → window q docs ≡ window q others
windows_determined q docs others same e =
    determined (Contains docs) (Contains others) (λ row. row.1) same (window q docs) (window q others)
    (window_all (Contains docs) q docs (contains_each docs)) (window_all (Contains others) q others (contains_each others)) e
