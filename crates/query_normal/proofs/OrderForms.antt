-- The normal form of an order: it orders rows alike, and is its own normal form.
use Rattle.std.proofs.Common.{◌≡◌, ℕ, ◌≤◌, Bool, true, false, not, ◌&&◌, ◌||◌, List, [], ◌∷◌, ◌++◌, append_assoc, length, Ordering, Less, Equal, Greater, inl, inr, refl, sym, ap, ◌∙◌, arith, take, drop}
use Rattle.std.specs.List.{filter, AllByRecursion, list_any}
use Rattle.std.proofs.lemmas.List.Folds.{list_any-append}
use Rattle.std.specs.Ordering.{ordering_then, nat_cmp}
use Rattle.std.specs.Cmp.Lexicographic.{slice_cmp}
use Rattle.std.proofs.lemmas.Bool.{cases_Bool}
use Rattle.q_doc.specs.Tree.{Tree}
use Rattle.q_doc.specs.Order.{value_cmp}
use Rattle.q_doc.specs.Path.{tree_at}
use Rattle.query_core.specs.declared.query.Query.{Query}
use Rattle.query_core.specs.Meaning.{satisfies}
use Rattle.query_core.specs.Same.{same_path}
use Rattle.query_core.specs.SameLaws.{same_path-Decides}
use Rattle.query_core.specs.Window.{Row, Order, turned, paths_cmp, rows_cmp, in_order, window}
use Rattle.query_core.proofs.Rising.{filters_swap}
use Rattle.query_normal.specs.Normal.{normal_order, normal_filter, normal_query}
use Rattle.query_normal.specs.Repeats.{has_path, with_path}
use Rattle.query_normal.proofs.NormalMeaning.{normal_holds}

-- a path, and whether it is descending
abbrev pub Item : Type 0
Item = List (List ℕ) × Bool

-- items of other paths
abbrev pub other_than : List (List ℕ) → Item → Bool
other_than path item = not (same_path path item.0)

-- ---- rows are ordered alike

then_alike : (o x y : Ordering) → (o ≡ Equal → x ≡ y) → ordering_then o x ≡ ordering_then o y
then_alike Less x y h = refl
then_alike Equal x y h = h refl
then_alike Greater x y h = refl

turned_tie : (d : Bool) (o : Ordering) → turned d o ≡ Equal → o ≡ Equal
turned_tie false o e = e
turned_tie true Less e = absurd (cc)
turned_tie true Equal e = refl
turned_tie true Greater e = absurd (cc)

turned_Equal : (d : Bool) → turned d Equal ≡ Equal
turned_Equal true = refl
turned_Equal false = refl

-- a path by which two documents tie may be left out
tied_left_out : (path : List (List ℕ)) (t u : Tree) → value_cmp (tree_at path t) (tree_at path u) ≡ Equal → (items : Order)
    → paths_cmp (filter (other_than path) items) t u ≡ paths_cmp items t u
tied_left_out path t u tie [] = refl
tied_left_out path t u tie (q ∷ qs) =
    let rest = tied_left_out path t u tie qs in
    elim (cases_Bool (same_path path q.0)) [
      | inl e ↦ (
          let same : path ≡ q.0 = (same_path-Decides path q.0).0 e in
          let ties : turned q.1 (value_cmp (tree_at q.0 t) (tree_at q.0 u)) ≡ Equal =
          ap (turned q.1) (ap (λ r. value_cmp (tree_at r t) (tree_at r u)) (sym same) ∙ tie) ∙ turned_Equal q.1 in
          rw e (rest ∙ sym (ap (λ o. ordering_then o (paths_cmp qs t u)) ties)))
      | inr e ↦ rw e (ap (ordering_then (turned q.1 (value_cmp (tree_at q.0 t) (tree_at q.0 u)))) rest)
    ]

pub paths_alike : (order : Order) (t u : Tree) → paths_cmp (normal_order order) t u ≡ paths_cmp order t u
paths_alike [] t u = refl
paths_alike (p ∷ ps) t u =
    then_alike (turned p.1 (value_cmp (tree_at p.0 t) (tree_at p.0 u))) (paths_cmp (filter (other_than p.0) (normal_order ps)) t u) (paths_cmp ps t u)
    (λ e. tied_left_out p.0 t u (turned_tie p.1 (value_cmp (tree_at p.0 t) (tree_at p.0 u)) e) (normal_order ps) ∙ paths_alike ps t u)

-- the window is the same
pub window_same : (q : Query) (docs : List Row) → window (normal_query q) docs ≡ window q docs
window_same q docs =
    let rows : rows_cmp (normal_order q.order) ≡ rows_cmp q.order =
    λ i a b. ordering_then (paths_alike q.order a.2 b.2 i) (slice_cmp nat_cmp a.0 b.0) in
    let passes : (λ (row : Row). satisfies (normal_filter false q.filter) row.2) ≡ (λ row. satisfies q.filter row.2) = λ i row. normal_holds row.2 false q.filter i in
    λ i. take q.take (drop q.skip (in_order (rows i) (filter (passes i) docs)))

-- ---- its own normal form

-- a test that passes no more items does not change what passes first
filter_wide : {X : Type 0} (r s : X → Bool) → ((x : X) → r x ≡ true → s x ≡ true) → (xs : List X) → filter r (filter s xs) ≡ filter r xs
filter_wide r s h [] = refl
filter_wide r s h (x ∷ xs) =
    let rest = filter_wide r s h xs in
    elim (cases_Bool (r x)) [
      | inl e ↦ let f : s x ≡ true = h x e in rw (e, f, e) (ap (λ l. x ∷ l) rest)
      | inr e ↦ elim (cases_Bool (s x)) [ inl f ↦ rw (e, f, e) rest | inr f ↦ rw (e, f) rest ]
    ]

other_alike : (path : List (List ℕ)) (x y : Item) → other_than path x ≡ false → other_than path y ≡ true → other_than x.0 y ≡ true
other_alike path x y e k =
    elim (cases_Bool (same_path path x.0)) [
      | inl is ↦ (
          let same : path ≡ x.0 = (same_path-Decides path x.0).0 is in
          sym (ap (λ r. other_than r y) same) ∙ k)
      | inr differs ↦ absurd (let no_way = rw differs at e in cc)
    ]

left_out_first : (path : List (List ℕ)) (order : Order) → normal_order (filter (other_than path) order) ≡ filter (other_than path) (normal_order order)
left_out_first path [] = refl
left_out_first path (x ∷ xs) =
    let rest = left_out_first path xs in
    elim (cases_Bool (other_than path x)) [
      | inl e ↦ rw e (
          ap (λ l. x ∷ filter (other_than x.0) l) rest
          ∙ ap (λ l. x ∷ l) (filters_swap (other_than x.0) (other_than path) (normal_order xs)))
      | inr e ↦ rw e (rest ∙ sym (filter_wide (other_than path) (other_than x.0) (λ y k. other_alike path x y e k) (normal_order xs)))
    ]

pub order_twice : (order : Order) → normal_order (normal_order order) ≡ normal_order order
order_twice [] = refl
order_twice (p ∷ ps) =
    ap (λ l. p ∷ l)
    (ap (filter (other_than p.0)) (left_out_first p.0 (normal_order ps) ∙ ap (filter (other_than p.0)) (order_twice ps))
    ∙ filter_wide (other_than p.0) (other_than p.0) (λ x e. e) (normal_order ps))

-- ---- sizes

filter_shorter : {X : Type 0} (r : X → Bool) (xs : List X) → length (filter r xs) ≤ length xs
filter_shorter r [] = omega arith
filter_shorter r (x ∷ xs) =
    let rest = filter_shorter r xs in
    elim (cases_Bool (r x)) [ inl e ↦ rw e (omega (arith, rest)) | inr e ↦ rw e (omega (arith, rest)) ]

filter_all : {X : Type 0} (P : X → Type 0) (r : X → Bool) (xs : List X) → AllByRecursion P xs → AllByRecursion P (filter r xs)
filter_all P r [] a = tt
filter_all P r (x ∷ xs) a =
    let rest = filter_all P r xs a.1 in
    elim (cases_Bool (r x)) [ inl e ↦ rw e (a.0, rest) | inr e ↦ rw e rest ]

pub order_shorter : (order : Order) → length (normal_order order) ≤ length order
order_shorter [] = omega arith
order_shorter (p ∷ ps) = omega (arith, filter_shorter (other_than p.0) (normal_order ps), order_shorter ps)

pub order_all : (P : Item → Type 0) (order : Order) → AllByRecursion P order → AllByRecursion P (normal_order order)
order_all P [] a = tt
order_all P (p ∷ ps) a = (a.0, filter_all P (other_than p.0) (normal_order ps) (order_all P ps a.1))

-- ---- one item after another

-- items of none of the paths that were kept
abbrev pub new_to : Order → Item → Bool
new_to kept q = not (list_any (λ (item : Item). same_path item.0 q.0) kept)

all_new : (order : Order) → filter (new_to []) order ≡ order
all_new [] = refl
all_new (q ∷ qs) = ap (λ l. q ∷ l) (all_new qs)

-- before any item was read
pub order_begun : (order : Order) → [] ++ filter (new_to []) (normal_order order) ≡ normal_order order
order_begun order = all_new (normal_order order)

not_or : (b c : Bool) → not (b || (c || false)) ≡ (not b && not c)
not_or true c = refl
not_or false true = refl
not_or false false = refl

new_to-push : (kept : Order) (x q : Item) → new_to (kept ++ x ∷ []) q ≡ (new_to kept q && other_than x.0 q)
new_to-push kept x q =
    ap not (list_any-append (λ (item : Item). same_path item.0 q.0) kept (x ∷ []))
    ∙ not_or (list_any (λ (item : Item). same_path item.0 q.0) kept) (same_path x.0 q.0)

filter_both : {X : Type 0} (r s t : X → Bool) → ((x : X) → t x ≡ (r x && s x)) → (xs : List X) → filter r (filter s xs) ≡ filter t xs
filter_both r s t h [] = refl
filter_both r s t h (x ∷ xs) =
    let rest = filter_both r s t h xs in
    let here : t x ≡ (r x && s x) = h x in
    elim (cases_Bool (s x)) [
      | inl e ↦ elim (cases_Bool (r x)) [
        | inl f ↦ let yes : t x ≡ true = here ∙ (rw (f, e) refl) in rw (e, f, yes) (ap (λ l. x ∷ l) rest)
        | inr f ↦ let none_is : t x ≡ false = here ∙ (rw f refl) in rw (e, f, none_is) rest
      ]
      | inr e ↦ elim (cases_Bool (r x)) [
        | inl f ↦ let none_is : t x ≡ false = here ∙ (rw (f, e) refl) in rw (e, none_is) rest
        | inr f ↦ let none_is : t x ≡ false = here ∙ (rw f refl) in rw (e, none_is) rest
      ]
    ]

-- an item of a new path is kept
pub order_kept : (kept : Order) (x : Item) (xs : Order) → list_any (λ (item : Item). same_path item.0 x.0) kept ≡ false
    → (kept ++ x ∷ []) ++ filter (new_to (kept ++ x ∷ [])) (normal_order xs) ≡ kept ++ filter (new_to kept) (normal_order (x ∷ xs))
order_kept kept x xs e =
    let yes : new_to kept x ≡ true = ap not e in
    append_assoc kept (x ∷ []) (filter (new_to (kept ++ x ∷ [])) (normal_order xs))
    ∙ ap (λ l. kept ++ l) (
    ap (λ l. x ∷ l) (sym (filter_both (new_to kept) (other_than x.0) (new_to (kept ++ x ∷ [])) (new_to-push kept x) (normal_order xs)))
    ∙ sym (rw yes refl))

known_path : (kept : Order) (x y : Item) → list_any (λ (item : Item). same_path item.0 x.0) kept ≡ true → new_to kept y ≡ true → other_than x.0 y ≡ true
known_path kept x y known new =
    elim (cases_Bool (same_path x.0 y.0)) [
      | inl e ↦ absurd (
          let same : x.0 ≡ y.0 = (same_path-Decides x.0 y.0).0 e in
          let has : list_any (λ (item : Item). same_path item.0 y.0) kept ≡ true = ap (λ r. list_any (λ (item : Item). same_path item.0 r) kept) (sym same) ∙ known in
          let no_way = rw has at new in cc)
      | inr e ↦ ap not e
    ]

-- an item of a path that was kept is left out
pub order_left_out : (kept : Order) (x : Item) (xs : Order) → list_any (λ (item : Item). same_path item.0 x.0) kept ≡ true
    → kept ++ filter (new_to kept) (normal_order xs) ≡ kept ++ filter (new_to kept) (normal_order (x ∷ xs))
order_left_out kept x xs e =
    let known : new_to kept x ≡ false = ap not e in
    ap (λ l. kept ++ l) (sym (rw known (filter_wide (new_to kept) (other_than x.0) (λ y k. known_path kept x y e k) (normal_order xs))))

-- one more item
pub one_item_more : (kept : Order) (x : Item) (xs : Order) → with_path kept x ++ filter (new_to (with_path kept x)) (normal_order xs) ≡ kept ++ filter (new_to kept) (normal_order (x ∷ xs))
one_item_more kept x xs =
    elim (cases_Bool (has_path kept x.0)) [
      | inl e ↦ (
          let same : with_path kept x ≡ kept = rw e refl in
          ap (λ (k : Order). k ++ filter (new_to k) (normal_order xs)) same ∙ order_left_out kept x xs e)
      | inr e ↦ (
          let same : with_path kept x ≡ kept ++ x ∷ [] = rw e refl in
          ap (λ (k : Order). k ++ filter (new_to k) (normal_order xs)) same ∙ order_kept kept x xs e)
    ]
