-- Lists in order: what "inserted one by one" comes to, that a stable sort gives the same, and that the order in which
-- items come does not matter where no two of them tie.
use Rattle.std.proofs.Common.{◌≡◌, ℕ, suc, ◌<◌, ◌≤◌, List, [], ◌∷◌, ◌++◌, map, length, get_or, Bool, true, false, not, ◌&&◌, Ordering, inl, inr, refl, sym, ap, ◌∙◌, arith, Bor}
use Rattle.std.specs.Bool.{⊤}
use Rattle.std.specs.Ordering.{is_lt}
use Rattle.std.specs.Cmp.{IsTotalOrder, IsStrictWeakOrder}
use Rattle.std.specs.List.{filter, fold, AllByRecursion}
use Rattle.std.specs.List.Sorted.{ties, IsSortedBy, IsStableBy, IsSortedByClosure, IsStableByClosure}
use Rattle.std.specs.Fn.{Called}
use Rattle.std.proofs.lemmas.Cmp.{tied_itself}
use Rattle.std.proofs.lemmas.Bool.{cases_Bool}
use Rattle.std.proofs.lemmas.List.Sorted.{ranks_by, sorted_far}
use Rattle.std.proofs.lemmas.Fn.{always_returns_same}
use denote.Param.Members.{Mut}
use mathlib.Core.List.{append_assoc, append-nil}
use Rattle.query_core.specs.Window.{placed, in_order}

-- two tests in either order
pub filters_swap : {X : Type 0} (p r : X → Bool) (xs : List X) → filter p (filter r xs) ≡ filter r (filter p xs)
filters_swap p r [] = refl
filters_swap p r (x ∷ xs) =
    let rest = filters_swap p r xs in
    elim (cases_Bool (p x)) [
      | inl e ↦ elim (cases_Bool (r x)) [ inl f ↦ rw (e, f, e) (ap (λ l. x ∷ l) rest) | inr f ↦ rw (e, f) rest ]
      | inr e ↦ elim (cases_Bool (r x)) [ inl f ↦ rw (e, f, e) rest | inr f ↦ rw (e, f) rest ]
    ]

module _ {X : Type 0} (cmp : X → X → Ordering) (total : IsTotalOrder cmp) where
  abbrev less : X → X → Bool
  less x y = is_lt (cmp x y)

  -- neither is less
  abbrev pub tied : X → X → Bool
  tied = ties less

  -- none of these is less than x
  abbrev pub Under : X → List X → Type 0
  Under x [] = ⊤
  Under x (y ∷ ys) = (less y x ≡ false) × Under x ys

  -- none is less than one before it
  abbrev pub Rises : List X → Type 0
  Rises [] = ⊤
  Rises (x ∷ xs) = Under x xs × Rises xs

  ranks : IsStrictWeakOrder less
  ranks = ranks_by total (λ x. x)

  tied_self : (x : X) → tied x x ≡ true
  tied_self x = let e : less x x ≡ false = ap is_lt (tied_itself total x) in rw e

  -- ---- what ties with nothing in a list

  -- x is less than y, which none of these is less than
  less_than_all : (x y w : X) → less x y ≡ true → less w y ≡ false → less x w ≡ true
  less_than_all x y w l u = elim (cases_Bool (less x w)) [ inl e ↦ e | inr e ↦ absurd (let f = ranks.chain x w y e u in cc) ]

  untied : (x w : X) → less x w ≡ true → tied x w ≡ false
  untied x w l = rw l

  none_tied : (x y : X) (ys : List X) → less x y ≡ true → Under y ys → filter (tied x) ys ≡ []
  none_tied x y [] l u = refl
  none_tied x y (w ∷ ws) l u =
      let e : tied x w ≡ false = untied x w (less_than_all x y w l u.0) in
      rw e (none_tied x y ws l u.1)

  none_tied_from : (x y : X) (ys : List X) → less x y ≡ true → Under y ys → filter (tied x) (y ∷ ys) ≡ []
  none_tied_from x y ys l u = let e : tied x y ≡ false = untied x y l in rw e (none_tied x y ys l u)

  has_own : (x : X) (xs : List X) → filter (tied x) (x ∷ xs) ≡ x ∷ filter (tied x) xs
  has_own x xs = let e : tied x x ≡ true = tied_self x in rw e

  -- ---- two lists that rise and have the same ties are the same

  tail_ties : (p : X → Bool) (x : X) (xs ys : List X) → filter p (x ∷ xs) ≡ filter p (x ∷ ys) → filter p xs ≡ filter p ys
  tail_ties p x xs ys h =
      elim (cases_Bool (p x)) [
        | inl e ↦ let k : x ∷ filter p xs ≡ x ∷ filter p ys = rw e at h in cc
        | inr e ↦ rw e at h
      ]

  both_false : (x y : X) → less x y ≡ false → less y x ≡ false → tied x y ≡ true
  both_false x y e f = rw (e, f)

  heads : (x y : X) (xs ys : List X) → Under x xs → Under y ys → ((z : X) → filter (tied z) (x ∷ xs) ≡ filter (tied z) (y ∷ ys)) → x ≡ y
  heads x y xs ys r s h =
      elim (cases_Bool (less x y)) [
        | inl e ↦ absurd (let a = has_own x xs in let b = none_tied_from x y ys e s in let c = h x in cc)
        | inr e ↦ elim (cases_Bool (less y x)) [
          | inl f ↦ absurd (let a = has_own y ys in let b = none_tied_from y x xs f r in let c = h y in cc)
          | inr f ↦
              let t : tied x y ≡ true = both_false x y e f in
              let a = has_own x xs in
              let b : filter (tied x) (y ∷ ys) ≡ y ∷ filter (tied x) ys = rw t in
              let c = h x in
              cc
        ]
      ]

  pub same_from_ties : (xs ys : List X) → Rises xs → Rises ys → ((z : X) → filter (tied z) xs ≡ filter (tied z) ys) → xs ≡ ys
  same_from_ties [] [] r s h = refl
  same_from_ties [] (y ∷ ys) r s h = absurd (let a = has_own y ys in let c = h y in cc)
  same_from_ties (x ∷ xs) [] r s h = absurd (let a = has_own x xs in let c = h x in cc)
  same_from_ties (x ∷ xs) (y ∷ ys) r s h =
      let e : x ≡ y = heads x y xs ys r.0 s.0 h in
      let tails : (z : X) → filter (tied z) xs ≡ filter (tied z) ys =
      λ z. tail_ties (tied z) x xs ys (h z ∙ ap (λ w. filter (tied z) (w ∷ ys)) (sym e)) in
      let rest = same_from_ties xs ys r.1 s.1 tails in
      cc

  -- ---- items inserted one by one

  under_chain : (x y : X) (ys : List X) → less y x ≡ false → Under y ys → Under x ys
  under_chain x y [] l u = tt
  under_chain x y (w ∷ ws) l u = (ranks.chain w y x u.0 l, under_chain x y ws l u.1)

  placed_under : (x new : X) (ys : List X) → less new x ≡ false → Under x ys → Under x (placed cmp ys new)
  placed_under x new [] l u = (l, tt)
  placed_under x new (y ∷ ys) l u =
      elim (cases_Bool (less new y)) [ inl e ↦ rw e (l, u) | inr e ↦ rw e (u.0, placed_under x new ys l u.1) ]

  placed_rises : (new : X) (ys : List X) → Rises ys → Rises (placed cmp ys new)
  placed_rises new [] r = (tt, tt)
  placed_rises new (y ∷ ys) r =
      elim (cases_Bool (less new y)) [
        | inl e ↦ let back : less y new ≡ false = ranks.one_way new y e in rw e ((back, under_chain new y ys back r.0), r)
        | inr e ↦ rw e (placed_under y new ys e r.0, placed_rises new ys r.1)
      ]

  -- one that ties with the new item is less than what the new item is less than
  tied_less : (z new x : X) → tied z new ≡ true → less new x ≡ true → less z x ≡ true
  tied_less z new x t l =
      elim (cases_Bool (less z x)) [
        | inl e ↦ e
        | inr e ↦ elim (cases_Bool (less new z)) [
          | inl f ↦ absurd (let g : tied z new ≡ false = tied_back_false z new f in cc)
          | inr f ↦ absurd (let g = ranks.chain new z x f e in cc)
        ]
      ]
    where
      and_false : (b : Bool) → (b && false) ≡ false
      and_false true = refl
      and_false false = refl

      tied_back_false : (z new : X) → less new z ≡ true → tied z new ≡ false
      tied_back_false z new f = rw f (and_false (not (less z new)))

  placed_ties : (z new : X) (ys : List X) → Rises ys → filter (tied z) (placed cmp ys new) ≡ filter (tied z) ys ++ filter (tied z) (new ∷ [])
  placed_ties z new [] r = refl
  placed_ties z new (y ∷ ys) r =
      elim (cases_Bool (less new y)) [
        | inl e ↦ elim (cases_Bool (tied z new)) [
          | inl t ↦ let none = none_tied_from z y ys (tied_less z new y t e) r.0 in rw (e, t, none)
          | inr t ↦ rw (e, t) (sym (append-nil (filter (tied z) (y ∷ ys))))
        ]
        | inr e ↦ elim (cases_Bool (tied z y)) [
          | inl t ↦ rw (e, t) (ap (λ l. y ∷ l) (placed_ties z new ys r.1))
          | inr t ↦ rw (e, t) (placed_ties z new ys r.1)
        ]
      ]

  fold_rises : (xs ys : List X) → Rises ys → Rises (fold (placed cmp) ys xs)
  fold_rises [] ys r = r
  fold_rises (x ∷ xs) ys r = fold_rises xs (placed cmp ys x) (placed_rises x ys r)

  filter_first : (p : X → Bool) (x : X) (xs : List X) → filter p (x ∷ []) ++ filter p xs ≡ filter p (x ∷ xs)
  filter_first p x xs = elim (cases_Bool (p x)) [ inl e ↦ rw e | inr e ↦ rw e ]

  fold_ties : (z : X) (xs ys : List X) → Rises ys → filter (tied z) (fold (placed cmp) ys xs) ≡ filter (tied z) ys ++ filter (tied z) xs
  fold_ties z [] ys r = sym (append-nil (filter (tied z) ys))
  fold_ties z (x ∷ xs) ys r =
      fold_ties z xs (placed cmp ys x) (placed_rises x ys r)
      ∙ ap (λ l. l ++ filter (tied z) xs) (placed_ties z x ys r)
      ∙ append_assoc (filter (tied z) ys) (filter (tied z) (x ∷ [])) (filter (tied z) xs)
      ∙ ap (λ l. filter (tied z) ys ++ l) (filter_first (tied z) x xs)

  pub in_order_rises : (xs : List X) → Rises (in_order cmp xs)
  in_order_rises xs = fold_rises xs [] tt

  pub in_order_ties : (z : X) (xs : List X) → filter (tied z) (in_order cmp xs) ≡ filter (tied z) xs
  in_order_ties z xs = fold_ties z xs [] tt

  -- a list that rises and has the ties of xs is xs in order
  pub rises_in_order : (xs ys : List X) → Rises ys → ((z : X) → filter (tied z) ys ≡ filter (tied z) xs) → ys ≡ in_order cmp xs
  rises_in_order xs ys r h = same_from_ties ys (in_order cmp xs) r (in_order_rises xs) (λ z. h z ∙ sym (in_order_ties z xs))

  -- lists with the same ties come to the same
  pub in_order_alike : (xs ys : List X) → ((z : X) → filter (tied z) xs ≡ filter (tied z) ys) → in_order cmp xs ≡ in_order cmp ys
  in_order_alike xs ys h = rises_in_order ys (in_order cmp xs) (in_order_rises xs) (λ z. in_order_ties z xs ∙ h z)

  -- ---- parts of a list in order

  filter_under : (r : X → Bool) (x : X) (xs : List X) → Under x xs → Under x (filter r xs)
  filter_under r x [] u = tt
  filter_under r x (y ∷ ys) u = elim (cases_Bool (r y)) [ inl e ↦ rw e (u.0, filter_under r x ys u.1) | inr e ↦ rw e (filter_under r x ys u.1) ]

  filter_rises : (r : X → Bool) (xs : List X) → Rises xs → Rises (filter r xs)
  filter_rises r [] u = tt
  filter_rises r (x ∷ xs) u = elim (cases_Bool (r x)) [ inl e ↦ rw e (filter_under r x xs u.0, filter_rises r xs u.1) | inr e ↦ rw e (filter_rises r xs u.1) ]

  -- the items that pass a test, in order, are those in order that pass it
  pub filter-in_order : (r : X → Bool) (xs : List X) → filter r (in_order cmp xs) ≡ in_order cmp (filter r xs)
  filter-in_order r xs =
      rises_in_order (filter r xs) (filter r (in_order cmp xs)) (filter_rises r (in_order cmp xs) (in_order_rises xs))
      (λ z. filters_swap (tied z) r (in_order cmp xs) ∙ ap (filter r) (in_order_ties z xs) ∙ sym (filters_swap (tied z) r xs))

  -- ---- sorts

  abbrev Far : List X → Type 0
  Far ys = (i j : ℕ) (d : X) → i ≤ j → j < length ys → less (get_or ys j d) (get_or ys i d) ≡ false

  under_from_far : (x : X) (ys : List X) → ((k : ℕ) → k < length ys → less (get_or ys k x) x ≡ false) → Under x ys
  under_from_far x [] h = tt
  under_from_far x (y ∷ ys) h = (h 0 (omega arith), under_from_far x ys (λ k l. h (suc k) (omega arith)))

  rises_from_far : (ys : List X) → Far ys → Rises ys
  rises_from_far [] f = tt
  rises_from_far (y ∷ ys) f =
      (under_from_far y ys (λ k l. f 0 (suc k) y (omega arith) (omega arith)), rises_from_far ys (λ i j d le l. f (suc i) (suc j) d (omega arith) (omega arith)))

  -- what a stable sort ensures is that its result is the items inserted one by one
  pub sort_is_in_order : (xs ys : List X) → IsSortedBy less ys → IsStableBy less xs ys → ys ≡ in_order cmp xs
  sort_is_in_order xs ys up stable = rises_in_order xs ys (rises_from_far ys (sorted_far less ranks ys up)) stable

  -- the same of a sort by a closure that compares so
  pub sort_by_is_in_order : {F : Type 0} {g : Mut F (Bor X × (Bor X × Unit {0})) Ordering} {f : F} (xs ys : List X)
      → IsSortedByClosure g f ys → IsStableByClosure g f xs ys
      → ((a : Bor X × (Bor X × Unit {0})) (r : Ordering) (f' : F) → Called g f a r f' → (r ≡ cmp a.0.now a.1.0.now) × (f' ≡ f)) → ys ≡ in_order cmp xs
  sort_by_is_in_order {g = g} {f = f} xs ys up stable h =
      let answers = always_returns_same g (λ a r. is_lt r ≡ less a.0.now a.1.0.now) f (λ a r f' k. (ap is_lt (h a r f' k).0, (h a r f' k).1)) in
      sort_is_in_order xs ys (up less ranks answers) (stable less ranks answers)

-- ---- items seen by a part of them

module _ {X Y : Type 0} (f : X → Y) (cmp : X → X → Ordering) (order : Y → Y → Ordering) (P : X → Type 0) (agree : (a b : X) → P a → P b → cmp a b ≡ order (f a) (f b)) where
  placed_all : (new : X) (xs : List X) → P new → AllByRecursion P xs → AllByRecursion P (placed cmp xs new)
  placed_all new [] p ps = (p, tt)
  placed_all new (x ∷ xs) p ps =
      elim (cases_Bool (is_lt (cmp new x))) [ inl e ↦ rw e (p, ps) | inr e ↦ rw e (ps.0, placed_all new xs p ps.1) ]

  map-placed : (new : X) (xs : List X) → P new → AllByRecursion P xs → map f (placed cmp xs new) ≡ placed order (map f xs) (f new)
  map-placed new [] p ps = refl
  map-placed new (x ∷ xs) p ps =
      let e : cmp new x ≡ order (f new) (f x) = agree new x p ps.0 in
      elim (cases_Bool (is_lt (order (f new) (f x)))) [
        | inl l ↦ rw (e, l)
        | inr l ↦ rw (e, l) (ap (λ ys. f x ∷ ys) (map-placed new xs p ps.1))
      ]

  map-fold_placed : (xs ys : List X) → AllByRecursion P xs → AllByRecursion P ys → map f (fold (placed cmp) ys xs) ≡ fold (placed order) (map f ys) (map f xs)
  map-fold_placed [] ys ps qs = refl
  map-fold_placed (x ∷ xs) ys ps qs =
      map-fold_placed xs (placed cmp ys x) ps.1 (placed_all x ys ps.0 qs) ∙ ap (λ l. fold (placed order) l (map f xs)) (map-placed x ys ps.0 qs)

  -- where the orders agree on the items, so do the lists in order
  pub map-in_order : (xs : List X) → AllByRecursion P xs → map f (in_order cmp xs) ≡ in_order order (map f xs)
  map-in_order xs ps = map-fold_placed xs [] ps tt

module _ {X : Type 0} (P : X → Type 0) (cmp : X → X → Ordering) where
  place_all : (new : X) (xs : List X) → P new → AllByRecursion P xs → AllByRecursion P (placed cmp xs new)
  place_all new [] p ps = (p, tt)
  place_all new (x ∷ xs) p ps =
      elim (cases_Bool (is_lt (cmp new x))) [ inl e ↦ rw e (p, ps) | inr e ↦ rw e (ps.0, place_all new xs p ps.1) ]

  fold_all : (xs ys : List X) → AllByRecursion P xs → AllByRecursion P ys → AllByRecursion P (fold (placed cmp) ys xs)
  fold_all [] ys ps qs = qs
  fold_all (x ∷ xs) ys ps qs = fold_all xs (placed cmp ys x) ps.1 (place_all x ys ps.0 qs)

  -- what holds of each item holds of each when they are in order
  pub in_order_all : (xs : List X) → AllByRecursion P xs → AllByRecursion P (in_order cmp xs)
  in_order_all xs ps = fold_all xs [] ps tt
