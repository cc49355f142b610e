-- Rows in order of their ids. Two such lists that have the same rows of each id are one.
use Rattle.std.proofs.Common.{◌≡◌, ℕ, suc, ◌<◌, ◌≤◌, List, [], ◌∷◌, length, get_or, filter, Bool, true, false, Less, Equal, Greater, Ordering, inl, inr, refl, sym, ap, ◌∙◌, arith}
use Rattle.std.specs.Bool.{⊤}
use Rattle.std.specs.Ordering.{is_lt, is_eq, ordering_reverse, nat_cmp}
use Rattle.std.specs.Cmp.{IsStrictWeakOrder}
use Rattle.std.specs.Cmp.Lexicographic.{slice_cmp, nat_list_cmp_total}
use Rattle.std.specs.Str.{bytes_eq}
use Rattle.std.proofs.lemmas.Bool.{cases_Bool}
use Rattle.std.proofs.lemmas.List.Sorted.{ranks_by}
use Rattle.std.proofs.lemmas.Map.Text.{is_eq-slice_cmp}
use Rattle.std.proofs.lemmas.Slice.Eq.{bytes_eq-Decides}
use Rattle.commit_book.specs.Documents.{Row, insert_row, is_row_of}

abbrev pub less : List ℕ → List ℕ → Bool
less a b = is_lt (slice_cmp nat_cmp a b)

pub ranks : IsStrictWeakOrder less
ranks = ranks_by nat_list_cmp_total (λ x. x)

-- ---- ids that tie are equal

tie_is_Equal : (o p : Ordering) → p ≡ ordering_reverse o → is_lt o ≡ false → is_lt p ≡ false → o ≡ Equal
tie_is_Equal Less p e h k = absurd (cc)
tie_is_Equal Equal p e h k = refl
tie_is_Equal Greater p e h k = absurd (let m : is_lt p ≡ true = ap is_lt e in cc)

pub ids_tie : (a b : List ℕ) → less a b ≡ false → less b a ≡ false → bytes_eq a b ≡ true
ids_tie a b h k =
    let e = tie_is_Equal (slice_cmp nat_cmp a b) (slice_cmp nat_cmp b a) (nat_list_cmp_total.antisymm b a) h k in
    sym (is_eq-slice_cmp a b) ∙ ap is_eq e

apart : (a b : List ℕ) → less a b ≡ true → bytes_eq b a ≡ false
apart a b h =
    elim (cases_Bool (bytes_eq b a)) [
      | inl e ↦ absurd (let same = (bytes_eq-Decides b a).0 e in
          let p = ap (λ (x : List ℕ). less a x) same in
          let q = ap (λ (x : List ℕ). less x a) same in
          let back = ranks.one_way a b h in
          cc)
      | inr e ↦ e
    ]

pub itself : (id : List ℕ) → bytes_eq id id ≡ true
itself id = (bytes_eq-Decides id id).1 refl

-- ---- lists that rise

-- none of these comes before the id
abbrev pub Under : List ℕ → List Row → Type 0
Under id [] = ⊤
Under id (row ∷ rows) = (less row.0 id ≡ false) × Under id rows

-- none comes before an earlier one
abbrev pub Rises : List Row → Type 0
Rises [] = ⊤
Rises (row ∷ rows) = Under row.0 rows × Rises rows

less_than_all : (x y w : List ℕ) → less x y ≡ true → less w y ≡ false → less x w ≡ true
less_than_all x y w l u = elim (cases_Bool (less x w)) [ inl e ↦ e | inr e ↦ absurd (let f = ranks.chain x w y e u in cc) ]

none_of : (id y : List ℕ) (rows : List Row) → less id y ≡ true → Under y rows → filter (is_row_of id) rows ≡ []
none_of id y [] l u = refl
none_of id y (w ∷ rows) l u =
    let e : bytes_eq w.0 id ≡ false = apart id w.0 (less_than_all id y w.0 l u.0) in
    rw e (none_of id y rows l u.1)

none_from : (id : List ℕ) (y : Row) (rows : List Row) → less id y.0 ≡ true → Under y.0 rows → filter (is_row_of id) (y ∷ rows) ≡ []
none_from id y rows l u = let e : bytes_eq y.0 id ≡ false = apart id y.0 l in rw e (none_of id y.0 rows l u)

has_own : (x : Row) (id : List ℕ) (rows : List Row) → bytes_eq x.0 id ≡ true → filter (is_row_of id) (x ∷ rows) ≡ x ∷ filter (is_row_of id) rows
has_own x id rows e = rw e refl

tails : (p : Row → Bool) (x : Row) (xs ys : List Row) → filter p (x ∷ xs) ≡ filter p (x ∷ ys) → filter p xs ≡ filter p ys
tails p x xs ys h = elim (cases_Bool (p x)) [ inl e ↦ let k : x ∷ filter p xs ≡ x ∷ filter p ys = rw e at h in cc | inr e ↦ rw e at h ]

heads : (x y : Row) (xs ys : List Row) → Under x.0 xs → Under y.0 ys → ((id : List ℕ) → filter (is_row_of id) (x ∷ xs) ≡ filter (is_row_of id) (y ∷ ys)) → x ≡ y
heads x y xs ys r s h =
    let own = has_own x x.0 xs (itself x.0) in
    elim (cases_Bool (less x.0 y.0)) [
      | inl e ↦ absurd (let b = none_from x.0 y ys e s in let c = h x.0 in cc)
      | inr e ↦ elim (cases_Bool (less y.0 x.0)) [
        | inl f ↦ absurd (let a = has_own y y.0 ys (itself y.0) in let b = none_from y.0 x xs f r in let c = h y.0 in cc)
        | inr f ↦ let b = has_own y x.0 ys (ids_tie y.0 x.0 f e) in let c = h x.0 in cc
      ]
    ]

pub same_from_ids : (xs ys : List Row) → Rises xs → Rises ys → ((id : List ℕ) → filter (is_row_of id) xs ≡ filter (is_row_of id) ys) → xs ≡ ys
same_from_ids [] [] r s h = refl
same_from_ids [] (y ∷ ys) r s h = absurd (let a = has_own y y.0 ys (itself y.0) in let c = h y.0 in cc)
same_from_ids (x ∷ xs) [] r s h = absurd (let a = has_own x x.0 xs (itself x.0) in let c = h x.0 in cc)
same_from_ids (x ∷ xs) (y ∷ ys) r s h =
    let e : x ≡ y = heads x y xs ys r.0 s.0 h in
    let rest = same_from_ids xs ys r.1 s.1 (λ id. tails (is_row_of id) x xs ys (h id ∙ ap (λ (w : Row). filter (is_row_of id) (w ∷ ys)) (sym e))) in
    cc

-- ---- what keeps the order

filter_under : (p : Row → Bool) (id : List ℕ) (rows : List Row) → Under id rows → Under id (filter p rows)
filter_under p id [] u = tt
filter_under p id (row ∷ rows) u = elim (cases_Bool (p row)) [ inl e ↦ rw e (u.0, filter_under p id rows u.1) | inr e ↦ rw e (filter_under p id rows u.1) ]

pub filter_rises : (p : Row → Bool) (rows : List Row) → Rises rows → Rises (filter p rows)
filter_rises p [] r = tt
filter_rises p (row ∷ rows) r = elim (cases_Bool (p row)) [ inl e ↦ rw e (filter_under p row.0 rows r.0, filter_rises p rows r.1) | inr e ↦ rw e (filter_rises p rows r.1) ]

under_chain : (x y : List ℕ) (rows : List Row) → less y x ≡ false → Under y rows → Under x rows
under_chain x y [] l u = tt
under_chain x y (w ∷ rows) l u = (ranks.chain w.0 y x u.0 l, under_chain x y rows l u.1)

insert_under : (id : List ℕ) (new : Row) (rows : List Row) → less new.0 id ≡ false → Under id rows → Under id (insert_row new rows)
insert_under id new [] l u = (l, tt)
insert_under id new (row ∷ rows) l u = elim (cases_Bool (less new.0 row.0)) [ inl e ↦ rw e (l, u) | inr e ↦ rw e (u.0, insert_under id new rows l u.1) ]

pub insert_rises : (new : Row) (rows : List Row) → Rises rows → Rises (insert_row new rows)
insert_rises new [] r = (tt, tt)
insert_rises new (row ∷ rows) r =
    elim (cases_Bool (less new.0 row.0)) [
      | inl e ↦ let back : less row.0 new.0 ≡ false = ranks.one_way new.0 row.0 e in rw e ((back, under_chain new.0 row.0 rows back r.0), r)
      | inr e ↦ rw e (insert_under row.0 new rows e r.0, insert_rises new rows r.1)
    ]

-- ---- a sorted list rises

abbrev Far : List Row → Type 0
Far rows = (i j : ℕ) (d : Row) → i ≤ j → j < length rows → less (get_or rows j d).0 (get_or rows i d).0 ≡ false

under_from_far : (id : List ℕ) (rows : List Row) → ((k : ℕ) (d : Row) → k < length rows → less (get_or rows k d).0 id ≡ false) → Under id rows
under_from_far id [] h = tt
under_from_far id (row ∷ rows) h = (h 0 row (omega arith), under_from_far id rows (λ k d l. h (suc k) d (omega arith)))

pub rises_from_far : (rows : List Row) → Far rows → Rises rows
rises_from_far [] f = tt
rises_from_far (row ∷ rows) f =
    (under_from_far row.0 rows (λ k d l. f 0 (suc k) d (omega arith) (omega arith)), rises_from_far rows (λ i j d le l. f (suc i) (suc j) d (omega arith) (omega arith)))
