-- Documents in byte order of their ids, after one is put or deleted.
use Rattle.std.proofs.Common.{◌≡◌, ℕ, zero, suc, ◌+◌, ◌<◌, ◌≤◌, List, [], ◌∷◌, length, get_or, filter, slice_set, Bool, true, false, None, Some, Ordering, Less, Equal, Greater, inl, inr, refl, sym, ap, ◌∙◌, subst, arith, Bor}
use denote.Param.Members.{Mut}
use Rattle.std.specs.Cmp.{decided}
use Rattle.std.specs.Cmp.Lexicographic.{slice_cmp, nat_list_cmp_total}
use Rattle.std.specs.Fn.{Called, ComputesKey}
use Rattle.std.specs.List.{AllByRecursion, insert, remove}
use Rattle.std.specs.List.Sorted.{IsBinarySearchResult, IsNonDecreasingBy, IsPartitionPoint}
use Rattle.std.specs.Ordering.{is_eq, is_lt, nat_cmp, ordering_index, ordering_reverse}
use Rattle.std.specs.Str.{bytes_eq}
use Rattle.std.specs.declared.result.Result.{Result}
use Rattle.std.proofs.lemmas.Bool.{cases_Bool}
use Rattle.std.proofs.lemmas.Fn.{always_returns_same}
use Rattle.std.proofs.lemmas.List.Sorted.{searchable_from_sorted}
use Rattle.std.proofs.lemmas.Map.Text.{is_eq-slice_cmp}
use Rattle.std.proofs.lemmas.Slice.Eq.{bytes_eq-Decides}
use Rattle.query_core.specs.Changes.{IsChange, is_of}
use Rattle.query_core.specs.Window.{Row}
use Rattle.bucket_store.specs.Rising.{IsBefore, Rises}

abbrev pub cmp : List ℕ → List ℕ → Ordering
cmp a b = slice_cmp nat_cmp a b

-- ---- ids

pub flip : (a b : List ℕ) → bytes_eq a b ≡ bytes_eq b a
flip a b = (decided bytes_eq bytes_eq-Decides).symm a b

itself : (id : List ℕ) → bytes_eq id id ≡ true
itself id = (bytes_eq-Decides id id).1 refl

below_apart : (a b : List ℕ) → cmp a b ≡ Less → bytes_eq a b ≡ false
below_apart a b e = sym (is_eq-slice_cmp a b) ∙ ap is_eq e

above_apart : (a b : List ℕ) → cmp a b ≡ Greater → bytes_eq a b ≡ false
above_apart a b e = sym (is_eq-slice_cmp a b) ∙ ap is_eq e

pub equal_ids : (a b : List ℕ) → cmp a b ≡ Equal → a ≡ b
equal_ids a b e = (bytes_eq-Decides a b).0 (sym (is_eq-slice_cmp a b) ∙ ap is_eq e)

turned : (a b : List ℕ) (o : Ordering) → cmp a b ≡ o → cmp b a ≡ ordering_reverse o
turned a b o e = nat_list_cmp_total.antisymm b a ∙ ap ordering_reverse e

-- ---- what a search finds

-- what a search by a closure says, where each call compares with one id
pub searched : {F : Type 0} {g : Mut F (Bor Row × Unit {0}) Ordering} {f : F} (ord : Row → Ordering) (rows : List Row) (r : Result ℕ ℕ) → ((o : Row → Ordering) → ComputesKey g o f → IsBinarySearchResult o rows r)
    → ((a : Bor Row × Unit {0}) (s : Ordering) (f' : F) → Called g f a s f' → (s ≡ ord a.0.now) × (f' ≡ f)) → IsBinarySearchResult ord rows r
searched {g = g} {f = f} ord rows r clause h = clause ord (always_returns_same g (λ a s. s ≡ ord a.0.now) f h)

all_at : (P : Row → Type 0) (rows : List Row) (i : ℕ) (d : Row) → AllByRecursion P rows → i < length rows → P (get_or rows i d)
all_at P [] i d all low = absurd (omega arith)
all_at P (x ∷ xs) zero d all low = all.0
all_at P (x ∷ xs) (suc i) d all low = all_at P xs i d all.1 (omega arith)

-- an earlier one comes before a later one
far : (rows : List Row) (k : ℕ) (d : Row) → Rises rows → suc k < length rows → cmp (get_or rows k d).0 (get_or rows (suc k) d).0 ≡ Less
far [] k d r low = absurd (omega arith)
far (x ∷ xs) zero d r low = all_at (IsBefore x) xs zero d r.0 (omega arith)
far (x ∷ xs) (suc k) d r low = far xs k d r.1 (omega arith)

next_far : (rows : List Row) (k : ℕ) (d : Row) → Rises rows → k + 1 < length rows → cmp (get_or rows k d).0 (get_or rows (k + 1) d).0 ≡ Less
next_far rows k d r low =
    let e : suc k ≡ k + 1 = omega arith in
    subst (λ (n : ℕ). cmp (get_or rows k d).0 (get_or rows n d).0 ≡ Less) e (far rows k d r (omega arith))

not_less : (a b : List ℕ) → cmp a b ≡ Less → is_lt (cmp b a) ≡ false
not_less a b e = ap is_lt (turned a b Less e)

abbrev pub IsPoint : List ℕ → List Row → ℕ → Type 0
IsPoint id rows i = IsPartitionPoint (λ (y : Row). cmp y.0 id ≡ Less) (λ (y : Row). cmp y.0 id ≡ Greater) rows i

-- rows that rise can be searched
pub searchable : (id : List ℕ) (rows : List Row) → Rises rows → IsNonDecreasingBy (λ (y : Row). ordering_index (cmp y.0 id)) rows
searchable id rows r = searchable_from_sorted nat_list_cmp_total (λ (y : Row). y.0) rows id (λ k d a b. not_less (get_or rows k d).0 (get_or rows (k + 1) d).0 (next_far rows k d r b))

-- ---- a row in the place of that of its id

none_behind : (id : List ℕ) (row : Row) (rows : List Row) → row.0 ≡ id → AllByRecursion (IsBefore row) rows → filter (is_of id) rows ≡ []
none_behind id row [] e all = refl
none_behind id row (later ∷ rows) e all =
    let f : bytes_eq later.0 id ≡ false = ap (bytes_eq later.0) (sym e) ∙ above_apart later.0 row.0 (turned row.0 later.0 Less all.0) in
    rw f (none_behind id row rows e all.1)

abbrev pub IsIdAt : List ℕ → List Row → ℕ → Type 0
IsIdAt id rows i = (d : Row) → (get_or rows i d).0 ≡ id

all_replaced : (row new : Row) (rows : List Row) (i : ℕ) → AllByRecursion (IsBefore row) rows → IsIdAt new.0 rows i → i < length rows → AllByRecursion (IsBefore row) (slice_set rows i new)
all_replaced row new [] i all same low = absurd (omega arith)
all_replaced row new (x ∷ xs) zero all same low = (subst (λ (id : List ℕ). cmp row.0 id ≡ Less) (same x) all.0, all.1)
all_replaced row new (x ∷ xs) (suc i) all same low = (all.0, all_replaced row new xs i all.1 same (omega arith))

pub replaced_rises : (new : Row) (rows : List Row) (i : ℕ) → Rises rows → IsIdAt new.0 rows i → i < length rows → Rises (slice_set rows i new)
replaced_rises new [] i r same low = absurd (omega arith)
replaced_rises new (x ∷ xs) zero r same low = (subst (λ (id : List ℕ). AllByRecursion (λ (later : Row). cmp id later.0 ≡ Less) xs) (same x) r.0, r.1)
replaced_rises new (x ∷ xs) (suc i) r same low = (all_replaced x new xs i r.0 same (omega arith), replaced_rises new xs i r.1 same (omega arith))

-- an id behind the first is not its id
not_first : (id : List ℕ) (x : Row) (xs : List Row) (i : ℕ) → AllByRecursion (IsBefore x) xs → IsIdAt id xs i → i < length xs → bytes_eq x.0 id ≡ false
not_first id x xs i all same low = below_apart x.0 id (subst (λ (own : List ℕ). cmp x.0 own ≡ Less) (same x) (all_at (IsBefore x) xs i x all low))

replaced_own : (new : Row) (rows : List Row) (i : ℕ) → Rises rows → IsIdAt new.0 rows i → i < length rows → filter (is_of new.0) (slice_set rows i new) ≡ new ∷ []
replaced_own new [] i r same low = absurd (omega arith)
replaced_own new (x ∷ xs) zero r same low = (let e = itself new.0 in rw e (ap (λ (l : List Row). new ∷ l) (none_behind new.0 x xs (same x) r.0)))
replaced_own new (x ∷ xs) (suc i) r same low = (let e = not_first new.0 x xs i r.0 same (omega arith) in rw e (replaced_own new xs i r.1 same (omega arith)))

-- two lists with the same first row
alike : (p : Row → Bool) (x : Row) (xs ys : List Row) → filter p xs ≡ filter p ys → filter p (x ∷ xs) ≡ filter p (x ∷ ys)
alike p x xs ys h = elim (cases_Bool (p x)) [ inl e ↦ rw e (ap (λ (l : List Row). x ∷ l) h) | inr e ↦ rw e h ]

replaced_other : (new : Row) (rows : List Row) (i : ℕ) (other : List ℕ) → bytes_eq other new.0 ≡ false → IsIdAt new.0 rows i → i < length rows → filter (is_of other) (slice_set rows i new) ≡ filter (is_of other) rows
replaced_other new [] i other apart same low = absurd (omega arith)
replaced_other new (x ∷ xs) zero other apart same low =
    let e : bytes_eq new.0 other ≡ false = flip new.0 other ∙ apart in
    let f : bytes_eq x.0 other ≡ false = ap (λ (id : List ℕ). bytes_eq id other) (same x) ∙ e in
    rw (e, f) refl
replaced_other new (x ∷ xs) (suc i) other apart same low = alike (is_of other) x (slice_set xs i new) xs (replaced_other new xs i other apart same (omega arith))

pub replaced : (new : Row) (rows : List Row) (i : ℕ) → Rises rows → IsIdAt new.0 rows i → i < length rows → IsChange new.0 (Some new) rows (slice_set rows i new)
replaced new rows i r same low = record {
  same = λ other apart. replaced_other new rows i other apart same low;
  own = replaced_own new rows i r same low;
}

-- ---- a row taken out

all_removed : (P : Row → Type 0) (rows : List Row) (i : ℕ) → AllByRecursion P rows → AllByRecursion P (remove rows i)
all_removed P [] zero all = tt
all_removed P [] (suc i) all = tt
all_removed P (x ∷ xs) zero all = all.1
all_removed P (x ∷ xs) (suc i) all = (all.0, all_removed P xs i all.1)

pub removed_rises : (rows : List Row) (i : ℕ) → Rises rows → Rises (remove rows i)
removed_rises [] zero r = tt
removed_rises [] (suc i) r = tt
removed_rises (x ∷ xs) zero r = r.1
removed_rises (x ∷ xs) (suc i) r = (all_removed (IsBefore x) xs i r.0, removed_rises xs i r.1)

removed_own : (id : List ℕ) (rows : List Row) (i : ℕ) → Rises rows → IsIdAt id rows i → i < length rows → filter (is_of id) (remove rows i) ≡ []
removed_own id [] i r same low = absurd (omega arith)
removed_own id (x ∷ xs) zero r same low = none_behind id x xs (same x) r.0
removed_own id (x ∷ xs) (suc i) r same low = (let e = not_first id x xs i r.0 same (omega arith) in rw e (removed_own id xs i r.1 same (omega arith)))

removed_other : (id : List ℕ) (rows : List Row) (i : ℕ) (other : List ℕ) → bytes_eq other id ≡ false → IsIdAt id rows i → i < length rows → filter (is_of other) (remove rows i) ≡ filter (is_of other) rows
removed_other id [] i other apart same low = absurd (omega arith)
removed_other id (x ∷ xs) zero other apart same low =
    let e : bytes_eq x.0 other ≡ false = ap (λ (own : List ℕ). bytes_eq own other) (same x) ∙ flip id other ∙ apart in
    rw e refl
removed_other id (x ∷ xs) (suc i) other apart same low = alike (is_of other) x (remove xs i) xs (removed_other id xs i other apart same (omega arith))

pub removed : (id : List ℕ) (rows : List Row) (i : ℕ) → Rises rows → IsIdAt id rows i → i < length rows → IsChange id None rows (remove rows i)
removed id rows i r same low = record {
  same = λ other apart. removed_other id rows i other apart same low;
  own = removed_own id rows i r same low;
}

-- ---- no row of the id

pub absent : (id : List ℕ) (rows : List Row) (i : ℕ) → i ≤ length rows → IsPoint id rows i → filter (is_of id) rows ≡ []
absent id [] i low point = refl
absent id (x ∷ xs) zero low point =
    let e : bytes_eq x.0 id ≡ false = above_apart x.0 id (point.1 zero x (omega arith) (omega arith)) in
    rw e (absent id xs zero (omega arith) (λ k d a b. absurd (omega arith), λ k d a b. point.1 (suc k) d (omega arith) (omega arith)))
absent id (x ∷ xs) (suc i) low point =
    let e : bytes_eq x.0 id ≡ false = below_apart x.0 id (point.0 zero x (omega arith) (omega arith)) in
    rw e (absent id xs i (omega arith) (λ k d a b. point.0 (suc k) d (omega arith) (omega arith), λ k d a b. point.1 (suc k) d (omega arith) (omega arith)))

pub unchanged : (id : List ℕ) (rows : List Row) (i : ℕ) → i ≤ length rows → IsPoint id rows i → IsChange id None rows rows
unchanged id rows i low point = record { same = λ other apart. refl; own = absent id rows i low point }

all_above : (id : List ℕ) (rows : List Row) → ((k : ℕ) (d : Row) → k < length rows → cmp (get_or rows k d).0 id ≡ Greater) → AllByRecursion (λ (later : Row). cmp id later.0 ≡ Less) rows
all_above id [] h = tt
all_above id (x ∷ xs) h = (turned x.0 id Greater (h zero x (omega arith)), all_above id xs (λ k d low. h (suc k) d (omega arith)))

all_inserted : (P : Row → Type 0) (new : Row) (rows : List Row) (i : ℕ) → P new → AllByRecursion P rows → AllByRecursion P (insert rows i new)
all_inserted P new [] zero own all = (own, tt)
all_inserted P new [] (suc i) own all = (own, tt)
all_inserted P new (x ∷ xs) zero own all = (own, all)
all_inserted P new (x ∷ xs) (suc i) own all = (all.0, all_inserted P new xs i own all.1)

pub inserted_rises : (new : Row) (rows : List Row) (i : ℕ) → i ≤ length rows → Rises rows → IsPoint new.0 rows i → Rises (insert rows i new)
inserted_rises new [] zero low r point = (tt, tt)
inserted_rises new [] (suc i) low r point = (tt, tt)
inserted_rises new (x ∷ xs) zero low r point = (all_above new.0 (x ∷ xs) (λ k d b. point.1 k d (omega arith) b), r)
inserted_rises new (x ∷ xs) (suc i) low r point = (
  all_inserted (IsBefore x) new xs i (point.0 zero x (omega arith) (omega arith)) r.0,
  inserted_rises new xs i (omega arith) r.1 (λ k d a b. point.0 (suc k) d (omega arith) (omega arith), λ k d a b. point.1 (suc k) d (omega arith) (omega arith)),
)

inserted_own : (p : Row → Bool) (new : Row) (rows : List Row) (i : ℕ) → p new ≡ true → filter p rows ≡ [] → filter p (insert rows i new) ≡ new ∷ []
inserted_own p new [] zero own none = rw own refl
inserted_own p new [] (suc i) own none = rw own refl
inserted_own p new (x ∷ xs) zero own none = rw own (ap (λ (l : List Row). new ∷ l) none)
inserted_own p new (x ∷ xs) (suc i) own none =
    elim (cases_Bool (p x)) [
      | inl e ↦ absurd (let f : x ∷ filter p xs ≡ [] = rw e at none in cc)
      | inr e ↦ (let f : filter p xs ≡ [] = rw e at none in rw e (inserted_own p new xs i own f))
    ]

inserted_other : (p : Row → Bool) (new : Row) (rows : List Row) (i : ℕ) → p new ≡ false → filter p (insert rows i new) ≡ filter p rows
inserted_other p new [] zero own = rw own refl
inserted_other p new [] (suc i) own = rw own refl
inserted_other p new (x ∷ xs) zero own = rw own refl
inserted_other p new (x ∷ xs) (suc i) own = alike p x (insert xs i new) xs (inserted_other p new xs i own)

pub inserted : (new : Row) (rows : List Row) (i : ℕ) → i ≤ length rows → IsPoint new.0 rows i → IsChange new.0 (Some new) rows (insert rows i new)
inserted new rows i low point = record {
  same = λ other apart. inserted_other (is_of other) new rows i (flip new.0 other ∙ apart);
  own = inserted_own (is_of new.0) new rows i (itself new.0) (absent new.0 rows i low point);
}

-- ---- what a search found in a list of the same rows

pub found_at : (id : List ℕ) (seen rows : List Row) (i : ℕ) → seen ≡ rows → i < length seen → ((d : Row) → cmp (get_or seen i d).0 id ≡ Equal) → IsIdAt id rows i × (i < length rows)
found_at id seen rows i e low at = subst (λ (l : List Row). IsIdAt id l i × (i < length l)) e (λ d. equal_ids (get_or seen i d).0 id (at d), low)

pub missed_at : (id : List ℕ) (seen rows : List Row) (i : ℕ) → seen ≡ rows → i ≤ length seen → (IsNonDecreasingBy (λ (y : Row). ordering_index (cmp y.0 id)) seen → IsPoint id seen i) → Rises rows → IsPoint id rows i × (i ≤ length rows)
missed_at id seen rows i e low point r = subst (λ (l : List Row). IsPoint id l i × (i ≤ length l)) e (point (searchable id seen (subst Rises (sym e) r)), low)
