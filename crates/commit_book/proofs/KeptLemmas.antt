-- The rows that are kept: up to the horizon those whose documents are there, and all above it.
use Rattle.std.proofs.Common.{◌≡◌, ℕ, zero, suc, ◌+◌, ◌≤◌, Bool, true, false, not, ◌&&◌, ◌||◌, List, [], ◌∷◌, ◌++◌, take, drop, filter, length, Option, Some, None, is_some, option_map, if◌then◌else◌, slice_get, sum_by, refl, sym, ap, ap₂, ◌∙◌, arith, inl, inr}
use Rattle.std.specs.List.{list_any}
use Rattle.std.specs.Str.{bytes_eq}
use Rattle.std.proofs.lemmas.Bool.{cases_Bool, and_parts}
use Rattle.std.proofs.lemmas.List.Elements.{filter-append}
use Rattle.std.proofs.lemmas.List.Folds.{list_any-append}
use Rattle.std.proofs.lemmas.List.Sums.{sum_by-append}
use Rattle.std.proofs.lemmas.Slice.Eq.{bytes_eq-Decides}
use mathlib.Core.List.{append-nil}
use Rattle.q_doc.specs.TextOrder.{text_eq_equiv}
use Rattle.q_doc.specs.Tree.{Tree}
use Rattle.commit_book.specs.declared.change.Change.{Change}
use Rattle.commit_book.proofs.CommitLemmas.{item_at}
use Rattle.commit_book.proofs.OrderLemmas.{itself}
use Rattle.commit_book.specs.Documents.{list_of}
use Rattle.commit_book.specs.Index.{base_cost, freed_by}
use Rattle.commit_book.specs.Journal.{is_of, put_at, document_after, document_at, cost_of, bases, kept, kept_rows}

-- ---- changes of one record

-- the second change is of the record of the first
abbrev same_record : Change → Change → Bool
same_record a b = is_of a.collection a.id b

same_symm : (a b : Change) → same_record a b ≡ same_record b a
same_symm a b = ap₂ (λ (x y : Bool). x && y) (text_eq_equiv.symm b.id a.id) (text_eq_equiv.symm b.collection a.collection)

-- a change of a record has its names
pub names_are : (collection id : List ℕ) (change : Change) → is_of collection id change ≡ true → (change.collection ≡ collection) × (change.id ≡ id)
names_are collection id change own =
    let parts = and_parts (bytes_eq change.id id) (bytes_eq change.collection collection) own in
    ((bytes_eq-Decides change.collection collection).0 parts.1, (bytes_eq-Decides change.id id).0 parts.0)

-- the change, where it puts a document
abbrev put_list : Change → List Change
put_list change = if is_some change.document then change ∷ [] else []

-- ---- lists

-- there is an item
abbrev pub some_in : {X : Type 0} → List X → Bool
some_in [] = false
some_in (x ∷ xs) = true

pub take_next : {X : Type 0} (xs : List X) (n : ℕ) (x : X) → slice_get xs n ≡ Some x → take (suc n) xs ≡ take n xs ++ x ∷ []
take_next [] n x e = absurd (cc)
take_next (y ∷ ys) zero x e = (let same : y ≡ x = cc in ap (λ (z : _). z ∷ []) same)
take_next (y ∷ ys) (suc n) x e = ap (λ (zs : List _). y ∷ zs) (take_next ys n x e)

pub take_end : {X : Type 0} (xs : List X) (n : ℕ) → slice_get xs n ≡ None → take (suc n) xs ≡ take n xs
take_end [] zero e = refl
take_end [] (suc n) e = refl
take_end (y ∷ ys) zero e = absurd (cc)
take_end (y ∷ ys) (suc n) e = ap (λ (zs : List _). y ∷ zs) (take_end ys n e)

pub drop_next : {X : Type 0} (xs : List X) (n : ℕ) (x : X) → slice_get xs n ≡ Some x → drop n xs ≡ x ∷ drop (suc n) xs
drop_next [] n x e = absurd (cc)
drop_next (y ∷ ys) zero x e = (let same : y ≡ x = cc in ap (λ (z : _). z ∷ ys) same)
drop_next (y ∷ ys) (suc n) x e = drop_next ys n x e

module _ {X : Type 0} (p : X → Bool) where
  filter_twice : (q : X → Bool) (xs : List X) → ((x : X) → p x ≡ true → q x ≡ true) → filter p (filter q xs) ≡ filter p xs
  filter_twice q [] h = refl
  filter_twice q (x ∷ xs) h =
      elim (cases_Bool (p x)) [
        | inl e ↦ let f = h x e in rw (f, e) (ap (λ (l : List X). x ∷ l) (filter_twice q xs h))
        | inr e ↦ elim (cases_Bool (q x)) [ inl f ↦ rw (f, e) (filter_twice q xs h) | inr f ↦ rw (f, e) (filter_twice q xs h) ]
      ]

  filter_none : (q : X → Bool) (xs : List X) → ((x : X) → q x ≡ true → p x ≡ false) → filter p (filter q xs) ≡ []
  filter_none q [] h = refl
  filter_none q (x ∷ xs) h = elim (cases_Bool (q x)) [ inl f ↦ let e = h x f in rw (f, e) (filter_none q xs h) | inr f ↦ rw f (filter_none q xs h) ]

  sum_first : (cost : X → ℕ) (x : X) (xs : List X) → sum_by cost (x ∷ xs) ≡ cost x + sum_by cost xs
  sum_first cost x xs = (let parts = sum_by-append cost (x ∷ []) xs in omega (arith, parts))

  sum_parts : (cost : X → ℕ) (xs : List X) → sum_by cost xs ≡ sum_by cost (filter p xs) + sum_by cost (filter (λ x. not (p x)) xs)
  sum_parts cost [] = refl
  sum_parts cost (x ∷ xs) =
      let rest = sum_parts cost xs in
      let whole = sum_first cost x xs in
      let first = sum_first cost x (filter p xs) in
      let second = sum_first cost x (filter (λ x. not (p x)) xs) in
      elim (cases_Bool (p x)) [ inl e ↦ rw e (omega (arith, rest, whole, first)) | inr e ↦ rw e (omega (arith, rest, whole, second)) ]

  any_filter : (xs : List X) → list_any p xs ≡ some_in (filter p xs)
  any_filter [] = refl
  any_filter (x ∷ xs) = elim (cases_Bool (p x)) [ inl e ↦ rw e refl | inr e ↦ rw e (any_filter xs) ]

-- ---- the bases after one change more

not_true : (b : Bool) → not b ≡ true → b ≡ false
not_true true h = absurd (cc)
not_true false h = refl

bases_more : (xs : List Change) (x : Change) → bases (xs ++ x ∷ []) ≡ filter (λ y. not (same_record x y)) (bases xs) ++ put_list x
bases_more [] x = by (is_some x.document)
  where
    by : (b : Bool) → (if b && not false then x ∷ [] else []) ≡ [] ++ (if b then x ∷ [] else [])
    by true = refl
    by false = refl
bases_more (y ∷ ys) x =
    let more : list_any (same_record y) (ys ++ x ∷ []) ≡ (list_any (same_record y) ys || (same_record x y || false)) =
    list_any-append (same_record y) ys (x ∷ []) ∙ ap (λ (b : Bool). list_any (same_record y) ys || (b || false)) (same_symm y x) in
    ap (λ (b : Bool). if is_some y.document && not b then y ∷ bases (ys ++ x ∷ []) else bases (ys ++ x ∷ [])) more
    ∙ by (is_some y.document) (list_any (same_record y) ys) (same_record x y) refl (bases_more ys x)
  where
    by : (d l s : Bool) → same_record x y ≡ s → bases (ys ++ x ∷ []) ≡ filter (λ z. not (same_record x z)) (bases ys) ++ put_list x →
        (if d && not (l || (s || false)) then y ∷ bases (ys ++ x ∷ []) else bases (ys ++ x ∷ []))
        ≡ filter (λ z. not (same_record x z)) (if d && not l then y ∷ bases ys else bases ys) ++ put_list x
    by true true s e rest = rest
    by true false true e rest = rw e rest
    by true false false e rest = rw e (ap (λ (l : List Change). y ∷ l) rest)
    by false l s e rest = rest

-- ---- of each record the document that it has there

-- the change that puts a document under the names of a record
abbrev pub put_change : List ℕ → List ℕ → ℕ × Tree → Change
put_change collection id d = record { collection = collection; id = id; document = Some d.1 }

module _ (journal : List Change) (collection id : List ℕ) where
  pub base_of : (n : ℕ) → filter (is_of collection id) (bases (take n journal)) ≡ list_of (option_map (put_change collection id) (document_at journal n collection id))
  base_of zero = refl
  base_of (suc n) = by (slice_get journal n) refl (base_of n)
    where
      by : (change : Option Change) → slice_get journal n ≡ change → filter (is_of collection id) (bases (take n journal)) ≡ list_of (option_map (put_change collection id) (document_at journal n collection id)) →
          filter (is_of collection id) (bases (take (suc n) journal)) ≡ list_of (option_map (put_change collection id) (document_after collection id (suc n) change (document_at journal n collection id)))
      by None e before = ap (λ (xs : List Change). filter (is_of collection id) (bases xs)) (take_end journal n e) ∙ before
      by (Some x) e before =
          ap (λ (xs : List Change). filter (is_of collection id) (bases xs)) (take_next journal n x e)
          ∙ ap (filter (is_of collection id)) (bases_more (take n journal) x)
          ∙ filter-append (is_of collection id) (filter (λ y. not (same_record x y)) (bases (take n journal))) (put_list x)
          ∙ elim (cases_Bool (is_of collection id x)) [
            | inl own ↦ rw own (ap₂ (λ (xs ys : List Change). xs ++ ys) (without own) (put_own own))
            | inr other ↦ rw other (ap₂ (λ (xs ys : List Change). xs ++ ys) (stays other) (put_other other) ∙ append-nil (filter (is_of collection id) (bases (take n journal))) ∙ before)
          ]
        where
          without : is_of collection id x ≡ true → filter (is_of collection id) (filter (λ y. not (same_record x y)) (bases (take n journal))) ≡ []
          without own =
              let names = names_are collection id x own in
              filter_none (is_of collection id) (λ y. not (same_record x y)) (bases (take n journal))
              (λ y apart. ap₂ (λ (c i : List ℕ). is_of c i y) (sym names.0) (sym names.1) ∙ not_true (same_record x y) apart)

          put_own : is_of collection id x ≡ true → filter (is_of collection id) (put_list x) ≡ list_of (option_map (put_change collection id) (put_at (suc n) x.document))
          put_own own = there x.document refl
            where
              there : (document : Option Tree) → x.document ≡ document → filter (is_of collection id) (put_list x) ≡ list_of (option_map (put_change collection id) (put_at (suc n) document))
              there None e = rw e refl
              there (Some tree) e =
                  let names = names_are collection id x own in
                  rw (e, own) (ap₂ (λ (c i : List ℕ). put_change c i (suc n, tree) ∷ []) names.0 names.1)

          stays : is_of collection id x ≡ false → filter (is_of collection id) (filter (λ y. not (same_record x y)) (bases (take n journal))) ≡ filter (is_of collection id) (bases (take n journal))
          stays other = filter_twice (is_of collection id) (λ y. not (same_record x y)) (bases (take n journal)) apart
            where
              apart : (y : Change) → is_of collection id y ≡ true → not (same_record x y) ≡ true
              apart y own =
                  elim (cases_Bool (same_record x y)) [
                    | inl same ↦
                        absurd (let mine = names_are collection id y own in
                        let its = names_are x.collection x.id y same in
                        let back : is_of collection id x ≡ true =
                        ap₂ (λ (i c : List ℕ). bytes_eq i id && bytes_eq c collection) (sym its.1 ∙ mine.1) (sym its.0 ∙ mine.0) ∙ ap₂ (λ (a b : Bool). a && b) (itself id) (itself collection) in
                        cc)
                    | inr differs ↦ ap not differs
                  ]

          put_other : is_of collection id x ≡ false → filter (is_of collection id) (put_list x) ≡ []
          put_other other = there (is_some x.document)
            where
              there : (b : Bool) → filter (is_of collection id) (if b then x ∷ [] else []) ≡ []
              there true = rw other refl
              there false = refl

  -- a record has a kept row where it has a document at the horizon or a change above it
  pub any_kept : (horizon : ℕ) → list_any (is_of collection id) (kept_rows journal horizon) ≡ (is_some (document_at journal horizon collection id) || list_any (is_of collection id) (drop horizon journal))
  any_kept horizon =
      list_any-append (is_of collection id) (bases (take horizon journal)) (drop horizon journal)
      ∙ ap (λ (b : Bool). b || list_any (is_of collection id) (drop horizon journal))
      (any_filter (is_of collection id) (bases (take horizon journal)) ∙ ap some_in (base_of horizon) ∙ there (document_at journal horizon collection id))
    where
      there : (o : Option (ℕ × Tree)) → some_in (list_of (option_map (put_change collection id) o)) ≡ is_some o
      there None = refl
      there (Some d) = refl

-- ---- the sum

base_sum : (collection id : List ℕ) (o : Option (ℕ × Tree)) → sum_by cost_of (list_of (option_map (put_change collection id) o)) ≡ base_cost collection id o
unfolding cost_of
base_sum collection id None = refl
base_sum collection id (Some d) = omega arith

put_sum : (x : Change) → sum_by cost_of (put_list x) + (if is_some x.document then 0 else cost_of x) ≡ cost_of x
put_sum x = by (is_some x.document)
  where
    by : (b : Bool) → sum_by cost_of (if b then x ∷ [] else []) + (if b then 0 else cost_of x) ≡ cost_of x
    by true = omega arith
    by false = omega arith

-- a row that is dropped frees the base of its record, and itself where it puts no document
pub kept_step : (journal : List Change) (horizon : ℕ) (x : Change) → slice_get journal horizon ≡ Some x → kept journal (suc horizon) + freed_by x (document_at journal horizon x.collection x.id) ≡ kept journal horizon
kept_step journal horizon x at =
    let before = bases (take horizon journal) in
    let rest = drop (suc horizon) journal in
    let others = filter (λ y. not (same_record x y)) before in
    let now = ap (λ (xs : List Change). sum_by cost_of (xs ++ rest)) (ap bases (take_next journal horizon x at) ∙ bases_more (take horizon journal) x) in
    let split = sum_by-append cost_of (others ++ put_list x) rest in
    let halves = sum_by-append cost_of others (put_list x) in
    let was = ap (λ (xs : List Change). sum_by cost_of (before ++ xs)) (drop_next journal horizon x at) in
    let parts = sum_by-append cost_of before (x ∷ rest) in
    let own = sum_parts (same_record x) cost_of before in
    let base = ap (sum_by cost_of) (base_of journal x.collection x.id horizon) ∙ base_sum x.collection x.id (document_at journal horizon x.collection x.id) in
    let put = put_sum x in
    let first = sum_first (same_record x) cost_of x rest in
    omega (arith, now, split, halves, was, parts, own, base, put, first)

-- so the sum falls with the horizon, or stays
pub kept_falls : (journal : List Change) (horizon more : ℕ) → more + horizon ≤ length journal → kept journal (more + horizon) ≤ kept journal horizon
kept_falls journal horizon zero within = (let same : 0 + horizon ≡ horizon = omega arith in let e = ap (kept journal) same in omega (arith, e))
kept_falls journal horizon (suc more) within =
    let before = kept_falls journal horizon more (omega arith) in
    let row = item_at journal (more + horizon) (omega arith) in
    let step = kept_step journal (more + horizon) row.0 row.1 in
    let same : suc more + horizon ≡ suc (more + horizon) = omega arith in
    let e = ap (kept journal) same in
    omega (arith, before, step, e)
