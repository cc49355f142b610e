-- Documents in buckets: after a change of one id, and all together.
use Rattle.std.proofs.Common.{◌≡◌, ◌⊎◌, ℕ, zero, suc, ◌+◌, ◌<◌, ◌≤◌, ◌==◌, if◌then◌else◌, List, [], ◌∷◌, ◌++◌, length, get_or, filter, map, replicate, slice_get, slice_set, Bool, true, false, Option, None, Some, inl, inr, refl, sym, ap, ◌∙◌, subst, arith}
use Rattle.std.specs.List.{flat_map}
use Rattle.std.specs.Str.{bytes_eq}
use Rattle.std.proofs.lemmas.Bool.{cases_Bool, eq-eqb, eqb-true, eqb-false, ne_eqb}
use Rattle.std.proofs.lemmas.List.{append-nil, length-set, length-replicate, map-append, replicate_more}
use Rattle.std.proofs.lemmas.List.Elements.{filter-append}
use Rattle.std.proofs.lemmas.Slice.Eq.{bytes_eq-Decides}
use Rattle.q_doc.specs.Tree.{Tree}
use Rattle.commit_book.specs.Documents.{HasDocuments, is_row_of, list_of, row_of}
use Rattle.query_core.specs.Changes.{IsChange}
use Rattle.query_core.specs.Window.{Row}
use Rattle.bucket_store.specs.Buckets.{Found, HasBuckets, bucket_count, bucket_of, in_bucket, with_document}
use Rattle.bucket_store.proofs.RisingLemmas.{flip}

-- the rows of what is found of an id
abbrev rows_of : List ℕ → Option (ℕ × Tree) → List Row
rows_of id found = list_of (row_of id found)

-- ---- a bucket that is replaced

-- an item of a list in which one was replaced is that one, or stood elsewhere before
pub get_set : {X : Type 0} (xs : List X) (i j : ℕ) (y z : X) → slice_get (slice_set xs i y) j ≡ Some z → ((j ≡ i) × (z ≡ y)) ⊎ (((j ≡ i) → ⊥) × (slice_get xs j ≡ Some z))
get_set [] i j y z e = absurd (cc)
get_set (x ∷ xs) zero zero y z e = inl (refl, (let same : y ≡ z = cc in sym same))
get_set (x ∷ xs) zero (suc j) y z e = inr (λ same. absurd (omega (arith, same)), e)
get_set (x ∷ xs) (suc i) zero y z e = inr (λ same. absurd (omega (arith, same)), e)
get_set (x ∷ xs) (suc i) (suc j) y z e =
    elim (get_set xs i j y z e) [
      | inl p ↦ inl (ap suc p.0, p.1)
      | inr p ↦ inr (λ same. p.0 (omega (arith, same)), p.1)
    ]

module _ (found : Found) (own : List ℕ) (document : Option (ℕ × Tree)) where
  abbrev after : Found
  after = with_document own document found

  -- a bucket of the id
  in_own : (index : ℕ) (rows others : List Row) → index ≡ bucket_of own → HasDocuments (in_bucket found index) rows → IsChange own (row_of own document) rows others → HasDocuments (in_bucket after index) others
  in_own index rows others here have change id =
      elim (cases_Bool (bytes_eq own id)) [
        | inl e ↦
            let same : own ≡ id = (bytes_eq-Decides own id).0 e in
            let there : (bucket_of id == index) ≡ true = eq-eqb (bucket_of id) index (ap bucket_of (sym same) ∙ sym here) in
            rw (there, e) (subst (λ (x : List ℕ). filter (is_row_of x) others ≡ rows_of x document) same change.own)
        | inr e ↦ rw e (change.same id (flip id own ∙ e) ∙ have id)
      ]

  -- and any other
  in_other : (index : ℕ) (rows : List Row) → ((index ≡ bucket_of own) → ⊥) → HasDocuments (in_bucket found index) rows → HasDocuments (in_bucket after index) rows
  in_other index rows apart have id =
      elim (cases_Bool (bytes_eq own id)) [
        | inl e ↦
            let same : own ≡ id = (bytes_eq-Decides own id).0 e in
            let off : (bucket_of id == index) ≡ false = ne_eqb (bucket_of id) index (λ at. apart (sym at ∙ ap bucket_of (sym same))) in
            (let was = have id in rw off (rw off at was))
        | inr e ↦ rw e (have id)
      ]

  -- the bucket of the id alone has changed
  pub has_after : (buckets : List (List Row)) (rows others : List Row) → HasBuckets found buckets → slice_get buckets (bucket_of own) ≡ Some rows → IsChange own (row_of own document) rows others
      → HasBuckets after (slice_set buckets (bucket_of own) others)
  has_after buckets rows others has at change = record {
    count = length-set buckets (bucket_of own) others ∙ has.count;
    each = λ index seen there. elim (get_set buckets (bucket_of own) index others seen there) [
      | inl p ↦ subst (HasDocuments (in_bucket after index)) (sym p.1) (in_own index rows others p.0 (has.each index rows (ap (slice_get buckets) p.0 ∙ at)) change)
      | inr p ↦ in_other index seen p.0 (has.each index seen p.1)
    ];
  }

-- the same of items whose views are the buckets
module _ {X : Type 0} (f : X → List Row) where
  map_set : (items : List X) (i : ℕ) (new : X) → map f (slice_set items i new) ≡ slice_set (map f items) i (f new)
  map_set [] i new = refl
  map_set (x ∷ xs) zero new = refl
  map_set (x ∷ xs) (suc i) new = ap (λ (l : List (List Row)). f x ∷ l) (map_set xs i new)

  get_map : (items : List X) (i : ℕ) (old : X) → i < length items → old ≡ get_or items i old → slice_get (map f items) i ≡ Some (f old)
  get_map [] i old low e = absurd (omega arith)
  get_map (x ∷ xs) zero old low e = ap (λ (y : X). Some (f y)) (sym e)
  get_map (x ∷ xs) (suc i) old low e = get_map xs i old (omega arith) e

  pub kept_in : (items : List X) (i : ℕ) (old new : X) → old ≡ get_or items i old → f new ≡ f old → map f (slice_set items i new) ≡ map f items
  kept_in [] i old new e same = refl
  kept_in (x ∷ xs) zero old new e same = ap (λ (y : List Row). y ∷ map f xs) (same ∙ ap f e)
  kept_in (x ∷ xs) (suc i) old new e same = ap (λ (l : List (List Row)). f x ∷ l) (kept_in xs i old new e same)

  pub changed_in : (found : Found) (own : List ℕ) (document : Option (ℕ × Tree)) (items : List X) (i : ℕ) (old new : X) → i ≡ bucket_of own → i < length items → old ≡ get_or items i old
      → IsChange own (row_of own document) (f old) (f new) → HasBuckets found (map f items) → HasBuckets (with_document own document found) (map f (slice_set items i new))
  changed_in found own document items i old new here low e change has =
      let at : slice_get (map f items) (bucket_of own) ≡ Some (f old) = ap (slice_get (map f items)) (sym here) ∙ get_map items i old low e in
      let moved : slice_set (map f items) (bucket_of own) (f new) ≡ map f (slice_set items i new) = ap (λ (n : ℕ). slice_set (map f items) n (f new)) (sym here) ∙ sym (map_set items i new) in
      subst (HasBuckets (with_document own document found)) moved (has_after found own document (map f items) (f old) (f new) has at change)

-- ---- the same documents, and none

pub has_same : (found others : Found) (buckets : List (List Row)) → ((id : List ℕ) → found id ≡ others id) → HasBuckets found buckets → HasBuckets others buckets
has_same found others buckets same has = record {
  count = has.count;
  each = λ index rows at id. has.each index rows at id ∙ ap (λ (o : Option (ℕ × Tree)). rows_of id (if bucket_of id == index then o else None)) (same id);
}

get_replicate : (n index : ℕ) (rows : List Row) → slice_get (replicate n []) index ≡ Some rows → rows ≡ []
get_replicate zero index rows e = absurd (cc)
get_replicate (suc n) zero rows e = (let same : [] ≡ rows = cc in sym same)
get_replicate (suc n) (suc index) rows e = get_replicate n index rows e

pub has_none : (buckets : List (List Row)) → buckets ≡ replicate bucket_count [] → HasBuckets (λ _. None) buckets
has_none buckets e = record {
  count = ap length e ∙ length-replicate {A = List Row} bucket_count [];
  each = λ index rows at id. (let none = get_replicate bucket_count index rows (ap (λ (l : List (List Row)). slice_get l index) (sym e) ∙ at) in
      ap (filter (is_row_of id)) none ∙ by id (bucket_of id == index));
}
  where
    by : (id : List ℕ) (b : Bool) → [] ≡ rows_of id (if b then None else None)
    by id true = refl
    by id false = refl

-- one empty bucket more
pub empty_more : {X : Type 0} (f : X → List Row) (items : List X) (new : X) (n : ℕ) → map f items ≡ replicate n [] → f new ≡ [] → map f (items ++ new ∷ []) ≡ replicate (n + 1) []
empty_more f items new n e none =
    map-append f items (new ∷ [])
    ∙ ap (λ (l : List (List Row)). l ++ f new ∷ []) e
    ∙ ap (λ (rows : List Row). replicate n [] ++ rows ∷ []) none
    ∙ replicate_more n []

-- ---- all buckets together

module _ (found : Found) (id : List ℕ) where
  -- the buckets from a number on have the documents that belong into them
  abbrev AreFrom : ℕ → List (List Row) → Type 0
  AreFrom first buckets = (index : ℕ) (rows : List Row) → slice_get buckets index ≡ Some rows → HasDocuments (in_bucket found (first + index)) rows

  rest : (first : ℕ) (rows : List Row) (buckets : List (List Row)) → AreFrom first (rows ∷ buckets) → AreFrom (suc first) buckets
  rest first rows buckets are index seen at =
      let e : first + suc index ≡ suc first + index = omega arith in
      subst (λ (n : ℕ). HasDocuments (in_bucket found n) seen) e (are (suc index) seen at)

  first_of : (first : ℕ) (rows : List Row) (buckets : List (List Row)) → AreFrom first (rows ∷ buckets) → HasDocuments (in_bucket found first) rows
  first_of first rows buckets are =
      let e : first + zero ≡ first = omega arith in
      subst (λ (n : ℕ). HasDocuments (in_bucket found n) rows) e (are zero rows refl)

  apart : (first : ℕ) (rows : List Row) (buckets : List (List Row)) → AreFrom first (rows ∷ buckets) → ((bucket_of id ≡ first) → ⊥) → filter (is_row_of id) rows ≡ []
  apart first rows buckets are off =
      let e : (bucket_of id == first) ≡ false = ne_eqb (bucket_of id) first off in
      let was = first_of first rows buckets are id in
      rw e at was

  missed : (first : ℕ) (buckets : List (List Row)) → AreFrom first buckets → bucket_of id < first → filter (is_row_of id) (flat_map (λ rows. rows) buckets) ≡ []
  missed first [] are low = refl
  missed first (rows ∷ buckets) are low =
      let own = apart first rows buckets are (λ same. absurd (omega (arith, same, low))) in
      let more = missed (suc first) buckets (rest first rows buckets are) (omega (arith, low)) in
      filter-append (is_row_of id) rows (flat_map (λ r. r) buckets) ∙ ap (λ (l : List Row). l ++ filter (is_row_of id) (flat_map (λ r. r) buckets)) own ∙ more

  hit : (first : ℕ) (buckets : List (List Row)) → AreFrom first buckets → first ≤ bucket_of id → bucket_of id < first + length buckets → filter (is_row_of id) (flat_map (λ rows. rows) buckets) ≡ rows_of id (found id)
  hit first [] are low high = absurd (omega (arith, low, high))
  hit first (rows ∷ buckets) are low high =
      filter-append (is_row_of id) rows (flat_map (λ r. r) buckets)
      ∙ elim (cases_Bool (bucket_of id == first)) [
        | inl e ↦
            let same : bucket_of id ≡ first = eqb-true (bucket_of id) first e in
            let was = first_of first rows buckets are id in
            let own : filter (is_row_of id) rows ≡ rows_of id (found id) = rw e at was in
            let none = missed (suc first) buckets (rest first rows buckets are) (omega (arith, same)) in
            ap (λ (l : List Row). filter (is_row_of id) rows ++ l) none ∙ append-nil (filter (is_row_of id) rows) ∙ own
        | inr e ↦
            let off : (bucket_of id ≡ first) → ⊥ = eqb-false (bucket_of id) first e in
            let more = hit (suc first) buckets (rest first rows buckets are) (omega (arith, low, off)) (omega (arith, high)) in
            ap (λ (l : List Row). l ++ filter (is_row_of id) (flat_map (λ r. r) buckets)) (apart first rows buckets are off) ∙ more
      ]

pub below_count : (id : List ℕ) → bucket_of id < bucket_count
unfolding bucket_of
below_count id = omega arith

-- together they have each document once
pub all_documents : (found : Found) (buckets : List (List Row)) → HasBuckets found buckets → HasDocuments found (flat_map (λ rows. rows) buckets)
all_documents found buckets has id =
    let low = below_count id in
    let size = has.count in
    hit found id zero buckets (λ index rows at. subst (λ (n : ℕ). HasDocuments (in_bucket found n) rows) (omega arith) (has.each index rows at)) (omega arith) (omega (arith, low, size))

pub no_documents : (found : Found) → ((id : List ℕ) → found id ≡ None) → HasDocuments found []
no_documents found none id = sym (ap (rows_of id) (none id))
