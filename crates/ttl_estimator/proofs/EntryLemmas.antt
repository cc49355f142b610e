-- Entries of maps, by their names.
use Rattle.std.proofs.Common.{◌≡◌, ℕ, Bool, ◌&&◌, List, [], ◌∷◌, ◌++◌, Option, Some, slice_get, unwrap_or, option_and_then, true, false, cond, bytes_eq, refl, sym, ap, ◌∙◌, subst, inl, inr}
use Rattle.std.specs.Map.{lookup}
use Rattle.std.proofs.lemmas.Bool.{cases_Bool}
use Rattle.std.proofs.lemmas.Slice.Eq.{bytes_eq-Decides}
use Rattle.indexmap.specs.IndexMap.{IndexMap, index_of_by, set_value_at, values}
use Rattle.ttl_estimator.proofs.PlaceLemmas.{value_of, written_at}
use Rattle.ttl_estimator.specs.Rates.{last_eight}
use Rattle.ttl_estimator.specs.Records.{Extends, ExtendsAll, KeepOtherIds, KeepOthers, Ids, IsKeptOrNew, Names, clocks_of, clocks_under, entry_of}

-- a write under an id of one collection is a write of one record
written_one : (old new : Names) (collection id clocks : List ℕ) (was now : Ids) → lookup (bytes_eq collection) old ≡ Some was → ((other : List ℕ) → lookup (bytes_eq other) new ≡ cond (bytes_eq collection other) (Some now) (lookup (bytes_eq other) old)) →
    ((other : List ℕ) → lookup (bytes_eq other) now ≡ cond (bytes_eq id other) (Some clocks) (lookup (bytes_eq other) was)) → (c i : List ℕ) →
    entry_of new c i ≡ cond (bytes_eq collection c && bytes_eq id i) (Some clocks) (entry_of old c i)
written_one old new collection id clocks was now found put own c i =
    elim (cases_Bool (bytes_eq collection c)) [
      | inl hit ↦ (
          let same : collection ≡ c = (bytes_eq-Decides collection c).0 hit in
          let is : lookup (bytes_eq c) new ≡ Some now = put c ∙ ap (λ (b : Bool). cond b (Some now) (lookup (bytes_eq c) old)) hit in
          let there : lookup (bytes_eq c) old ≡ Some was = ap (λ (x : List ℕ). lookup (bytes_eq x) old) (sym same) ∙ found in
          rw (is, there, hit) (own i))
      | inr miss ↦ (
          let is : lookup (bytes_eq c) new ≡ lookup (bytes_eq c) old = put c ∙ ap (λ (b : Bool). cond b (Some now) (lookup (bytes_eq c) old)) miss in
          rw miss (ap (λ (o : Option Ids). option_and_then (λ ids. lookup (bytes_eq i) ids) o) is))
    ]

-- a write under an id
pub noted : {S : Type 0} (old : IndexMap (List ℕ) (List ℕ) S) (at : ℕ) (id was now : List ℕ) (clock : ℕ) → index_of_by (bytes_eq id) old ≡ Some at → slice_get (values old) at ≡ Some was → now ≡ last_eight (was ++ clock ∷ []) → (other : List ℕ) →
    lookup (bytes_eq other) (set_value_at old.entries at now) ≡ cond (bytes_eq id other) (Some (last_eight (clocks_under old.entries id ++ clock ∷ []))) (lookup (bytes_eq other) old.entries)
noted old at id was now clock place there is other =
    let own : clocks_under old.entries id ≡ was = ap (λ (o : Option (List ℕ)). unwrap_or o []) (value_of old at id place was there) in
    written_at old at id place now other
    ∙ ap (λ (xs : List ℕ). cond (bytes_eq id other) (Some xs) (lookup (bytes_eq other) old.entries)) (is ∙ ap (λ (xs : List ℕ). last_eight (xs ++ clock ∷ [])) (sym own))

module _ {S : Type 0} (old : IndexMap (List ℕ) Ids S) (at : ℕ) (collection : List ℕ) (was now : Ids) (place : index_of_by (bytes_eq collection) old ≡ Some at) (there : slice_get (values old) at ≡ Some was) where
  -- a write of a record
  pub noted_in : (id : List ℕ) (clock : ℕ) → ((other : List ℕ) → lookup (bytes_eq other) now ≡ cond (bytes_eq id other) (Some (last_eight (clocks_under was id ++ clock ∷ []))) (lookup (bytes_eq other) was)) → (c i : List ℕ) →
      entry_of (set_value_at old.entries at now) c i ≡ cond (bytes_eq collection c && bytes_eq id i) (Some (last_eight (clocks_of old.entries collection id ++ clock ∷ []))) (entry_of old.entries c i)
  noted_in id clock own c i =
      let found = value_of old at collection place was there in
      let clocks : clocks_of old.entries collection id ≡ clocks_under was id = ap (λ (o : Option Ids). unwrap_or (option_and_then (λ ids. lookup (bytes_eq id) ids) o) []) found in
      written_one old.entries (set_value_at old.entries at now) collection id (last_eight (clocks_under was id ++ clock ∷ [])) was now found (written_at old at collection place now) own c i
      ∙ ap (λ (xs : List ℕ). cond (bytes_eq collection c && bytes_eq id i) (Some (last_eight (xs ++ clock ∷ []))) (entry_of old.entries c i)) (sym clocks)

  -- the records of the collection are those that were written
  pub entry_in : (id : List ℕ) → entry_of (set_value_at old.entries at now) collection id ≡ lookup (bytes_eq id) now
  entry_in id =
      let own : bytes_eq collection collection ≡ true = (bytes_eq-Decides collection collection).1 refl in
      ap (λ (o : Option Ids). option_and_then (λ ids. lookup (bytes_eq id) ids) o)
      (written_at old at collection place now collection ∙ ap (λ (b : Bool). cond b (Some now) (lookup (bytes_eq collection) old.entries)) own)

  -- where each entry of the collection is kept or new, each of all is
  pub extends_in : Extends was now → ExtendsAll old.entries (set_value_at old.entries at now)
  extends_in extends c i =
      elim (cases_Bool (bytes_eq collection c)) [
        | inl hit ↦ (
            let same : collection ≡ c = (bytes_eq-Decides collection c).0 hit in
            let before : entry_of old.entries collection i ≡ lookup (bytes_eq i) was = ap (λ (o : Option Ids). option_and_then (λ ids. lookup (bytes_eq i) ids) o) (value_of old at collection place was there) in
            subst (λ (x : List ℕ). IsKeptOrNew (entry_of old.entries x i) (entry_of (set_value_at old.entries at now) x i)) same
            (rw (before, entry_in i) (extends i)))
        | inr miss ↦ inl (
            ap (λ (o : Option Ids). option_and_then (λ ids. lookup (bytes_eq i) ids) o)
            (written_at old at collection place now c ∙ ap (λ (b : Bool). cond b (Some now) (lookup (bytes_eq c) old.entries)) miss))
      ]

  -- where the entries of the other ids of the collection are as they were, those of the other records are
  pub others_in : (id : List ℕ) → KeepOtherIds id was now → KeepOthers collection id old.entries (set_value_at old.entries at now)
  others_in id keep c i other =
      elim (cases_Bool (bytes_eq collection c)) [
        | inl hit ↦ (
            let same : collection ≡ c = (bytes_eq-Decides collection c).0 hit in
            let apart : bytes_eq id i ≡ false = ap (λ (b : Bool). b && bytes_eq id i) (sym hit) ∙ other in
            let before : entry_of old.entries collection i ≡ lookup (bytes_eq i) was = ap (λ (o : Option Ids). option_and_then (λ ids. lookup (bytes_eq i) ids) o) (value_of old at collection place was there) in
            subst (λ (x : List ℕ). entry_of (set_value_at old.entries at now) x i ≡ entry_of old.entries x i) same (entry_in i ∙ keep i apart ∙ sym before))
        | inr miss ↦ ap (λ (o : Option Ids). option_and_then (λ ids. lookup (bytes_eq i) ids) o)
            (written_at old at collection place now c ∙ ap (λ (b : Bool). cond b (Some now) (lookup (bytes_eq c) old.entries)) miss)
      ]
