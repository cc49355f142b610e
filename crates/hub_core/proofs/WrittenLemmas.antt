-- The records that have an entry for the clocks of their writes.
use Rattle.std.proofs.Common.{◌≡◌, ℕ, Bool, true, false, ◌&&◌, ◌||◌, List, [], ◌∷◌, ◌++◌, Option, Some, None, IsTrue, is_some, if◌then◌else◌, bytes_eq, refl, sym, ap, ap₂, ◌∙◌, subst₂, inl, inr}
use Rattle.std.specs.List.{list_any}
use Rattle.std.proofs.lemmas.Bool.{cases_Bool, and_parts}
use Rattle.std.proofs.lemmas.List.Folds.{list_any-append}
use Rattle.std.proofs.lemmas.Slice.Eq.{bytes_eq-Decides}
use Rattle.commit_book.specs.declared.change.Change.{Change}
use Rattle.commit_book.specs.Journal.{is_of}
use Rattle.ttl_estimator.specs.Estimator.{Estimated, has_record}
use Rattle.ttl_estimator.specs.Records.{KeepOthers, Names, entry_of}
use Rattle.hub_core.specs.Lifetimes.{MakesEntry, has_entry}

-- an entry was made, and no other
pub entry-made : (change : Change) (old new : Estimated) → IsTrue (has_record new change.collection change.id) → KeepOthers change.collection change.id old.records new.records → MakesEntry (Some change) old.records new.records
entry-made change old new known others collection id = elim (cases_Bool (is_of collection id change)) [
  | inl own ↦ (
      let parts = and_parts (bytes_eq change.id id) (bytes_eq change.collection collection) own in
      subst₂ (λ (c i : List ℕ). has_entry new.records c i ≡ true) ((bytes_eq-Decides change.collection collection).0 parts.1) ((bytes_eq-Decides change.id id).0 parts.0) known
      ∙ sym (ap (λ (b : Bool). b || has_entry old.records collection id) own))
  | inr apart ↦ (
      ap is_some (others collection id (turned (bytes_eq change.id id) (bytes_eq change.collection collection) apart))
      ∙ sym (ap (λ (b : Bool). b || has_entry old.records collection id) apart))
]
  where
    turned : (a b : Bool) → (a && b) ≡ false → (b && a) ≡ false
    turned true true e = e
    turned true false e = refl
    turned false true e = refl
    turned false false e = refl

-- a write was noted
pub entry-noted : (change : Change) (old new : Names) (clocks : List ℕ) → ((c i : List ℕ) → entry_of new c i ≡ (if bytes_eq change.collection c && bytes_eq change.id i then Some clocks else entry_of old c i)) → MakesEntry (Some change) old new
entry-noted change old new clocks written collection id = ap is_some (written collection id) ∙ by (bytes_eq change.collection collection) (bytes_eq change.id id)
  where
    by : (a b : Bool) → is_some (if a && b then Some clocks else entry_of old collection id) ≡ ((b && a) || is_some (entry_of old collection id))
    by true true = refl
    by true false = refl
    by false true = refl
    by false false = refl

-- the records that have an entry are those of the journal with the change
pub entries-written : (journal longer : List Change) (change : Change) (old made left noted : Names) → ((c i : List ℕ) → has_entry old c i ≡ list_any (is_of c i) journal) → MakesEntry (Some change) old made → left ≡ made → MakesEntry (Some change) left noted → longer ≡ journal ++ change ∷ []
    → (c i : List ℕ) → has_entry noted c i ≡ list_any (is_of c i) longer
entries-written journal longer change old made left noted were entered same written longer_is c i =
    written c i
    ∙ ap (λ (b : Bool). is_of c i change || b) (ap (λ (names : Names). has_entry names c i) same ∙ entered c i ∙ ap (λ (b : Bool). is_of c i change || b) (were c i))
    ∙ once (is_of c i change) (list_any (is_of c i) journal)
    ∙ sym (list_any-append (is_of c i) journal (change ∷ []))
    ∙ ap (list_any (is_of c i)) (sym longer_is)
  where
    once : (a b : Bool) → (a || (a || b)) ≡ (b || (a || false))
    once true true = refl
    once true false = refl
    once false true = refl
    once false false = refl
