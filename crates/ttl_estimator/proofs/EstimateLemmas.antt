-- Entries of keys after a write of one.
use Rattle.std.proofs.Common.{◌≡◌, Bool, true, Option, Some, None, IsSome, is_some, unwrap_or, option_map, cond, refl, sym, ap, ◌∙◌, subst, inl, inr}
use Rattle.std.specs.Map.{lookup}
use Rattle.std.proofs.lemmas.Bool.{cases_Bool}
use Rattle.indexmap.specs.IndexMap.{IndexMap, get_by, WritesThrough}
use Rattle.query_normal.specs.declared.key.KeyShape.{KeyShape}
use Rattle.query_normal.specs.Keys.{same_key}
use Rattle.query_normal.specs.SameKey.{same_key-Decides}
use Rattle.ttl_estimator.specs.declared.estimates.Kept.{Kept}
use Rattle.ttl_estimator.specs.Estimates.{Entries, Keeps, is_known, kept_of}

module _ {S : Type 0} (old new : IndexMap KeyShape (Option Kept) S) (key : KeyShape) (was now : Option Kept) where
  -- the entry of the key was written
  written_key : get_by (same_key key) old ≡ Some was → WritesThrough same_key (same_key key) old now new → (other : KeyShape) →
      lookup (same_key other) new.entries ≡ cond (same_key key other) (Some now) (lookup (same_key other) old.entries)
  written_key found writes other = (writes.3 (subst IsSome (sym found) refl)).0 other

  -- the same keys have an entry
  pub known_after : get_by (same_key key) old ≡ Some was → WritesThrough same_key (same_key key) old now new → (other : KeyShape) → is_known new.entries other ≡ is_known old.entries other
  known_after found writes other =
      elim (cases_Bool (same_key key other)) [
        | inl hit ↦ (
            let is : key ≡ other = (same_key-Decides key other).0 hit in
            ap is_some (written_key found writes other ∙ ap (λ (b : Bool). cond b (Some now) (lookup (same_key other) old.entries)) hit)
            ∙ sym (ap is_some (ap (λ (k : KeyShape). lookup (same_key k) old.entries) (sym is) ∙ found)))
        | inr miss ↦ ap is_some (written_key found writes other ∙ ap (λ (b : Bool). cond b (Some now) (lookup (same_key other) old.entries)) miss)
      ]

  -- the key has what was written, and each other key what it had
  pub kept_after : (f : Kept → Kept) → now ≡ option_map f was → get_by (same_key key) old ≡ Some was → WritesThrough same_key (same_key key) old now new → (other : KeyShape) →
      kept_of new.entries other ≡ cond (same_key key other) (option_map f (kept_of old.entries key)) (kept_of old.entries other)
  kept_after f made found writes other =
      elim (cases_Bool (same_key key other)) [
        | inl hit ↦ rw (written_key found writes other, hit, found) made
        | inr miss ↦ rw (written_key found writes other, miss) refl
      ]

-- a key without an entry has nothing to write
pub unknown_after : (entries : Entries) (key : KeyShape) (f : Kept → Kept) → lookup (same_key key) entries ≡ None → (other : KeyShape) →
    kept_of entries other ≡ cond (same_key key other) (option_map f (kept_of entries key)) (kept_of entries other)
unknown_after entries key f absent other =
    elim (cases_Bool (same_key key other)) [
      | inl hit ↦ (
          let is : key ≡ other = (same_key-Decides key other).0 hit in
          let none : lookup (same_key other) entries ≡ None = ap (λ (k : KeyShape). lookup (same_key k) entries) (sym is) ∙ absent in
          rw (hit, absent, none) refl)
      | inr miss ↦ rw (miss) refl
    ]

-- a key was put in that was not there
pub keeps_new : (old new : Entries) (key : KeyShape) → lookup (same_key key) old ≡ None → ((other : KeyShape) → lookup (same_key other) new ≡ cond (same_key key other) (Some None) (lookup (same_key other) old)) → Keeps old new
keeps_new old new key absent put other =
    elim (cases_Bool (same_key key other)) [
      | inl hit ↦ (
          let is : key ≡ other = (same_key-Decides key other).0 hit in
          inr (ap (λ (k : KeyShape). lookup (same_key k) old) (sym is) ∙ absent, put other ∙ ap (λ (b : Bool). cond b (Some None) (lookup (same_key other) old)) hit))
      | inr miss ↦ inl (put other ∙ ap (λ (b : Bool). cond b (Some None) (lookup (same_key other) old)) miss)
    ]

-- entries that are as they were or new keep what is kept of each key
pub same_kept : (old new : Entries) (key : KeyShape) → Keeps old new → kept_of new key ≡ kept_of old key
same_kept old new key keeps =
    elim (keeps key) [
      | inl same ↦ ap (λ (o : Option (Option Kept)). unwrap_or o None) same
      | inr added ↦ ap (λ (o : Option (Option Kept)). unwrap_or o None) added.1 ∙ sym (ap (λ (o : Option (Option Kept)). unwrap_or o None) added.0)
    ]

-- a key without an entry has nothing to drop
pub unknown_idle : (entries : Entries) (key : KeyShape) → lookup (same_key key) entries ≡ None → (other : KeyShape) → kept_of entries other ≡ cond (same_key key other) None (kept_of entries other)
unknown_idle entries key absent other =
    elim (cases_Bool (same_key key other)) [
      | inl hit ↦ (
          let is : key ≡ other = (same_key-Decides key other).0 hit in
          let none : lookup (same_key other) entries ≡ None = ap (λ (k : KeyShape). lookup (same_key k) entries) (sym is) ∙ absent in
          rw (hit, none) refl)
      | inr miss ↦ rw (miss) refl
    ]

-- ---- an entry that is dropped

-- what is kept has an entry
some_known : (found : Option (Option Kept)) → is_some (unwrap_or found None) ≡ true → is_some found ≡ true
some_known None h = h
some_known (Some kept) h = refl

pub known_kept : (entries : Entries) (key : KeyShape) → is_some (kept_of entries key) ≡ true → (other : KeyShape) → is_known entries other ≡ cond (same_key key other) (is_some (kept_of entries key)) (is_known entries other)
known_kept entries key kept other =
    elim (cases_Bool (same_key key other)) [
      | inl hit ↦ (
          let is : key ≡ other = (same_key-Decides key other).0 hit in
          ap (is_known entries) (sym is)
          ∙ some_known (lookup (same_key key) entries) kept
          ∙ sym (ap (λ (b : Bool). cond b (is_some (kept_of entries key)) (is_known entries other)) hit ∙ kept))
      | inr miss ↦ rw (miss) refl
    ]

module _ (old new : Entries) (key : KeyShape) (none : kept_of old key ≡ None) (drops : (other : KeyShape) → lookup (same_key other) new ≡ cond (same_key key other) None (lookup (same_key other) old)) where
  -- what is kept stays
  pub forgotten_kept : (other : KeyShape) → kept_of new other ≡ kept_of old other
  forgotten_kept other =
      elim (cases_Bool (same_key key other)) [
        | inl hit ↦ (
            let is : key ≡ other = (same_key-Decides key other).0 hit in
            ap (λ (o : Option (Option Kept)). unwrap_or o None) (drops other ∙ ap (λ (b : Bool). cond b None (lookup (same_key other) old)) hit)
            ∙ sym (ap (kept_of old) (sym is) ∙ none))
        | inr miss ↦ ap (λ (o : Option (Option Kept)). unwrap_or o None) (drops other ∙ ap (λ (b : Bool). cond b None (lookup (same_key other) old)) miss)
      ]
