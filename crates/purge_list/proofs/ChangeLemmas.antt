-- The last changes of keys after an entry was made or written.
use Rattle.std.proofs.Common.{◌≡◌, ℕ, true, ◌&&◌, max, Some, None, IsSome, cond, refl, sym, ap, subst, inl, inr}
use Rattle.std.specs.Map.{lookup}
use Rattle.std.proofs.lemmas.Bool.{cases_Bool}
use Rattle.indexmap.specs.IndexMap.{IndexMap, get_by, WritesThrough}
use Rattle.query_normal.specs.declared.key.KeyShape.{KeyShape}
use Rattle.query_normal.specs.Keys.{same_key}
use Rattle.query_normal.specs.SameKey.{same_key-Decides}
use Rattle.purge_list.specs.LastChanges.{Changes, change_of, is_known}

-- an equal key has the same entry
same_entry : (entries : Changes) (key other : KeyShape) → same_key key other ≡ true → lookup (same_key other) entries ≡ lookup (same_key key) entries
same_entry entries key other hit = ap (λ (k : KeyShape). lookup (same_key k) entries) (sym ((same_key-Decides key other).0 hit))

-- a key was put in with commit 0 that was not there
pub reserved_new : (old new : Changes) (key : KeyShape) → lookup (same_key key) old ≡ None →
    ((other : KeyShape) → lookup (same_key other) new ≡ cond (same_key key other) (Some 0) (lookup (same_key other) old)) → (other : KeyShape) → change_of new other ≡ change_of old other
reserved_new old new key absent put other =
    elim (cases_Bool (same_key key other)) [
      | inl hit ↦ rw (put other, hit, same_entry old key other hit, absent) refl
      | inr miss ↦ rw (put other, miss) refl
    ]

module _ {S : Type 0} (old new : IndexMap KeyShape ℕ S) (key : KeyShape) (was now : ℕ) (found : get_by (same_key key) old ≡ Some was) (writes : WritesThrough same_key (same_key key) old now new) where
  -- the entry of the key was written
  written : (other : KeyShape) → lookup (same_key other) new.entries ≡ cond (same_key key other) (Some now) (lookup (same_key other) old.entries)
  written other = (writes.3 (subst IsSome (sym found) refl)).0 other

  -- the same keys have an entry
  pub known_after : (other : KeyShape) → is_known new.entries other ≡ is_known old.entries other
  known_after other =
      elim (cases_Bool (same_key key other)) [
        | inl hit ↦ rw (written other, hit, same_entry old.entries key other hit, found) refl
        | inr miss ↦ rw (written other, miss) refl
      ]

  -- the commit of the key was raised
  pub raised : (commit : ℕ) → now ≡ max was commit → (other : KeyShape) →
      change_of new.entries other ≡ cond (same_key key other && is_known old.entries key) (max (change_of old.entries other) commit) (change_of old.entries other)
  raised commit is other =
      elim (cases_Bool (same_key key other)) [
        | inl hit ↦ rw (written other, hit, same_entry old.entries key other hit, found) is
        | inr miss ↦ rw (written other, miss) refl
      ]

-- a key without an entry is not raised
pub not_raised : (entries : Changes) (key : KeyShape) (commit : ℕ) → lookup (same_key key) entries ≡ None → (other : KeyShape) →
    change_of entries other ≡ cond (same_key key other && is_known entries key) (max (change_of entries other) commit) (change_of entries other)
not_raised entries key commit absent other =
    elim (cases_Bool (same_key key other)) [
      | inl hit ↦ rw (hit, absent) refl
      | inr miss ↦ rw miss refl
    ]
