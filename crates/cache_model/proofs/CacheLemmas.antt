-- What `lru`'s words for a list of pairs say in those of the cache.
use Rattle.std.proofs.Common.{◌≡◌, ℕ, ◌-◌, Bool, true, false, List, [], ◌∷◌, take, Option, Some, None, option_map, refl, sym, ap, ◌∙◌, inl, inr}
use Rattle.std.proofs.lemmas.Bool.{cases_Bool}
use Rattle.std.specs.Option.{option_map_or}
use Rattle.std.specs.Map.{lookup, lookup_entry, remove_entry}
use Rattle.lru.proofs.CallerLemmas.{Contains-lookup_entry}
use Rattle.query_normal.specs.declared.key.KeyShape.{KeyShape}
use Rattle.query_normal.specs.Keys.{same_key}
use Rattle.query_normal.specs.SameKey.{same_key-Decides}
use Rattle.client_model.specs.declared.reply.Reply.{Reply}
use Rattle.cache_model.specs.declared.manner.Manner.{Manner}
use Rattle.cache_model.specs.Cache.{answer_of, beside, brought_first, hit, may_hit, told_again, told_by, unless_hit}

-- the value that is found is that of the entry that is found
pub lookup_is : {K V : Type 0} (test : K → Bool) (es : List (K × V)) → lookup test es ≡ option_map (λ e. e.1) (lookup_entry test es)
lookup_is test [] = refl
lookup_is test (e ∷ es) = elim (cases_Bool (test e.0)) [ inl found ↦ rw found refl | inr other ↦ rw other (lookup_is test es) ]

-- the entry that is found has the key itself
key_is : (key : KeyShape) (pairs : List (KeyShape × Reply)) (e : KeyShape × Reply) → lookup_entry (same_key key) pairs ≡ Some e → e.0 ≡ key
key_is key pairs e found =
    sym ((same_key-Decides key e.0).0 (Contains-lookup_entry (same_key key) pairs e found).1)

-- a held key comes first
promoted_by : (key : KeyShape) (pairs : List (KeyShape × Reply)) (entry : Option (KeyShape × Reply)) → lookup_entry (same_key key) pairs ≡ entry
    → option_map_or (λ e. e ∷ remove_entry (same_key key) pairs) entry pairs ≡ brought_first key (option_map (λ e. e.1) entry) pairs
promoted_by key pairs None found = refl
promoted_by key pairs (Some e) found = ap (λ k. (k, e.1) ∷ remove_entry (same_key key) pairs) (key_is key pairs e found)

pub promoted_is : (key : KeyShape) (pairs : List (KeyShape × Reply))
    → option_map_or (λ e. e ∷ remove_entry (same_key key) pairs) (lookup_entry (same_key key) pairs) pairs ≡ brought_first key (lookup (same_key key) pairs) pairs
promoted_is key pairs =
    promoted_by key pairs (lookup_entry (same_key key) pairs) refl
    ∙ ap (λ held. brought_first key held pairs) (sym (lookup_is (same_key key) pairs))

-- a stored reply comes first
put_by : (key : KeyShape) (reply : Reply) (pairs : List (KeyShape × Reply)) (capacity : ℕ) (entry : Option (KeyShape × Reply))
    → lookup_entry (same_key key) pairs ≡ entry
    → option_map_or (λ e. (e.0, reply) ∷ remove_entry (same_key key) pairs) entry ((key, reply) ∷ take (capacity - 1) pairs)
    ≡ (key, reply) ∷ beside key capacity (option_map (λ e. e.1) entry) pairs
put_by key reply pairs capacity None found = refl
put_by key reply pairs capacity (Some e) found = ap (λ k. (k, reply) ∷ remove_entry (same_key key) pairs) (key_is key pairs e found)

pub put_is : (key : KeyShape) (reply : Reply) (pairs : List (KeyShape × Reply)) (capacity : ℕ)
    → option_map_or (λ e. (e.0, reply) ∷ remove_entry (same_key key) pairs) (lookup_entry (same_key key) pairs) ((key, reply) ∷ take (capacity - 1) pairs)
    ≡ (key, reply) ∷ beside key capacity (lookup (same_key key) pairs) pairs
put_is key reply pairs capacity =
    put_by key reply pairs capacity (lookup_entry (same_key key) pairs) refl
    ∙ ap (λ held. (key, reply) ∷ beside key capacity held pairs) (sym (lookup_is (same_key key) pairs))

-- a key that was brought first has the reply that it had
holds_by : (key : KeyShape) (pairs : List (KeyShape × Reply)) (held : Option Reply) → lookup (same_key key) pairs ≡ held
    → lookup (same_key key) (brought_first key held pairs) ≡ held
holds_by key pairs None none = none
holds_by key pairs (Some reply) found = let same : same_key key key ≡ true = (same_key-Decides key key).1 refl in rw same refl

pub holds_still : (key : KeyShape) (pairs : List (KeyShape × Reply))
    → lookup (same_key key) (brought_first key (lookup (same_key key) pairs) pairs) ≡ lookup (same_key key) pairs
holds_still key pairs = holds_by key pairs (lookup (same_key key) pairs) refl

pub promoted_holds : (key : KeyShape) (pairs : List (KeyShape × Reply))
    → lookup (same_key key) (option_map_or (λ e. e ∷ remove_entry (same_key key) pairs) (lookup_entry (same_key key) pairs) pairs) ≡ lookup (same_key key) pairs
promoted_holds key pairs = ap (lookup (same_key key)) (promoted_is key pairs) ∙ holds_still key pairs

-- an answer says what was told, with the reply that is held
unless_hit_again : (tag : Option ℕ) (held : Option Reply) → told_again (answer_of (unless_hit tag)) held ≡ unless_hit tag
unless_hit_again None held = refl
unless_hit_again (Some tag) held = refl

pub told_twice : (m : Manner) (moment : ℕ) (no_cache : Bool) (held : Option Reply)
    → told_again (answer_of (told_by m moment no_cache held)) held ≡ told_by m moment no_cache held
told_twice m moment no_cache None = refl
told_twice m moment no_cache (Some reply) = elim (cases_Bool (may_hit m moment no_cache reply)) [
  | inl fresh ↦ rw fresh refl
  | inr stale ↦ rw stale (unless_hit_again reply.tag (Some reply))
]
