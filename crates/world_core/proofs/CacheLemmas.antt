-- What a cache holds stays issued, whatever is done with it.
use Rattle.std.proofs.Common.{◌≡◌, ℕ, ◌-◌, Bool, true, List, [], ◌∷◌, length, take, Option, Some, None, refl, sym, ap, subst, inl, inr, zero, suc}
use Rattle.std.specs.Prelude.{unwrap_or, if◌then◌else◌}
use Rattle.std.specs.Map.{lookup, remove_entry, set_value}
use Rattle.std.proofs.lemmas.Bool.{cases_Bool}
use Rattle.query_normal.specs.declared.key.KeyShape.{KeyShape}
use Rattle.query_normal.specs.Keys.{same_key}
use Rattle.query_normal.specs.SameKey.{same_key-Decides}
use Rattle.hub_model.specs.Later.{IsLater}
use Rattle.hub_model.specs.State.{State}
use Rattle.client_model.specs.declared.reply.Reply.{Reply}
use Rattle.cache_model.specs.Cache.{Held, beside, brought_first, held_by, is_storable, offered, purged, same_tag, touched, updated, updated_pairs, without_last}
use Rattle.world_core.specs.Link.{AreHeld, HoldsIssued, IsHeldReply}
use Rattle.world_core.proofs.IssuedLemmas.{OfPrefixes, held_later}

-- of another spelling of the key
pub of_key : (s : State) (key other : KeyShape) (reply : Reply) → same_key key other ≡ true → IsHeldReply s other reply → IsHeldReply s key reply
of_key s key other reply same h = subst (λ (k : KeyShape). IsHeldReply s k reply) (sym ((same_key-Decides key other).0 same)) h

to_key : (s : State) (key other : KeyShape) (reply : Reply) → same_key key other ≡ true → IsHeldReply s key reply → IsHeldReply s other reply
to_key s key other reply same h = subst (λ (k : KeyShape). IsHeldReply s k reply) ((same_key-Decides key other).0 same) h

-- what is found
pub found_held : (s : State) (key : KeyShape) (pairs : List (KeyShape × Reply)) (reply : Reply) → AreHeld s pairs → lookup (same_key key) pairs ≡ Some reply → IsHeldReply s key reply
found_held s key [] reply h e = cc
found_held s key (p ∷ ps) reply h e = elim (cases_Bool (same_key key p.0)) [
  | inl same ↦ (
      let found : Some p.1 ≡ Some reply = rw same at e in
      let value : p.1 ≡ reply = ap (λ (o : Option Reply). unwrap_or o p.1) found in
      of_key s key p.0 reply same (subst (λ (r : Reply). IsHeldReply s p.0 r) value h.0))
  | inr other ↦ found_held s key ps reply h.1 (rw other at e)
]

-- what is left
removed : (s : State) (test : KeyShape → Bool) (pairs : List (KeyShape × Reply)) → AreHeld s pairs → AreHeld s (remove_entry test pairs)
removed s test [] h = tt
removed s test (p ∷ ps) h = elim (cases_Bool (test p.0)) [ inl same ↦ rw same h.1 | inr other ↦ rw other (h.0, removed s test ps h.1) ]

taken : (s : State) (n : ℕ) (pairs : List (KeyShape × Reply)) → AreHeld s pairs → AreHeld s (take n pairs)
taken s zero pairs h = tt
taken s (suc n) [] h = tt
taken s (suc n) (p ∷ ps) h = (h.0, taken s n ps h.1)

set : (s : State) (key : KeyShape) (pairs : List (KeyShape × Reply)) (reply : Reply) → AreHeld s pairs → IsHeldReply s key reply → AreHeld s (set_value (same_key key) pairs reply)
set s key [] reply h new = tt
set s key (p ∷ ps) reply h new = elim (cases_Bool (same_key key p.0)) [
  | inl same ↦ rw same (to_key s key p.0 reply same new, h.1)
  | inr other ↦ rw other (h.0, set s key ps reply h.1 new)
]

-- ---- the calls of a cache

touched_by : (s : State) (key : KeyShape) (pairs : List (KeyShape × Reply)) (held : Option Reply) → lookup (same_key key) pairs ≡ held → AreHeld s pairs → AreHeld s (brought_first key held pairs)
touched_by s key pairs None e h = h
touched_by s key pairs (Some reply) e h = (found_held s key pairs reply h e, removed s (same_key key) pairs h)

pub touched_holds : (s : State) (cache : Held) (key : KeyShape) → HoldsIssued s cache → HoldsIssued s (touched cache key)
touched_holds s cache key h = touched_by s key cache.pairs (held_by cache key) refl h

beside_holds : (s : State) (key : KeyShape) (capacity : ℕ) (pairs : List (KeyShape × Reply)) (held : Option Reply) → AreHeld s pairs → AreHeld s (beside key capacity held pairs)
beside_holds s key capacity pairs None h = taken s (capacity - 1) pairs h
beside_holds s key capacity pairs (Some old) h = removed s (same_key key) pairs h

pub offered_holds : (s : State) (cache : Held) (key : KeyShape) (reply : Reply) → HoldsIssued s cache → IsHeldReply s key reply → HoldsIssued s (offered cache key reply)
offered_holds s cache key reply h new = elim (cases_Bool (is_storable reply)) [
  | inl stored ↦ rw stored (new, beside_holds s key cache.capacity cache.pairs (held_by cache key) h)
  | inr other ↦ rw other h
]

pub updated_holds : (s : State) (key : KeyShape) (reply : Reply) (pairs : List (KeyShape × Reply)) (held : Option Reply) → AreHeld s pairs
    → ((old : Reply) → held ≡ Some old → same_tag old.tag reply.tag ≡ true → IsHeldReply s key (updated old reply)) → AreHeld s (updated_pairs key reply held pairs)
updated_holds s key reply pairs None h new = h
updated_holds s key reply pairs (Some old) h new = elim (cases_Bool (same_tag old.tag reply.tag)) [
  | inl same ↦ rw same (set s key pairs (updated old reply) h (new old refl same))
  | inr other ↦ rw other h
]

pub purged_holds : (s : State) (cache : Held) (key : KeyShape) → HoldsIssued s cache → HoldsIssued s (purged cache key)
purged_holds s cache key h = removed s (same_key key) cache.pairs h

pub last_holds : (s : State) (cache : Held) → HoldsIssued s cache → HoldsIssued s (without_last cache)
last_holds s cache h = taken s (length cache.pairs - 1) cache.pairs h

-- ---- later states

pub holds_later : OfPrefixes → (s t : State) → IsLater s t → (pairs : List (KeyShape × Reply)) → AreHeld s pairs → AreHeld t pairs
holds_later of_prefix s t later [] h = tt
holds_later of_prefix s t later (p ∷ ps) h = (held_later of_prefix s t p.0 p.1 later h.0, holds_later of_prefix s t later ps h.1)
