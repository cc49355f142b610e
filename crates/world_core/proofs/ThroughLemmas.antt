-- A read through a cache: what it answers is issued, and so is what the cache then holds.
use Rattle.std.proofs.Common.{◌≡◌, ℕ, List, [], ◌∷◌, length, Option, Some, None, refl, sym, ap, subst, inl, inr}
use Rattle.std.specs.Prelude.{◌⊎◌, ◌==◌, Bool, true, false, Result, Ok, Err, IfOk, if◌then◌else◌, unwrap_or}
use Rattle.std.proofs.Common.{◌∙◌}
use Rattle.std.proofs.lemmas.Bool.{cases_Bool, eq-eqb, ne_eqb}
use Rattle.query_normal.specs.declared.key.KeyShape.{KeyShape}
use Rattle.hub_model.specs.declared.entry.Tags.TheVariants.{Listed}
use Rattle.hub_model.specs.Later.{IsLater}
use Rattle.hub_model.specs.Reply.{answered}
use Rattle.hub_model.specs.Setting.{Setting}
use Rattle.hub_model.specs.State.{State}
use Rattle.hub_model.specs.Step.{has_read}
use Rattle.client_model.specs.declared.reply.Reply.{Reply}
use Rattle.cache_model.specs.declared.lookup.Answer.TheVariants as answer
use Rattle.cache_model.specs.declared.manner.Manner.{Manner}
use Rattle.cache_model.specs.Cache.{Held, Told, hit, validate, miss, answer_of, freshened, held_by, looked_up, may_hit, offered, touched, unless_hit, told_by as told_of_cache}
use Rattle.world_core.specs.Link.{HoldsIssued, IsHeldReply, IsAnswered, IsReadThrough, IsSomeAnswer, IsSomeRead, settled, told_by}
use Rattle.world_core.specs.Replies.{read_reply}
use Rattle.world_core.specs.Store.{StoreView, answer_to, read_entry, state_in, state_now, with_read}
use Rattle.world_core.proofs.CacheLemmas.{found_held, holds_later, offered_holds, touched_holds, updated_holds}
use Rattle.world_core.proofs.IssuedLemmas.{Known, OfPrefixes, read_held, updated_held}
use Rattle.world_core.proofs.LinkLemmas.{Behind}

-- ---- one read of the store, in a state whose clock is that of the read

module _ (known : Known) (g : Setting) (s : State) (key : KeyShape) (tags : List ℕ) where
  abbrev reply : Reply
  reply = read_reply (answered g key (Listed tags) (length s.journal) s)

  abbrev after : State
  after = has_read g key (length s.journal) s

  settled_holds : (cache : Held) → HoldsIssued after cache → HoldsIssued after (settled cache key reply)
  settled_holds cache h = elim (cases_Bool (reply.status == 304)) [
    | inl same ↦ rw same (updated_holds after key reply cache.pairs (held_by cache key) h (λ old found alike.
        updated_held g s key tags known old (found_held after key cache.pairs old h found) alike same))
    | inr other ↦ rw other (offered_holds after cache key reply h (read_held g s key tags other))
  ]

  told_held : (cache : Held) (told : Reply) → HoldsIssued after (settled cache key reply) → told_by (settled cache key reply) key reply ≡ Some told → IsHeldReply after key told
  told_held cache told h e = elim (cases_Bool (reply.status == 304)) [
    | inl same ↦ (
        let held : held_by (settled cache key reply) key ≡ Some told = subst (λ (b : Bool). (if b then held_by (settled cache key reply) key else Some reply) ≡ Some told) same e in
        found_held after key (settled cache key reply).pairs told h held)
    | inr other ↦ (
        let is : Some reply ≡ Some told = subst (λ (b : Bool). (if b then held_by (settled cache key reply) key else Some reply) ≡ Some told) other e in
        subst (λ (r : Reply). IsHeldReply after key r) (ap (λ (o : Option Reply). unwrap_or o reply) is) (read_held g s key tags other))
  ]

-- ---- the store with its history

-- the state behind a read
behind_read : Behind → (s : StoreView) (key : KeyShape) (tag : Option ℕ) → state_in (with_read s key tag) ≡ has_read s.setting key (length (state_now s).journal) (state_now s)
behind_read behind s key tag = behind s.setting s.entries (read_entry s key tag ∷ [])

answer_holds : Known → Behind → (s : StoreView) (key : KeyShape) (tag : Option ℕ) (cache : Held) → HoldsIssued (state_in (with_read s key tag)) cache
    → HoldsIssued (state_in (with_read s key tag)) (settled cache key (read_reply (answer_to s key tag)))
answer_holds known behind s key None cache h =
    subst (λ (t : State). HoldsIssued t (settled cache key (read_reply (answer_to s key None)))) (sym (behind_read behind s key None))
    (settled_holds known s.setting (state_now s) key [] cache (subst (λ (t : State). HoldsIssued t cache) (behind_read behind s key None) h))
answer_holds known behind s key (Some tag) cache h =
    subst (λ (t : State). HoldsIssued t (settled cache key (read_reply (answer_to s key (Some tag))))) (sym (behind_read behind s key (Some tag)))
    (settled_holds known s.setting (state_now s) key (tag ∷ []) cache (subst (λ (t : State). HoldsIssued t cache) (behind_read behind s key (Some tag)) h))

answer_held : Known → Behind → (s : StoreView) (key : KeyShape) (tag : Option ℕ) (cache : Held) (told : Reply) → HoldsIssued (state_in (with_read s key tag)) (settled cache key (read_reply (answer_to s key tag)))
    → told_by (settled cache key (read_reply (answer_to s key tag))) key (read_reply (answer_to s key tag)) ≡ Some told → IsHeldReply (state_in (with_read s key tag)) key told
answer_held known behind s key None cache told h e =
    subst (λ (t : State). IsHeldReply t key told) (sym (behind_read behind s key None))
    (told_held known s.setting (state_now s) key [] cache told (subst (λ (t : State). HoldsIssued t (settled cache key (read_reply (answer_to s key None)))) (behind_read behind s key None) h) e)
answer_held known behind s key (Some tag) cache told h e =
    subst (λ (t : State). IsHeldReply t key told) (sym (behind_read behind s key (Some tag)))
    (told_held known s.setting (state_now s) key (tag ∷ []) cache told (subst (λ (t : State). HoldsIssued t (settled cache key (read_reply (answer_to s key (Some tag))))) (behind_read behind s key (Some tag)) h) e)

-- ---- the cache and the store

-- what the cache holds after it asked, whatever came of that
some_answer_holds : Known → Behind → OfPrefixes → (tag : Option ℕ) (s t : StoreView) (old new : Held) (key : KeyShape) → IsLater (state_in s) (state_in t) → HoldsIssued (state_in s) old
    → IsSomeAnswer tag s t old new key → HoldsIssued (state_in t) new
some_answer_holds known behind of_prefix tag s t old new key later h (inl only) =
    subst (λ (c : Held). HoldsIssued (state_in t) c) (sym only) (holds_later of_prefix (state_in s) (state_in t) later (touched old key).pairs (touched_holds (state_in s) old key h))
some_answer_holds known behind of_prefix tag s t old new key later h (inr both) =
    let kept : HoldsIssued (state_in t) (touched old key) = holds_later of_prefix (state_in s) (state_in t) later (touched old key).pairs (touched_holds (state_in s) old key h) in
    let there : HoldsIssued (state_in (with_read s key tag)) (touched old key) = subst (λ (u : StoreView). HoldsIssued (state_in u) (touched old key)) both.0 kept in
    subst (λ (c : Held). HoldsIssued (state_in t) c) (sym both.1)
    (subst (λ (u : StoreView). HoldsIssued (state_in u) (settled (touched old key) key (read_reply (answer_to s key tag)))) (sym both.0) (answer_holds known behind s key tag (touched old key) there))

pub some_read_holds : Known → Behind → OfPrefixes → (told : Told) (s t : StoreView) (old new : Held) (key : KeyShape) → IsLater (state_in s) (state_in t) → HoldsIssued (state_in s) old
    → IsSomeRead told s t old new key → HoldsIssued (state_in t) new
some_read_holds known behind of_prefix (hit held) s t old new key later h is =
    subst (λ (c : Held). HoldsIssued (state_in t) c) (sym is.1) (subst (λ (u : StoreView). HoldsIssued (state_in u) (touched old key)) (sym is.0) (touched_holds (state_in s) old key h))
some_read_holds known behind of_prefix (validate tag) s t old new key later h is = some_answer_holds known behind of_prefix (Some tag) s t old new key later h is
some_read_holds known behind of_prefix miss s t old new key later h is = some_answer_holds known behind of_prefix None s t old new key later h is

-- what is answered
answered_held : Known → Behind → (tag : Option ℕ) (s t : StoreView) (old new : Held) (key : KeyShape) (reply : Reply) → HoldsIssued (state_in t) new → IsAnswered tag s t old new key reply → IsHeldReply (state_in t) key reply
answered_held known behind tag s t old new key reply h is =
    let r = read_reply (answer_to s key tag) in
    let cache : HoldsIssued (state_in t) (settled (touched old key) key r) = subst (λ (c : Held). HoldsIssued (state_in t) c) is.1 h in
    let there : HoldsIssued (state_in (with_read s key tag)) (settled (touched old key) key r) = subst (λ (u : StoreView). HoldsIssued (state_in u) (settled (touched old key) key r)) is.0 cache in
    let told : told_by (settled (touched old key) key r) key r ≡ Some reply = subst (λ (c : Held). told_by c key r ≡ Some reply) is.1 is.2 in
    subst (λ (u : StoreView). IsHeldReply (state_in u) key reply) (sym is.0) (answer_held known behind s key tag (touched old key) reply there told)

-- a hit is what the cache holds
pub through_held : Known → Behind → (told : Told) (s t : StoreView) (old new : Held) (key : KeyShape) (reply : Reply) → ((held : Reply) → told ≡ hit held → held_by old key ≡ Some held)
    → HoldsIssued (state_in s) old → HoldsIssued (state_in t) new → IsReadThrough told s t old new key reply → IsHeldReply (state_in t) key reply
through_held known behind (hit held) s t old new key got found h now is =
    subst (λ (r : Reply). IsHeldReply (state_in t) key r) (sym is.2)
    (subst (λ (u : StoreView). IsHeldReply (state_in u) key held) (sym is.0) (found_held (state_in s) key old.pairs held h (found held refl)))
through_held known behind (validate tag) s t old new key got found h now is = answered_held known behind (Some tag) s t old new key got now is
through_held known behind miss s t old new key got found h now is = answered_held known behind None s t old new key got now is

-- ---- the steps of a read

-- a hit is the held reply
no_hit : (tag : Option ℕ) (held : Reply) → unless_hit tag ≡ hit held → ⊥
no_hit None held e = cc
no_hit (Some tag) held e = cc

hit_if : (b : Bool) (reply held : Reply) → (if b then hit reply else unless_hit reply.tag) ≡ hit held → Some reply ≡ Some held
hit_if true reply held e = cc
hit_if false reply held e = absurd (no_hit reply.tag held e)

hit_of : (m : Manner) (moment : ℕ) (no_cache : Bool) (o : Option Reply) (held : Reply) → told_of_cache m moment no_cache o ≡ hit held → o ≡ Some held
hit_of m moment no_cache None held e = cc
hit_of m moment no_cache (Some reply) held e = hit_if (may_hit m moment no_cache reply) reply held e

pub found_by : (cache : Held) (moment : ℕ) (key : KeyShape) (no_cache : Bool) (held : Reply) → looked_up cache moment key no_cache ≡ hit held → held_by cache key ≡ Some held
found_by cache moment key no_cache held e = hit_of cache.manner moment no_cache (held_by cache key) held e

-- the held reply is the answer
pub hit_read : {E : Type 0} (told : Told) (s : StoreView) (old new : Held) (key : KeyShape) (result : Result Reply E) → answer_of told ≡ answer.Hit → new ≡ touched old key → held_by new key ≡ held_by old key
    → ((held : Reply) → told ≡ hit held → held_by old key ≡ Some held) → IfOk result (λ reply. held_by new key ≡ Some reply) → IfOk result (λ reply. IsReadThrough told s s old new key reply)
hit_read (hit h) s old new key (Ok reply) e is same found held = (refl, is, (let f = found h refl in cc))
hit_read (hit h) s old new key (Err refused) e is same found held = tt
hit_read (validate tag) s old new key result e is same found held = cc
hit_read miss s old new key result e is same found held = cc

pub hit_some : (told : Told) (s : StoreView) (old new : Held) (key : KeyShape) → answer_of told ≡ answer.Hit → new ≡ touched old key → IsSomeRead told s s old new key
hit_some (hit h) s old new key e is = (refl, is)
hit_some (validate tag) s old new key e is = cc
hit_some miss s old new key e is = cc

pub validated : (told : Told) (tag : ℕ) → answer_of told ≡ answer.Validate tag → told ≡ validate tag
validated (hit h) tag e = cc
validated (validate other) tag e = cc
validated miss tag e = cc

pub missed : (told : Told) → answer_of told ≡ answer.Miss → told ≡ miss
missed (hit h) e = cc
missed (validate other) e = cc
missed miss e = refl

-- the store's reply in the cache
module _ (tag : Option ℕ) (s t : StoreView) (old mid new : Held) (key : KeyShape) (r : Reply) (made : t ≡ with_read s key tag) (told : r ≡ read_reply (answer_to s key tag)) (is : mid ≡ touched old key) where
  settled_is : new ≡ settled mid key r → new ≡ settled (touched old key) key (read_reply (answer_to s key tag))
  settled_is e = e ∙ ap (λ (c : Held). settled c key r) is ∙ ap (λ (x : Reply). settled (touched old key) key x) told

  asked_read : {E : Type 0} (result : Result Reply E) → IfOk result (λ reply. (new ≡ settled mid key r) × (told_by new key r ≡ Some reply)) → IfOk result (λ reply. IsAnswered tag s t old new key reply)
  asked_read (Ok got) h = (made, settled_is h.0, sym (ap (λ (x : Reply). told_by new key x) told) ∙ h.1)
  asked_read (Err e) h = tt

  asked_some : (new ≡ mid) ⊎ (new ≡ settled mid key r) → IsSomeAnswer tag s t old new key
  asked_some (inl same) = inl (same ∙ is)
  asked_some (inr other) = inr (made, settled_is other)

-- the same in the words of the lookup
pub validate_read : {E : Type 0} (told : Told) (tag : ℕ) (s t : StoreView) (old mid new : Held) (key : KeyShape) (r : Reply) (result : Result Reply E) → answer_of told ≡ answer.Validate tag
    → t ≡ with_read s key (Some tag) → r ≡ read_reply (answer_to s key (Some tag)) → mid ≡ touched old key → IfOk result (λ reply. (new ≡ settled mid key r) × (told_by new key r ≡ Some reply))
    → IfOk result (λ reply. IsReadThrough told s t old new key reply)
validate_read told tag s t old mid new key r result e made said is h =
    subst (λ (x : Told). IfOk result (λ reply. IsReadThrough x s t old new key reply)) (sym (validated told tag e)) (asked_read (Some tag) s t old mid new key r made said is result h)

pub validate_some : (told : Told) (tag : ℕ) (s t : StoreView) (old mid new : Held) (key : KeyShape) (r : Reply) → answer_of told ≡ answer.Validate tag
    → t ≡ with_read s key (Some tag) → r ≡ read_reply (answer_to s key (Some tag)) → mid ≡ touched old key → (new ≡ mid) ⊎ (new ≡ settled mid key r) → IsSomeRead told s t old new key
validate_some told tag s t old mid new key r e made said is h =
    subst (λ (x : Told). IsSomeRead x s t old new key) (sym (validated told tag e)) (asked_some (Some tag) s t old mid new key r made said is h)

pub validate_none : (told : Told) (tag : ℕ) (s t : StoreView) (old new : Held) (key : KeyShape) → answer_of told ≡ answer.Validate tag → new ≡ touched old key → IsSomeRead told s t old new key
validate_none told tag s t old new key e is = subst (λ (x : Told). IsSomeRead x s t old new key) (sym (validated told tag e)) (inl is)

pub miss_read : {E : Type 0} (told : Told) (s t : StoreView) (old mid new : Held) (key : KeyShape) (r : Reply) (result : Result Reply E) → answer_of told ≡ answer.Miss
    → t ≡ with_read s key None → r ≡ read_reply (answer_to s key None) → mid ≡ touched old key → IfOk result (λ reply. (new ≡ settled mid key r) × (told_by new key r ≡ Some reply))
    → IfOk result (λ reply. IsReadThrough told s t old new key reply)
miss_read told s t old mid new key r result e made said is h =
    subst (λ (x : Told). IfOk result (λ reply. IsReadThrough x s t old new key reply)) (sym (missed told e)) (asked_read None s t old mid new key r made said is result h)

pub miss_some : (told : Told) (s t : StoreView) (old mid new : Held) (key : KeyShape) (r : Reply) → answer_of told ≡ answer.Miss
    → t ≡ with_read s key None → r ≡ read_reply (answer_to s key None) → mid ≡ touched old key → (new ≡ mid) ⊎ (new ≡ settled mid key r) → IsSomeRead told s t old new key
miss_some told s t old mid new key r e made said is h =
    subst (λ (x : Told). IsSomeRead x s t old new key) (sym (missed told e)) (asked_some None s t old mid new key r made said is h)

pub miss_none : (told : Told) (s t : StoreView) (old new : Held) (key : KeyShape) → answer_of told ≡ answer.Miss → new ≡ touched old key → IsSomeRead told s t old new key
miss_none told s t old new key e is = subst (λ (x : Told). IsSomeRead x s t old new key) (sym (missed told e)) (inl is)

-- ---- a reply of the store in a cache

module _ (old new : Held) (key : KeyShape) (r : Reply) where
  pub settled_fresh : r.status ≡ 304 → new ≡ freshened old key r → new ≡ settled old key r
  settled_fresh e is = subst (λ (b : Bool). new ≡ (if b then freshened old key r else offered old key r)) (sym (eq-eqb r.status 304 e)) is

  pub settled_other : (r.status ≡ 304 → ⊥) → new ≡ offered old key r → new ≡ settled old key r
  settled_other e is = subst (λ (b : Bool). new ≡ (if b then freshened old key r else offered old key r)) (sym (ne_eqb r.status 304 e)) is

  pub told_fresh : {E : Type 0} (result : Result Reply E) → r.status ≡ 304 → new ≡ freshened old key r → IfOk result (λ told. held_by new key ≡ Some told)
      → IfOk result (λ told. (new ≡ settled old key r) × (told_by new key r ≡ Some told))
  told_fresh (Ok told) e is h = (settled_fresh e is, subst (λ (b : Bool). (if b then held_by new key else Some r) ≡ Some told) (sym (eq-eqb r.status 304 e)) h)
  told_fresh (Err x) e is h = tt

  pub told_other : (r.status ≡ 304 → ⊥) → new ≡ offered old key r → (new ≡ settled old key r) × (told_by new key r ≡ Some r)
  told_other e is = (settled_other e is, subst (λ (b : Bool). (if b then held_by new key else Some r) ≡ Some r) (sym (ne_eqb r.status 304 e)) refl)
