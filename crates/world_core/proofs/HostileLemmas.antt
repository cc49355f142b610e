-- What a hostile link gave before is found, and stays issued; and what its calls do to what contracts see of it.
use Rattle.std.proofs.Common.{◌≡◌, ℕ, zero, suc, Bool, true, false, List, [], ◌∷◌, drop, Option, Some, None, refl, sym, ap, ◌∙◌, subst, inl, inr}
use Rattle.std.specs.Prelude.{Result, Ok, Err, IfErr, IfOk, IfSome, slice_get, unwrap_or}
use Rattle.std.proofs.lemmas.Bool.{cases_Bool}
use Rattle.std.proofs.lemmas.Result.{IfOk-weaker}
use Rattle.query_normal.specs.Pages.{Page}
use Rattle.query_normal.specs.declared.key.KeyShape.{KeyShape}
use Rattle.query_normal.specs.Keys.{same_key}
use Rattle.hub_model.specs.Legal.{IsLegal}
use Rattle.hub_model.specs.State.{State}
use Rattle.client_model.specs.declared.reply.Reply.{Reply}
use Rattle.client_session.specs.declared.ask.ClientAsk.{ClientAsk}
use Rattle.client_session.specs.declared.ask.ClientAsk.TheVariants as ask
use Rattle.client_session.specs.declared.ask.LinkRefusal.{LinkRefusal}
use Rattle.client_session.specs.declared.last.LastReplies.{LastReplies}
use Rattle.client_session.specs.Link.{through, direct, IsOf, Went, last_after}
use Rattle.world_core.specs.Hostile.{HostileView, IsAnswerBy, IsHostileCall, IsHostilePage, IsReadOf, back_by, earlier, given_after, given_for, given_with, hostile_as, repeated, with_last}
use Rattle.world_core.specs.Link.{WorldLinkView, AreHeld, IsAnswer, IsAnswerOf, IsHeldReply, IsPageAnswer, IsRead, IsUncounted, linked}
use Rattle.world_core.specs.Store.{StoreView, HasGrown, state_in}
use Rattle.world_core.proofs.CacheLemmas.{holds_later, of_key}
use Rattle.world_core.proofs.IssuedLemmas.{OfPrefixes}
use Rattle.world_core.proofs.LinkLemmas.{Behind, Later, counted, direct_of, later_in, read_of, through_went, went}

-- ---- earlier replies

-- a reply of another key is passed over
pub passed_over : (n : ℕ) (key : KeyShape) (p : KeyShape × Reply) (ps : List (KeyShape × Reply)) → same_key key p.0 ≡ false → earlier n key (p ∷ ps) ≡ earlier n key ps
passed_over zero key p ps e = refl
passed_over (suc n) key p ps e = rw e refl

-- the latest of the key is the first
pub latest : (key : KeyShape) (p : KeyShape × Reply) (ps : List (KeyShape × Reply)) → same_key key p.0 ≡ true → earlier 1 key (p ∷ ps) ≡ Some p.1
latest key p ps e = rw e refl

-- and any other lies one less behind it
pub behind_it : (n : ℕ) (key : KeyShape) (p : KeyShape × Reply) (ps : List (KeyShape × Reply)) → same_key key p.0 ≡ true → earlier (suc (suc n)) key (p ∷ ps) ≡ earlier (suc n) key ps
behind_it n key p ps e = rw e refl

-- what is found was issued for the key
got_held : (s : State) (key : KeyShape) (given : List (KeyShape × Reply)) (n : ℕ) (reply : Reply) → AreHeld s given → slice_get (given_for key given) n ≡ Some reply → IsHeldReply s key reply
got_held s key [] n reply h e = cc
got_held s key (p ∷ ps) zero reply h e = elim (cases_Bool (same_key key p.0)) [
  | inl same ↦ (
      let found : Some p.1 ≡ Some reply = rw same at e in
      let value : p.1 ≡ reply = ap (λ (o : Option Reply). unwrap_or o p.1) found in
      of_key s key p.0 reply same (subst (λ (r : Reply). IsHeldReply s p.0 r) value h.0))
  | inr other ↦ got_held s key ps zero reply h.1 (rw other at e)
]
got_held s key (p ∷ ps) (suc n) reply h e = elim (cases_Bool (same_key key p.0)) [
  | inl same ↦ got_held s key ps n reply h.1 (rw same at e)
  | inr other ↦ got_held s key ps (suc n) reply h.1 (rw other at e)
]

pub earlier_held : (s : State) (n : ℕ) (key : KeyShape) (given : List (KeyShape × Reply)) (reply : Reply) → AreHeld s given → earlier n key given ≡ Some reply → IsHeldReply s key reply
earlier_held s zero key given reply h e = cc
earlier_held s (suc n) key given reply h e = got_held s key given n reply h e

-- what was given stays issued
pub given_later : Later → OfPrefixes → (s t : StoreView) (given : List (KeyShape × Reply)) → HasGrown s t → IsLegal s.setting s.entries → AreHeld (state_in s) given → AreHeld (state_in t) given
given_later law of_prefix s t given grown legal h = holds_later of_prefix (state_in s) (state_in t) (later_in law s t grown legal) given h

-- ---- a read by its cases

-- the reply that was found, again
pub given_again : (E : Type 0) (found : Option Reply) (v : WorldLinkView) (key : KeyShape) (no_cache : Bool) (reply : Reply) → Some reply ≡ found → IsReadOf {E = E} found v v key no_cache (Ok reply)
given_again E found v key no_cache reply e = subst (λ (o : Option Reply). IsReadOf {E = E} o v v key no_cache (Ok reply)) e (refl, refl)

-- a read through the cache, where none was found
pub asked_instead : {E : Type 0} (found : Option Reply) (v w : WorldLinkView) (key : KeyShape) (no_cache : Bool) (result : Result Reply E) → None ≡ found → IfOk result (λ reply. IsRead v w key no_cache reply)
    → IsReadOf found v w key no_cache result
asked_instead found v w key no_cache result e h = subst (λ (o : Option Reply). IsReadOf o v w key no_cache result) e h

-- no reply, and nothing asked
pub none_given : {E : Type 0} (found : Option Reply) (v : WorldLinkView) (key : KeyShape) (no_cache : Bool) (e : E) → IsReadOf found v v key no_cache (Err e)
none_given None v key no_cache e = tt
none_given (Some held) v key no_cache e = (refl, tt)

-- with another result of as much
pub noted_read : (E : Type 0) {F : Type 0} (found : Option Reply) (v w : WorldLinkView) (key : KeyShape) (no_cache : Bool) (reply : Reply) (result : Result Reply F) → IfOk result (λ told. told ≡ reply)
    → IsReadOf {E = E} found v w key no_cache (Ok reply) → IsReadOf found v w key no_cache result
noted_read E None v w key no_cache reply (Ok told) e h = subst (λ (r : Reply). IsRead v w key no_cache r) (sym e) h
noted_read E None v w key no_cache reply (Err f) e h = tt
noted_read E (Some held) v w key no_cache reply (Ok told) e h = (h.0, e ∙ h.1)
noted_read E (Some held) v w key no_cache reply (Err f) e h = (h.0, tt)

-- what is found in what was given is of the history
pub found_told : {E : Type 0} (s : State) (n : ℕ) (key : KeyShape) (given : List (KeyShape × Reply)) (result : Result (Option Reply) E) → AreHeld s given → IfOk result (λ found. found ≡ earlier n key given)
    → IfOk result (λ found. IfSome found (λ reply. IsHeldReply s key reply))
found_told s n key given (Ok None) h e = tt
found_told s n key given (Ok (Some reply)) h e = earlier_held s n key given reply h (sym e)
found_told s n key given (Err e) h is = tt

-- ---- a read that is noted

module _ {E : Type 0} (v m w : HostileView) (key : KeyShape) (result : Result Reply E) (noted : w ≡ record m { given = given_with m.given key result }) where
  pub noted_ok : (F : Type 0) (found : Option Reply) (no_cache : Bool) (reply : Reply) → IfOk result (λ told. told ≡ reply) → IsReadOf {E = F} found v.link m.link key no_cache (Ok reply) → IsReadOf found v.link w.link key no_cache result
  noted_ok F found no_cache reply same h = subst (λ (x : HostileView). IsReadOf found v.link x.link key no_cache result) (sym noted) (noted_read F found v.link m.link key no_cache reply result same h)

  pub noted_told : (reply : Reply) → IfOk result (λ told. told ≡ reply) → IsHeldReply (state_in m.link.store) key reply → IfOk result (λ told. IsHeldReply (state_in w.link.store) key told)
  noted_told reply same h =
      subst (λ (x : HostileView). IfOk result (λ told. IsHeldReply (state_in x.link.store) key told)) (sym noted)
      (IfOk-weaker result _ _ (λ told is. subst (λ (r : Reply). IsHeldReply (state_in m.link.store) key r) (sym is) h) same)

  pub noted_grown : HasGrown v.link.store m.link.store → HasGrown v.link.store w.link.store
  noted_grown grown = subst (λ (x : HostileView). HasGrown v.link.store x.link.store) (sym noted) grown

  pub noted_last : m.link.last ≡ v.link.last → w.link.last ≡ v.link.last
  noted_last last = ap (λ (x : HostileView). x.link.last) noted ∙ last

  pub noted_rest : m ≡ record v { link = m.link } → w ≡ record v { link = w.link; given = given_with v.given key result }
  noted_rest rest =
      noted ∙ ap (λ (x : HostileView). record x { given = given_with x.given key result }) rest
      ∙ ap (λ (l : WorldLinkView). record v { link = l; given = given_with v.given key result }) (sym (ap (λ (x : HostileView). x.link) noted))

-- ---- any ask, by what its parts say

answered_by : {E : Type 0} (found : Option Reply) (v w : WorldLinkView) (key : KeyShape) (no_cache : Bool) (result : Result Reply E) → IsReadOf found v w key no_cache result
    → IsAnswerBy found v w (ask.Read key no_cache) (linked result)
answered_by None v w key no_cache (Ok reply) h = h
answered_by None v w key no_cache (Err e) h = tt
answered_by (Some held) v w key no_cache (Ok reply) h = h
answered_by (Some held) v w key no_cache (Err e) h = (h.0, tt)

given_linked : {E : Type 0} (given : List (KeyShape × Reply)) (key : KeyShape) (result : Result Reply E) → given_with given key result ≡ given_with given key (linked result)
given_linked given key (Ok reply) = refl
given_linked given key (Err e) = refl

-- a read, behind the move that was used up
pub read_call : {E : Type 0} (v m w : HostileView) (back : ℕ) (key : KeyShape) (no_cache : Bool) (result : Result Reply E) → back ≡ back_by v.moves → m ≡ record v { moves = drop 1 v.moves }
    → IsReadOf (earlier back key m.given) m.link w.link key no_cache result → w ≡ record m { link = w.link; given = given_with m.given key result }
    → IsHostileCall v w (ask.Read key no_cache) (linked result)
read_call v m w back key no_cache result is e ok rest = record {
  answer = answered_by (earlier (back_by v.moves) key v.given) v.link w.link key no_cache result
      (subst (λ (n : ℕ). IsReadOf (earlier n key v.given) v.link w.link key no_cache result) is
      (subst (λ (x : HostileView). IsReadOf (earlier back key x.given) x.link w.link key no_cache result) e ok));
  given = ap (λ (x : HostileView). x.given) rest ∙ ap (λ (x : HostileView). given_with x.given key result) e ∙ given_linked v.given key result;
  moves = ap (λ (x : HostileView). x.moves) rest ∙ ap (λ (x : HostileView). x.moves) e;
}

-- any other ask, behind the move that was used up
pub passed_call : (v m w : HostileView) (asked : ClientAsk) (told : Result Reply LinkRefusal) → repeated v asked ≡ None → given_after v.given asked told ≡ v.given → m ≡ record v { moves = drop 1 v.moves }
    → IsAnswer m.link w.link asked told → w ≡ record m { link = w.link } → IsHostileCall v w asked told
passed_call v m w asked told none same e answer rest = record {
  answer = subst (λ (o : Option Reply). IsAnswerBy o v.link w.link asked told) (sym none) (subst (λ (x : HostileView). IsAnswer x.link w.link asked told) e answer);
  given = ap (λ (x : HostileView). x.given) rest ∙ ap (λ (x : HostileView). x.given) e ∙ sym same;
  moves = ap (λ (x : HostileView). x.moves) rest ∙ ap (λ (x : HostileView). x.moves) e;
}

-- a page, which leaves all but the store
pub page_made : (v w : HostileView) (told : Result Page LinkRefusal) → IsPageAnswer v.link w.link told → w ≡ record v { link = w.link } → IsHostilePage v w told
page_made v w told answer rest = record {
  answer = answer;
  given = ap (λ (x : HostileView). x.given) rest;
  moves = ap (λ (x : HostileView). x.moves) rest;
}

-- ---- what contracts see of the link

-- what was made of it, whatever is then kept
pub but_for_last : (v m w : HostileView) (kept : LastReplies) → m.link.last ≡ v.link.last → w ≡ with_last kept m → m ≡ with_last v.link.last w
but_for_last v m w kept last is = ap (λ (l : LastReplies). with_last l m) last ∙ sym (ap (λ (x : HostileView). with_last v.link.last x) is)

pub hostile_through_went : Behind → (v m w : HostileView) (asked : ClientAsk) (told : Result Reply LinkRefusal) → HasGrown v.link.store m.link.store → IsAnswerOf v.link.store m.link.store asked told
    → IfErr told IsUncounted → w ≡ with_last (last_after v.link.last (through asked told)) m → Went (hostile_as v) (hostile_as w) (through asked told)
hostile_through_went behind v m w asked told grown of uncounted is = through_went behind v.link m.link w.link asked told grown of uncounted (ap (λ (x : HostileView). x.link) is)

direct_told : Behind → (v m : HostileView) (asked : ClientAsk) (told : Result Reply LinkRefusal) → m.link.store.setting ≡ v.link.store.setting → IsAnswerOf v.link.store m.link.store asked told → IsHostileCall v m asked told
    → IsOf v.link.store.setting v.link.store.entries m.link.store.entries (direct asked told)
direct_told behind v m (ask.Read key no_cache) told same of call = read_of v.link.store.setting m.link.store key told same v.link.store no_cache of
direct_told behind v m (ask.Put collection id text condition) told same of call = direct_of behind v.link m.link (ask.Put collection id text condition) told same of call.answer
direct_told behind v m (ask.Delete collection id condition) told same of call = direct_of behind v.link m.link (ask.Delete collection id condition) told same of call.answer
direct_told behind v m ask.Page told same of call = tt

pub hostile_direct_went : Behind → (v m w : HostileView) (asked : ClientAsk) (told : Result Reply LinkRefusal) → HasGrown v.link.store m.link.store → IsAnswerOf v.link.store m.link.store asked told
    → IsHostileCall v m asked told → IfErr told IsUncounted → w ≡ with_last (last_after v.link.last (direct asked told)) m → Went (hostile_as v) (hostile_as w) (direct asked told)
hostile_direct_went behind v m w asked told grown of call uncounted is =
    let kept : WorldLinkView = record m.link { last = last_after v.link.last (direct asked told) } in
    subst (λ (x : HostileView). Went (hostile_as v) (hostile_as x) (direct asked told)) (sym is)
    (went v.link kept (direct asked told) grown (direct_told behind v m asked told grown.setting of call) (counted v.link kept told uncounted) refl)
