-- Asks for purges, one after another.
use Rattle.std.proofs.Common.{◌≡◌, ℕ, ◌+◌, ◌-◌, ◌<◌, ◌≤◌, max, Bool, true, false, ltb, nat_lt, true≢false, take, List, [], ◌∷◌, ◌++◌, map, fold, drop, length, refl, sym, ap, ◌∙◌, subst, append-nil, append_assoc, length-append, arith}
use Rattle.std.proofs.lemmas.Bool.{ltb-true, ltb-false, le-ltb}
use Rattle.std.proofs.lemmas.List.{map-append, length-map, length-take, length-drop, drop_all, drop-drop, take-append-drop}
use Rattle.std.proofs.lemmas.List.Prefix.{front_rest}
use Rattle.std.proofs.lemmas.List.Sums.{fold-append}
use Rattle.query_normal.specs.declared.key.KeyShape.{KeyShape}
use Rattle.query_normal.specs.Keys.{key_text}
use Rattle.hub_model.specs.declared.entry.Entry.{Entry}
use Rattle.hub_model.specs.declared.entry.Entry.TheVariants.{Purges}
use Rattle.hub_model.specs.declared.entry.PurgeReply.{PurgeReply}
use Rattle.hub_model.specs.Legal.{IsLegal}
use Rattle.hub_model.specs.Reply.{most_purges, told_of, PurgesTold}
use Rattle.hub_model.specs.State.{State}
use Rattle.cache_model.specs.Cache.{Held, purged}
use Rattle.world_core.specs.Link.{WorldLinkView, HoldsIssued, IsPulled, IsPulledSome, IsSound, purges_in}
use Rattle.world_core.specs.Store.{StoreView, HasGrown, after_purges, purges_now, state_in, with_entries}
use Rattle.world_core.proofs.CacheLemmas.{purged_holds}
use Rattle.world_core.proofs.IssuedLemmas.{OfPrefixes}
use Rattle.world_core.proofs.LinkLemmas.{Behind, Later, cache_later}

-- Some of the purges that were not known are.
pub record IsPulling (old new : WorldLinkView) : Type 0 where
  pub keys : List KeyShape
  pub froms : List ℕ
  pub texts : map key_text keys ++ drop new.purges (purges_in old) ≡ drop old.purges (purges_in old)
  pub same : purges_in new ≡ purges_in old
  pub known : new.purges ≡ old.purges + length keys
  pub within : new.purges ≤ max old.purges (length (purges_in old))
  pub dropped : new.first ≡ fold purged old.first keys
  pub asked : new.store ≡ with_entries old.store (map (Purges old.store.moment) froms)
  pub rest : new ≡ record old { store = new.store; first = new.first; purges = new.purges }

pub pulling_none : (v : WorldLinkView) → IsPulling v v
pulling_none v = record {
  keys = [];
  froms = [];
  texts = refl;
  same = refl;
  known = omega arith;
  within = omega arith;
  dropped = refl;
  asked = ap (λ (es : List Entry). record v.store { entries = es }) (sym (append-nil v.store.entries));
  rest = refl;
}

-- an ask for purges leaves them
purges_stay : Behind → (s : StoreView) (from : ℕ) → (state_in (after_purges s from)).purges ≡ (state_in s).purges
purges_stay behind s from = ap (λ (t : State). t.purges) (behind s.setting s.entries (Purges s.moment from ∷ []))

pub pulling_on : Behind → (old mid new : WorldLinkView) (is_more : Bool) → IsPulling old mid → IsPulledSome is_more mid new → IsPulling old new
pulling_on behind old mid new is_more p q =
    let stay : purges_in new ≡ purges_in mid = ap (λ (s : StoreView). (state_in s).purges) q.asked ∙ purges_stay behind mid.store q.from in
    let texts : map key_text q.keys ++ drop new.purges (purges_in old) ≡ drop mid.purges (purges_in old) =
    subst (λ (ps : List (List ℕ)). map key_text q.keys ++ drop new.purges ps ≡ drop mid.purges ps) p.same q.texts in
    let moment : mid.store.moment ≡ old.store.moment = ap (λ (s : StoreView). s.moment) p.asked in
    let entries : mid.store.entries ≡ old.store.entries ++ map (Purges old.store.moment) p.froms = ap (λ (s : StoreView). s.entries) p.asked in
    let more = length-append p.keys q.keys in
    let same = ap length p.same in
    let pk = p.known in
    let pw = p.within in
    let qk = q.known in
    let qw = q.within in
    record {
      keys = p.keys ++ q.keys;
      froms = p.froms ++ q.from ∷ [];
      texts =
          ap (λ (ts : List (List ℕ)). ts ++ drop new.purges (purges_in old)) (map-append key_text p.keys q.keys)
          ∙ append_assoc (map key_text p.keys) (map key_text q.keys) (drop new.purges (purges_in old))
          ∙ ap (λ (ts : List (List ℕ)). map key_text p.keys ++ ts) texts ∙ p.texts;
      same = stay ∙ p.same;
      known = omega (arith, pk, qk, more);
      within = omega (arith, pw, qw, same);
      dropped = q.dropped ∙ ap (λ (c : Held). fold purged c q.keys) p.dropped ∙ sym (fold-append purged old.first p.keys q.keys);
      asked =
          q.asked
          ∙ ap (λ (s : StoreView). after_purges s q.from) p.asked
          ∙ ap (λ (es : List Entry). record old.store { entries = es })
          (append_assoc old.store.entries (map (Purges old.store.moment) p.froms) (Purges old.store.moment q.from ∷ [])
          ∙ ap (λ (es : List Entry). old.store.entries ++ es) (sym (map-append (Purges old.store.moment) p.froms (q.from ∷ []))));
      rest = q.rest ∙ ap (λ (v : WorldLinkView). record v { store = new.store; first = new.first; purges = new.purges }) p.rest;
    }

-- no more are left
pub pulled_all : (old mid new : WorldLinkView) → IsPulling old mid → IsPulling old new → IsPulledSome false mid new → IsPulled old new
pulled_all old mid new before p q =
    let all : length (purges_in old) ≤ new.purges = ltb-false _ _ (sym (q.more ∙ ap (λ (ps : List (List ℕ)). ltb new.purges (length ps)) before.same)) in
    let pk = p.known in
    let pw = p.within in
    record {
      keys = p.keys;
      froms = p.froms;
      texts = sym (append-nil (map key_text p.keys)) ∙ ap (λ (ts : List (List ℕ)). map key_text p.keys ++ ts) (sym (drop_all new.purges (purges_in old) all)) ∙ p.texts;
      known = omega (arith, pk, pw, all);
      dropped = p.dropped;
      asked = p.asked;
      rest = p.rest;
    }

-- each time some are known that were not
pub pulled_less : (old mid new : WorldLinkView) → IsPulling old mid → IsPulledSome true mid new → length (purges_in old) - new.purges < length (purges_in old) - mid.purges
pulled_less old mid new before q =
    let more : new.purges < length (purges_in old) = ltb-true _ _ (sym (q.more ∙ ap (λ (ps : List (List ℕ)). ltb new.purges (length ps)) before.same)) in
    let further = q.further refl in
    omega (arith, more, further)

-- ---- one ask

module _ (k from : ℕ) (ps : List (List ℕ)) (keys : List KeyShape) (from_is : from - 1 ≡ k) (texts : map key_text keys ≡ take most_purges (drop (from - 1) ps)) (left : k < length ps) where
  told : map key_text keys ≡ take most_purges (drop k ps)
  told = texts ∙ ap (λ (n : ℕ). take most_purges (drop n ps)) from_is

  many : length keys ≡ length (take most_purges (drop k ps))
  many = sym (length-map keys key_text) ∙ ap length told

  pub keys_within : k + length keys ≤ length ps
  keys_within =
      let a = many in
      let b = length-take most_purges (drop k ps) in
      let c = length-drop k ps in
      omega (arith, a, b, c, left)

  pub keys_some : 0 < length keys
  keys_some =
      let a = many in
      let b = length-take most_purges (drop k ps) in
      let c = length-drop k ps in
      omega (arith, a, b, c, left)

  pub texts_left : map key_text keys ++ drop (k + length keys) ps ≡ drop k ps
  texts_left =
      ap (λ (ts : List (List ℕ)). ts ++ drop (k + length keys) ps) told
      ∙ ap (λ (ts : List (List ℕ)). take most_purges (drop k ps) ++ ts)
      (sym (drop-drop (length keys) k ps) ∙ ap (λ (n : ℕ). drop n (drop k ps)) many
      ∙ front_rest (drop k ps) (take most_purges (drop k ps)) (drop most_purges (drop k ps)) (sym (take-append-drop most_purges (drop k ps))))
      ∙ take-append-drop most_purges (drop k ps)

-- nothing is left
pub pulled_none : (v : WorldLinkView) (t : StoreView) (from : ℕ) → length (purges_in v) ≤ v.purges → t ≡ after_purges v.store from → IsPulledSome false v (record v { store = t })
pulled_none v t from all asked = record {
  keys = [];
  from = from;
  texts = refl;
  known = omega arith;
  within = omega arith;
  more = sym (le-ltb v.purges (length (purges_in v)) all);
  further = λ e. absurd (true≢false (sym e));
  dropped = refl;
  asked = asked;
  rest = refl;
}

-- some were left
pub pulled_some : (v : WorldLinkView) (t : StoreView) (from : ℕ) (keys : List KeyShape) (first : Held) → from - 1 ≡ v.purges → map key_text keys ≡ take most_purges (drop (from - 1) (purges_in v))
    → v.purges < length (purges_in v) → first ≡ fold purged v.first keys → t ≡ after_purges v.store from
    → IsPulledSome (nat_lt (v.purges + length keys) (length (purges_in v))) v (record v { store = t; first = first; purges = v.purges + length keys })
pulled_some v t from keys first from_is texts left dropped asked =
    let low = keys_within v.purges from (purges_in v) keys from_is texts left in
    let some = keys_some v.purges from (purges_in v) keys from_is texts left in
    record {
      keys = keys;
      from = from;
      texts = texts_left v.purges from (purges_in v) keys from_is texts left;
      known = refl;
      within = omega (arith, low);
      more = refl;
      further = λ e. omega (arith, some);
      dropped = dropped;
      asked = asked;
      rest = refl;
    }

-- ---- what the caches hold

pub all_purged_holds : (s : State) (keys : List KeyShape) (cache : Held) → HoldsIssued s cache → HoldsIssued s (fold purged cache keys)
all_purged_holds s [] cache h = h
all_purged_holds s (key ∷ keys) cache h = all_purged_holds s keys (purged cache key) (purged_holds s cache key h)

pub sound_pulled : Later → OfPrefixes → (v : WorldLinkView) (t : StoreView) (first : Held) (keys : List KeyShape) (purges : ℕ) → HasGrown v.store t → IsLegal v.store.setting v.store.entries → first ≡ fold purged v.first keys → IsSound v
    → IsSound (record v { store = t; first = first; purges = purges })
sound_pulled law of_prefix v t first keys purges grown legal is sound = record {
  first = subst (λ (k : Held). HoldsIssued (state_in t) k) (sym is) (all_purged_holds (state_in t) keys v.first (cache_later law of_prefix v.store t v.first grown legal sound.first));
  second = cache_later law of_prefix v.store t v.second grown legal sound.second;
}

-- ---- the store's answer

module _ (v : WorldLinkView) (from : ℕ) (reply : PurgeReply) (said : told_of reply ≡ purges_now v.store from) where
  pub last_is : reply.last ≡ length (purges_in v)
  last_is = ap (λ (p : PurgesTold). p.last) said

  texts_are : map key_text reply.keys.items ≡ take most_purges (drop (from - 1) (purges_in v))
  texts_are = ap (λ (p : PurgesTold). p.texts) said

  -- the keys are not more than those that are left
  pub pulled_fits : from - 1 ≡ v.purges → v.purges < reply.last → v.purges + length reply.keys.items ≤ reply.last
  pulled_fits from_is left =
      let last = last_is in
      let low = keys_within v.purges from (purges_in v) reply.keys.items from_is texts_are (omega (arith, last, left)) in
      omega (arith, low, last)

  pub pulled_by : (t : StoreView) (next : ℕ) (first : Held) → from - 1 ≡ v.purges → v.purges < reply.last → first ≡ fold purged v.first reply.keys.items → next ≡ v.purges + length reply.keys.items → t ≡ after_purges v.store from
      → IsPulledSome (nat_lt next reply.last) v (record v { store = t; first = first; purges = next })
  pulled_by t next first from_is left dropped next_is asked =
      let last = last_is in
      subst (λ (n : ℕ). IsPulledSome (nat_lt n reply.last) v (record v { store = t; first = first; purges = n })) (sym next_is)
      (subst (λ (n : ℕ). IsPulledSome (nat_lt (v.purges + length reply.keys.items) n) v (record v { store = t; first = first; purges = v.purges + length reply.keys.items })) (sym last)
      (pulled_some v t from reply.keys.items first from_is texts_are (omega (arith, last, left)) dropped asked))
