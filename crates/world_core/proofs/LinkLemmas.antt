-- What a call does to what contracts see of the link.
use Rattle.std.proofs.Common.{◌≡◌, ℕ, Bool, true, false, List, [], ◌∷◌, ◌++◌, Option, Some, None, refl, sym, ap, ◌∙◌, subst, true≢false, append-nil, append_assoc, inl, inr, arith}
use Rattle.std.specs.Prelude.{Result, Ok, Err, IfErr, IfOk, OnOk, if◌then◌else◌, is_some}
use Rattle.query_normal.specs.Pages.{Page}
use Rattle.query_normal.specs.declared.key.KeyShape.{KeyShape}
use Rattle.commit_book.specs.declared.change.Change.{Change}
use Rattle.hub_model.specs.declared.entry.Condition.{Condition}
use Rattle.hub_model.specs.declared.entry.Entry.{Entry}
use Rattle.hub_model.specs.declared.entry.Entry.TheVariants.{Write, Fetch}
use Rattle.hub_model.specs.declared.entry.Found.{Found}
use Rattle.hub_model.specs.declared.entry.Written.{Written}
use Rattle.hub_model.specs.declared.entry.Written.TheVariants.{Done, Precondition, Full}
use Rattle.hub_model.specs.Desk.{IsPrefix}
use Rattle.hub_model.specs.Helps.{helps_of}
use Rattle.hub_model.specs.Later.{IsLater}
use Rattle.hub_model.specs.Legal.{IsLegal}
use Rattle.hub_model.specs.Record.{page_of}
use Rattle.hub_model.specs.Reply.{written}
use Rattle.hub_model.specs.Setting.{Setting}
use Rattle.hub_model.specs.State.{State, at_moment}
use Rattle.hub_model.specs.Step.{after_all, state_of}
use Rattle.client_model.specs.declared.reply.Reply.{Reply}
use Rattle.client_model.specs.Issued.{IsIssued}
use Rattle.cache_model.specs.Cache.{Held, looked_up}
use Rattle.client_session.specs.declared.ask.ClientAsk.{ClientAsk}
use Rattle.client_session.specs.declared.ask.ClientAsk.TheVariants as ask
use Rattle.client_session.specs.declared.ask.LinkRefusal.{LinkRefusal}
use Rattle.client_session.specs.declared.ask.LinkRefusal.TheVariants as link
use Rattle.client_session.specs.Link.{Exchange, through, direct, page, HasCounted, IsOf, IsPageReply, IsReadReply, IsSincere, IsWriteReply, Went, is_write_status, last_after, reason_of, refusal_of, text_of_change}
use Rattle.world_core.specs.Link.{WorldLinkView, HoldsIssued, IsAnswer, IsAnswerOf, IsHeldReply, IsPageAnswer, IsPut, IsRead, IsReadThrough, IsSound, IsUncounted, IsWrite, linked, seen_as, with_cache}
use Rattle.world_core.specs.Replies.{write_reply}
use Rattle.world_core.specs.Store.{StoreView, HasGrown, after_page, after_write, page_now, state_in, written_to}
use Rattle.world_core.proofs.CacheLemmas.{holds_later}
use Rattle.world_core.proofs.IssuedLemmas.{OfPrefixes}

-- no count rises
pub counted : {X : Type 0} (v w : WorldLinkView) (told : Result X LinkRefusal) → IfErr told IsUncounted → HasCounted (seen_as v) (seen_as w) (reason_of told)
counted v w (Ok x) h = record { faults = omega arith; bad_replies = omega arith; rises = tt }
counted v w (Err link.Fault) h = absurd h
counted v w (Err (link.BadReply place)) h = absurd h
counted v w (Err link.Memory) h = record { faults = omega arith; bad_replies = omega arith; rises = tt }
counted v w (Err (link.Status code)) h = record { faults = omega arith; bad_replies = omega arith; rises = tt }

-- ---- reads

pub read_of : (g : Setting) (t : StoreView) (key : KeyShape) (told : Result Reply LinkRefusal) → t.setting ≡ g → (s : StoreView) (no_cache : Bool) → IsAnswerOf s t (ask.Read key no_cache) told → IsReadReply g t.entries key told
read_of g t key (Ok reply) same s no_cache h = subst (λ (k : Setting). IsIssued k t.entries key reply) same h.issued
read_of g t key (Err refused) same s no_cache h = subst (λ (r : LinkRefusal). IsSincere r) (sym h) tt

-- ---- writes

-- a reply of an accepted write is one of a commit
pub accepted : (is_put : Bool) (w : Written) → is_write_status (write_reply is_put w).status ≡ true
    → (commit : ℕ) × (before : Found) × (clock : ℕ) × (w ≡ Done commit before clock) × ((write_reply is_put w).commit ≡ commit)
accepted is_put (Done commit before clock) e = (commit, before, clock, refl, refl)
accepted is_put (Precondition found clock) e = absurd (true≢false (sym e))
accepted is_put (Full bytes clock) e = absurd (true≢false (sym e))

-- the law of states behind more entries
abbrev pub Behind : Type 0
Behind = (g : Setting) (history more : List Entry) → state_of g (history ++ more) ≡ after_all g (state_of g history) more

written_of : Behind → (v w : WorldLinkView) (change : Change) (condition : Condition) (is_put : Bool) (reply : Reply) (text : Option (List ℕ)) → text_of_change change.document ≡ text
    → IsWrite v w change condition is_put reply → (b : Bool) → is_write_status reply.status ≡ b
    → IsWriteReply b v.store.setting v.store.entries w.store.entries change.collection change.id text condition reply.commit
written_of behind v w change condition is_put reply text text_is wrote false e = tt
written_of behind v w change condition is_put reply text text_is wrote true e =
    let s = v.store in
    let entry = Write s.moment change condition in
    let helps = helps_of s.setting (state_in s) entry in
    let status : is_write_status (write_reply is_put (written_to s change condition)).status ≡ true = ap (λ (r : Reply). is_write_status r.status) (sym wrote.1) ∙ e in
    let done = accepted is_put (written_to s change condition) status in
    let commit : reply.commit ≡ done.0 = ap (λ (r : Reply). r.commit) wrote.1 ∙ done.4 in
    let entries : (s.entries ++ helps) ++ entry ∷ [] ≡ w.store.entries =
    append_assoc s.entries helps (entry ∷ []) ∙ ap (λ (x : WorldLinkView). x.store.entries) (sym wrote.0) in
    record {
      before = s.entries ++ helps;
      moment = s.moment;
      change = change;
      before_is = done.1;
      clock = done.2;
      grew = (helps, refl);
      begins = ([], append-nil ((s.entries ++ helps) ++ entry ∷ []) ∙ entries);
      collection_is = refl;
      id_is = refl;
      text_is = text_is;
      done = ap (λ (t : State). written s.setting change condition (at_moment t s.moment)) (behind s.setting s.entries helps) ∙ done.3
          ∙ ap (λ (n : ℕ). Done n done.1 done.2) (sym commit);
    }

put_of : Behind → (v w : WorldLinkView) (collection id text : List ℕ) (condition : Condition) (reply : Reply) → IsPut v w collection id text condition reply
    → IsWriteReply (is_write_status reply.status) v.store.setting v.store.entries w.store.entries collection id (Some text) condition reply.commit
put_of behind v w collection id text condition reply (inl put) =
    written_of behind v w (record { collection = collection; id = id; document = Some put.0 }) condition true reply (Some text) (ap (λ (t : List ℕ). Some t) put.1) put.2 (is_write_status reply.status) refl
put_of behind v w collection id text condition reply (inr none) =
    let refused : false ≡ is_write_status reply.status = ap (λ (r : Reply). is_write_status r.status) (sym none.1) in
    subst (λ (b : Bool). IsWriteReply b v.store.setting v.store.entries w.store.entries collection id (Some text) condition reply.commit) refused tt

-- ---- any ask

pub through_of : Behind → (v w : WorldLinkView) (asked : ClientAsk) (told : Result Reply LinkRefusal) → w.store.setting ≡ v.store.setting → IsAnswerOf v.store w.store asked told
    → IsOf v.store.setting v.store.entries w.store.entries (through asked told)
through_of behind v w (ask.Read key no_cache) told same of = read_of v.store.setting w.store key told same v.store no_cache of
through_of behind v w ask.Page told same of = tt
through_of behind v w (ask.Put collection id text condition) told same of = tt
through_of behind v w (ask.Delete collection id condition) told same of = tt

pub direct_of : Behind → (v w : WorldLinkView) (asked : ClientAsk) (told : Result Reply LinkRefusal) → w.store.setting ≡ v.store.setting → IsAnswerOf v.store w.store asked told → IsAnswer v w asked told
    → IsOf v.store.setting v.store.entries w.store.entries (direct asked told)
direct_of behind v w (ask.Read key no_cache) told same of is = read_of v.store.setting w.store key told same v.store no_cache of
direct_of behind v w ask.Page told same of is = tt
direct_of behind v w (ask.Put collection id text condition) (Ok reply) same of is = put_of behind v w collection id text condition reply is
direct_of behind v w (ask.Put collection id text condition) (Err refused) same of is = tt
direct_of behind v w (ask.Delete collection id condition) (Ok reply) same of is =
    written_of behind v w (record { collection = collection; id = id; document = None }) condition false reply None refl is (is_write_status reply.status) refl
direct_of behind v w (ask.Delete collection id condition) (Err refused) same of is = tt

-- the call, with what is kept of its reply
pub went : (v w : WorldLinkView) (x : Exchange) → HasGrown v.store w.store → IsOf v.store.setting v.store.entries w.store.entries x → HasCounted (seen_as v) (seen_as w) (refusal_of x) → w.last ≡ last_after v.last x → Went (seen_as v) (seen_as w) x
went v w x grown of counts kept = record {
  setting = grown.setting;
  tells = (w.store.entries, refl, record { grew = grown.grew; legal = λ before. subst (λ (g : Setting). IsLegal g w.store.entries) grown.setting (grown.legal before); of = of });
  counts = counts;
  kept = kept;
}

pub through_went : Behind → (v m w : WorldLinkView) (asked : ClientAsk) (told : Result Reply LinkRefusal) → HasGrown v.store m.store → IsAnswerOf v.store m.store asked told → IfErr told IsUncounted
    → w ≡ record m { last = last_after v.last (through asked told) } → Went (seen_as v) (seen_as w) (through asked told)
through_went behind v m w asked told grown of uncounted is =
    subst (λ (x : WorldLinkView). Went (seen_as v) (seen_as x) (through asked told)) (sym is)
    (went v (record m { last = last_after v.last (through asked told) }) (through asked told) grown (through_of behind v m asked told grown.setting of) (counted v (record m { last = last_after v.last (through asked told) }) told uncounted) refl)

pub direct_went : Behind → (v m w : WorldLinkView) (asked : ClientAsk) (told : Result Reply LinkRefusal) → HasGrown v.store m.store → IsAnswerOf v.store m.store asked told → IsAnswer v m asked told → IfErr told IsUncounted
    → w ≡ record m { last = last_after v.last (direct asked told) } → Went (seen_as v) (seen_as w) (direct asked told)
direct_went behind v m w asked told grown of answer uncounted is =
    subst (λ (x : WorldLinkView). Went (seen_as v) (seen_as x) (direct asked told)) (sym is)
    (went v (record m { last = last_after v.last (direct asked told) }) (direct asked told) grown (direct_of behind v m asked told grown.setting of answer) (counted v (record m { last = last_after v.last (direct asked told) }) told uncounted) refl)

-- a page is fetched in the history
page_of_answer : Behind → (v w : WorldLinkView) (told : Result Page LinkRefusal) → w.store.setting ≡ v.store.setting → IfErr told (λ r. r ≡ link.Memory) → IsPageAnswer v w told → IsPageReply v.store.setting w.store.entries told
page_of_answer behind v w (Ok p) same h is = record {
  before = v.store.entries;
  moment = v.store.moment;
  begins = ([], append-nil (v.store.entries ++ Fetch v.store.moment ∷ []) ∙ ap (λ (x : WorldLinkView). x.store.entries) (sym is.0));
  is = is.1 ∙ ap (λ (s : State). page_of v.store.setting s) (sym (behind v.store.setting v.store.entries (Fetch v.store.moment ∷ [])));
}
page_of_answer behind v w (Err refused) same h is = subst (λ (r : LinkRefusal). IsSincere r) (sym h) tt

memory_uncounted : {X : Type 0} (told : Result X LinkRefusal) → IfErr told (λ r. r ≡ link.Memory) → IfErr told IsUncounted
memory_uncounted (Ok x) h = tt
memory_uncounted (Err refused) h = subst (λ (r : LinkRefusal). IsUncounted r) (sym h) tt

pub page_went : Behind → (v m w : WorldLinkView) (told : Result Page LinkRefusal) → HasGrown v.store m.store → IfErr told (λ r. r ≡ link.Memory) → IsPageAnswer v m told
    → w ≡ record m { last = last_after v.last (page told) } → Went (seen_as v) (seen_as w) (page told)
page_went behind v m w told grown memory answer is =
    subst (λ (x : WorldLinkView). Went (seen_as v) (seen_as x) (page told)) (sym is)
    (went v (record m { last = last_after v.last (page told) }) (page told) grown (page_of_answer behind v m told grown.setting memory answer) (counted v (record m { last = last_after v.last (page told) }) told (memory_uncounted told memory)) refl)

-- ---- later stores

-- the law of longer histories
abbrev pub Later : Type 0
Later = (g : Setting) (history longer : List Entry) → IsPrefix history longer → IsLegal g longer → IsLater (state_of g history) (state_of g longer)

pub later_in : Later → (s t : StoreView) → HasGrown s t → IsLegal s.setting s.entries → IsLater (state_in s) (state_in t)
later_in law s t grown legal =
    let longer = law s.setting s.entries t.entries grown.grew (subst (λ (g : Setting). IsLegal g t.entries) grown.setting (grown.legal legal)) in
    subst (λ (g : Setting). IsLater (state_in s) (state_of g t.entries)) (sym grown.setting) longer

-- what a cache holds stays issued
pub cache_later : Later → OfPrefixes → (s t : StoreView) (cache : Held) → HasGrown s t → IsLegal s.setting s.entries → HoldsIssued (state_in s) cache → HoldsIssued (state_in t) cache
cache_later law of_prefix s t cache grown legal holds = holds_later of_prefix (state_in s) (state_in t) (later_in law s t grown legal) cache.pairs holds

pub sound_later : Later → OfPrefixes → (v : WorldLinkView) (t : StoreView) → HasGrown v.store t → IsLegal v.store.setting v.store.entries → IsSound v → IsSound (record v { store = t })
sound_later law of_prefix v t grown legal sound = record {
  first = cache_later law of_prefix v.store t v.first grown legal sound.first;
  second = cache_later law of_prefix v.store t v.second grown legal sound.second;
}

-- ---- what the calls say, by cases on their result

pub wrote_is : {E : Type 0} (v : WorldLinkView) (t : StoreView) (change : Change) (condition : Condition) (is_put : Bool) (result : Result Reply E)
    → IfOk result (λ reply. reply ≡ write_reply is_put (written_to v.store change condition)) → OnOk result (t ≡ after_write v.store change condition)
    → IfOk result (λ reply. IsWrite v (record v { store = t }) change condition is_put reply)
wrote_is v t change condition is_put (Ok reply) told made = (ap (λ (s : StoreView). record v { store = s }) made, told)
wrote_is v t change condition is_put (Err e) told made = tt

pub wrote_same : {E : Type 0} (v w : WorldLinkView) (change other : Change) (condition asked : Condition) (result : Result Reply E) → change ≡ other → condition ≡ asked
    → IfOk result (λ reply. IsWrite v w change condition (is_some change.document) reply) → IfOk result (λ reply. IsWrite v w other asked (is_some other.document) reply)
wrote_same v w change other condition asked result e f h =
    subst (λ (x : Change). IfOk result (λ reply. IsWrite v w x asked (is_some x.document) reply)) e
    (subst (λ (x : Condition). IfOk result (λ reply. IsWrite v w change x (is_some change.document) reply)) f h)

pub page_fetched : {E : Type 0} (v : WorldLinkView) (t : StoreView) (result : Result Page E) → IfOk result (λ p. p ≡ page_now v.store) → OnOk result (t ≡ after_page v.store)
    → IsPageAnswer v (record v { store = t }) (linked result)
page_fetched v t (Ok p) told made = (ap (λ (s : StoreView). record v { store = s }) made, told)
page_fetched v t (Err e) told made = tt

pub linked_memory : {X E : Type 0} (result : Result X E) → IfErr (linked result) (λ refused. refused ≡ link.Memory)
linked_memory (Ok x) = tt
linked_memory (Err e) = refl

pub linked_uncounted : {X E : Type 0} (result : Result X E) → IfErr (linked result) IsUncounted
linked_uncounted (Ok x) = tt
linked_uncounted (Err e) = tt

pub read_first : {E : Type 0} (v : WorldLinkView) (t : StoreView) (cache : Held) (key : KeyShape) (no_cache : Bool) (result : Result Reply E) → v.is_second ≡ false
    → IfOk result (λ reply. IsReadThrough (looked_up v.first v.store.moment key no_cache) v.store t v.first cache key reply)
    → IfOk result (λ reply. IsRead v (record v { store = t; first = cache }) key no_cache reply)
read_first v t cache key no_cache (Ok reply) e h = (
  cache,
  t,
  ap (λ (b : Bool). with_cache b v t cache) (sym e),
  subst (λ (b : Bool). IsReadThrough (looked_up (if b then v.second else v.first) v.store.moment key no_cache) v.store t (if b then v.second else v.first) cache key reply) (sym e) h,
)
read_first v t cache key no_cache (Err refused) e h = tt

pub read_second : {E : Type 0} (v : WorldLinkView) (t : StoreView) (cache : Held) (key : KeyShape) (no_cache : Bool) (result : Result Reply E) → v.is_second ≡ true
    → IfOk result (λ reply. IsReadThrough (looked_up v.second v.store.moment key no_cache) v.store t v.second cache key reply)
    → IfOk result (λ reply. IsRead v (record v { store = t; second = cache }) key no_cache reply)
read_second v t cache key no_cache (Ok reply) e h = (
  cache,
  t,
  ap (λ (b : Bool). with_cache b v t cache) (sym e),
  subst (λ (b : Bool). IsReadThrough (looked_up (if b then v.second else v.first) v.store.moment key no_cache) v.store t (if b then v.second else v.first) cache key reply) (sym e) h,
)
read_second v t cache key no_cache (Err refused) e h = tt

-- the answers to asks
pub read_answer : {E : Type 0} (v w : WorldLinkView) (key : KeyShape) (no_cache : Bool) (result : Result Reply E) → IfOk result (λ reply. IsRead v w key no_cache reply)
    → IsAnswer v w (ask.Read key no_cache) (linked result)
read_answer v w key no_cache (Ok reply) h = h
read_answer v w key no_cache (Err e) h = tt

pub read_told_of : {E : Type 0} (s t : StoreView) (key : KeyShape) (no_cache : Bool) (result : Result Reply E) → IfOk result (λ reply. IsHeldReply (state_in t) key reply)
    → IsAnswerOf s t (ask.Read key no_cache) (linked result)
read_told_of s t key no_cache (Ok reply) h = h
read_told_of s t key no_cache (Err e) h = refl

pub put_answer : {E : Type 0} (v w : WorldLinkView) (collection id text : List ℕ) (condition : Condition) (result : Result Reply E) → IfOk result (λ reply. IsPut v w collection id text condition reply)
    → IsAnswer v w (ask.Put collection id text condition) (linked result)
put_answer v w collection id text condition (Ok reply) h = h
put_answer v w collection id text condition (Err e) h = tt

pub delete_answer : {E : Type 0} (v w : WorldLinkView) (collection id : List ℕ) (condition : Condition) (result : Result Reply E)
    → IfOk result (λ reply. IsWrite v w (record { collection = collection; id = id; document = None }) condition false reply)
    → IsAnswer v w (ask.Delete collection id condition) (linked result)
delete_answer v w collection id condition (Ok reply) h = h
delete_answer v w collection id condition (Err e) h = tt

pub refused_page : (v w : WorldLinkView) → IsAnswer v w ask.Page (Err (link.Status 405))
refused_page v w = tt
