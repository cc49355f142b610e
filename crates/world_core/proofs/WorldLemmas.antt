-- The steps of a world, and its beginning.
use Rattle.std.proofs.Common.{◌≡◌, ◌≢◌, ℕ, zero, suc, ◌+◌, ◌≤◌, Bool, true, false, List, [], ◌∷◌, ◌++◌, length, refl, sym, ap, ◌∙◌, subst, inl, inr, true≢false, nat_lt, nat_le, ltb, length-append, Option, Some, None, ◌*◌, ◌%◌, arith}
use Rattle.std.specs.Prelude.{◌&&◌, if◌then◌else◌, Result, Ok, Err, IfOk, OnOk}
use Rattle.std.proofs.lemmas.Bool.{cases_Bool, ltb-false}
use Rattle.std.proofs.lemmas.List.Sums.{fold-append}
use Rattle.q_doc.specs.Tree.{Tree}
use Rattle.query_normal.specs.Pages.{Page}
use Rattle.commit_book.specs.declared.change.Change.{Change}
use Rattle.commit_book.specs.Journal.{kept_with}
use Rattle.hub_desk.specs.Desk.{matching}
use Rattle.hub_model.specs.declared.entry.Condition.{Condition}
use Rattle.hub_model.specs.declared.entry.Condition.TheVariants.{Always}
use Rattle.hub_model.specs.declared.entry.Entry.{Entry}
use Rattle.hub_model.specs.declared.entry.Entry.TheVariants.{Write, Match, Tick}
use Rattle.hub_model.specs.declared.entry.Found.{Found}
use Rattle.hub_model.specs.declared.entry.Written.{Written}
use Rattle.hub_model.specs.declared.entry.Written.TheVariants.{Done}
use Rattle.hub_model.specs.Helps.{helps_of}
use Rattle.hub_model.specs.Legal.{IsLegal, most_unmatched}
use Rattle.hub_model.specs.Reply.{written}
use Rattle.hub_model.specs.Setting.{Setting, default_setting}
use Rattle.hub_model.specs.State.{State, at_moment, start}
use Rattle.hub_model.specs.Step.{after, after_all, found_now, is_accepted, is_met, state_of}
use Rattle.client_model.specs.declared.reply.Reply.{Reply}
use Rattle.client_session.specs.Session.{SessionView}
use Rattle.client_session.specs.Link.{is_write_status}
use Rattle.client_session.specs.Read.{Holds, HoldsIn}
use Rattle.world_core.specs.Link.{WorldLinkView, IsStart, evicted, seen_as, turned}
use Rattle.world_core.specs.Products.{collection, product_id, products, IsProduct}
use Rattle.world_core.specs.Replies.{write_reply}
use Rattle.world_core.specs.Store.{StoreView, advanced, after_match, after_write, state_in, written_to}
use Rattle.world_core.specs.World.{WorldView, AreFirst, IsClientPut, IsClientStep, IsDocPut, IsFilled, IsFirst, IsFirstStore, IsPutFirst}
use Rattle.world_core.proofs.LinkLemmas.{Behind, accepted}

-- ---- what a client does

-- it acted through its cache
module _ (acts : SessionView → SessionView → WorldLinkView → WorldLinkView → Type 0) (w : WorldView) (session : SessionView) (link : WorldLinkView) where
  pub step_first : (client : ℕ) → client ≡ 0 → acts w.first session (turned client w.link) link → IsClientStep client acts w (record w { first = session; link = link })
  step_first zero e h = record { session = session; link = link; acted = h; world = refl }
  step_first (suc client) e h = cc

  pub step_second : (client : ℕ) → client ≡ 1 → acts w.second session (turned client w.link) link → IsClientStep client acts w (record w { second = session; link = link })
  step_second zero e h = absurd (omega arith)
  step_second (suc zero) e h = record { session = session; link = link; acted = h; world = refl }
  step_second (suc (suc client)) e h = absurd (omega arith)

  pub step_third : (client : ℕ) → client ≢ 0 → client ≢ 1 → acts w.third session (turned client w.link) link → IsClientStep client acts w (record w { third = session; link = link })
  step_third zero a b h = absurd (a refl)
  step_third (suc zero) a b h = absurd (b refl)
  step_third (suc (suc client)) a b h = record { session = session; link = link; acted = h; world = refl }

-- whichever cache asks go through, the history is the same
pub held_turned : (client : ℕ) (v w : WorldLinkView) (held : Option Page) → w ≡ turned client v → Holds (seen_as v) held → Holds (seen_as w) held
held_turned client v w held e h = subst (λ (x : WorldLinkView). Holds (seen_as x) held) (sym e) h

-- time that passes makes no entry
pub held_advanced : (seconds : ℕ) (v w : WorldLinkView) (held : Option Page) → w ≡ record v { store = advanced v.store seconds } → Holds (seen_as v) held → Holds (seen_as w) held
held_advanced seconds v w held e h = subst (λ (x : WorldLinkView). Holds (seen_as x) held) (sym e) h

-- nor does a reply that a cache drops
pub held_evicted : (is_second : Bool) (v w : WorldLinkView) (held : Option Page) → w ≡ evicted is_second v → Holds (seen_as v) held → Holds (seen_as w) held
held_evicted true v w held e h = subst (λ (x : WorldLinkView). Holds (seen_as x) held) (sym e) h
held_evicted false v w held e h = subst (λ (x : WorldLinkView). Holds (seen_as x) held) (sym e) h

pub client_put : (product price stock : ℕ) (kept id : List ℕ) (doc : Tree) (s t : SessionView) (v w : WorldLinkView) → IsProduct product price stock doc → kept ≡ collection → id ≡ product_id product
    → IsDocPut kept id doc s t v w → IsClientPut product price stock s t v w
client_put product price stock kept id doc s t v w is e f h = record {
  doc = doc;
  is_product = is;
  put = subst (λ (xs : List ℕ). IsDocPut xs (product_id product) doc s t v w) e (subst (λ (xs : List ℕ). IsDocPut kept xs doc s t v w) f h);
}

-- ---- the beginning

pub first_is : (index : ℕ) (kept id : List ℕ) (doc : Tree) → IsProduct index (37 * index % 1000) (index % 50) doc → kept ≡ collection → id ≡ product_id index
    → IsFirst index (record { collection = kept; id = id; document = Some doc })
first_is index kept id doc is e f = (doc, is, rw (e, f) refl)

first_more : (n : ℕ) (xs : List Change) (x : Change) → AreFirst n xs → IsFirst (n + length xs) x → AreFirst n (xs ++ x ∷ [])
first_more n [] x h e =
    let same : n + length {A = Change} [] ≡ n = omega arith in
    (subst (λ (k : ℕ). IsFirst k x) same e, tt)
first_more n (y ∷ ys) x h e =
    let same : n + length (y ∷ ys) ≡ suc n + length ys = omega arith in
    (h.0, first_more (suc n) ys x h.1 (subst (λ (k : ℕ). IsFirst k x) same e))

pub filled_none : ((g : Setting) → state_of g [] ≡ start) → (s : StoreView) → s.setting ≡ default_setting → s.entries ≡ [] → s.moment ≡ 1000000 → IsFilled 0 s
filled_none law s setting empty moment =
    let none : state_in s ≡ start = ap (λ (es : List Entry). state_of s.setting es) empty ∙ law s.setting in
    record {
      setting = setting;
      moment = moment;
      count = ap (λ (t : State). length t.journal) none;
      first = subst (λ (t : State). AreFirst 0 t.journal) (sym none) tt;
    }

pub filled_more : (index : ℕ) (s t : StoreView) → IsFilled index s → IsPutFirst index s t → IsFilled (index + 1) t
filled_more index s t f p =
    let more = length-append (state_in s).journal (p.0 ∷ []) in
    let longer = ap length p.3 in
    let count = f.count in
    record {
      setting = ap (λ (x : StoreView). x.setting) p.2 ∙ f.setting;
      moment = ap (λ (x : StoreView). x.moment) p.2 ∙ f.moment;
      count = omega (arith, more, longer, count);
      first = subst (λ (j : List Change). AreFirst 0 j) (sym p.3)
          (first_more 0 (state_in s).journal p.0 f.first (let same : 0 + length (state_in s).journal ≡ index = omega (arith, count) in subst (λ (k : ℕ). IsFirst k p.0) (sym same) p.1));
    }

-- a link over a store, seen as a link over its own store
pub start_own : (s : StoreView) (v : WorldLinkView) → IsStart s v → IsStart v.store v
start_own s v e = subst (λ (x : WorldLinkView). IsStart x.store x) (sym e) refl

-- the store of such a link is at the beginning
pub start_store : (s : StoreView) (v : WorldLinkView) → IsStart s v → IsFirstStore s → IsFirstStore v.store
start_store s v e h = subst (λ (x : WorldLinkView). IsFirstStore x.store) (sym e) h

-- a client that holds no page holds what was fetched
pub start_holds : (s : StoreView) (v : WorldLinkView) (held : Option Page) → IsStart s v → held ≡ None → IsLegal s.setting s.entries → Holds (seen_as v) held
start_holds s v held e none legal =
    subst (λ (x : WorldLinkView). Holds (seen_as x) held) (sym e) (subst (λ (h : Option Page). HoldsIn s.setting h s.entries) (sym none) legal)

-- a match of all commits leaves the journal, and moves the front to its end
matched_journal : (g : Setting) (s : State) (moment : ℕ) → (after g s (matching s moment)).journal ≡ s.journal
matched_journal g s moment = elim (cases_Bool (nat_lt s.front (length s.journal))) [ inl e ↦ rw e refl | inr e ↦ rw e refl ]

matched_front : (g : Setting) (s : State) (moment : ℕ) → s.front ≤ length s.journal → (after g s (matching s moment)).front ≡ length s.journal
matched_front g s moment within = elim (cases_Bool (nat_lt s.front (length s.journal))) [
  | inl e ↦ rw e refl
  | inr e ↦ (let above : length s.journal ≤ s.front = ltb-false _ _ e in rw e (omega (arith, above, within)))
]

pub first_matched : Behind → ((g : Setting) (history : List Entry) → IsLegal g history → (state_of g history).front ≤ length (state_of g history).journal)
    → (s t : StoreView) → IsFilled products s → IsLegal s.setting s.entries → t ≡ after_match s → IsFirstStore t
first_matched behind covered s t f legal e =
    let is : state_in t ≡ after s.setting (state_in s) (matching (state_in s) s.moment) = ap state_in e ∙ behind s.setting s.entries (matching (state_in s) s.moment ∷ []) in
    let journal : (state_in t).journal ≡ (state_in s).journal = ap (λ (x : State). x.journal) is ∙ matched_journal s.setting (state_in s) s.moment in
    record {
      setting = ap (λ (x : StoreView). x.setting) e ∙ f.setting;
      moment = ap (λ (x : StoreView). x.moment) e ∙ f.moment;
      count = ap length journal ∙ f.count;
      first = subst (λ (j : List Change). AreFirst 0 j) (sym journal) f.first;
      front = ap (λ (x : State). x.front) is ∙ matched_front s.setting (state_in s) s.moment (covered s.setting s.entries legal) ∙ f.count;
    }

-- ---- an accepted write

done_met : (g : Setting) (change : Change) (condition : Condition) (s : State) (commit : ℕ) (before : Found) (clock : ℕ) (met fits : Bool) (out : Written)
    → is_met condition (found_now s change) (length s.journal) ≡ met → nat_le (kept_with s.journal s.horizon change) g.capacity ≡ fits
    → written g change condition s ≡ out → out ≡ Done commit before clock → is_accepted g s change condition ≡ true
done_met g change condition s commit before clock true true out m f e done = rw (m, f) refl
done_met g change condition s commit before clock true false out m f e done = absurd (let x = rw (m, f) at e in cc)
done_met g change condition s commit before clock false fits out m f e done = absurd (let x = rw m at e in cc)

helps_journal : (g : Setting) (s : State) (moment : ℕ) (change : Change) (condition : Condition) → (after_all g s (helps_of g s (Write moment change condition))).journal ≡ s.journal
helps_journal g s moment change condition = elim (cases_Bool (is_accepted g s change condition && nat_le (s.front + most_unmatched) (length s.journal))) [ inl e ↦ rw e refl | inr e ↦ rw e refl ]

accepted_after : (g : Setting) (s : State) (moment : ℕ) (change : Change) (condition : Condition) → is_accepted g (at_moment s moment) change condition ≡ true
    → (after g s (Write moment change condition)).journal ≡ s.journal ++ change ∷ []
accepted_after g s moment change condition e = rw e refl

pub journal_more : Behind → (s : StoreView) (change : Change) (condition : Condition) (is_put : Bool) → is_write_status (write_reply is_put (written_to s change condition)).status ≡ true
    → (state_in (after_write s change condition)).journal ≡ (state_in s).journal ++ change ∷ []
journal_more behind s change condition is_put status =
    let entry = Write s.moment change condition in
    let helps = helps_of s.setting (state_in s) entry in
    let mid : State = after_all s.setting (state_in s) helps in
    let done = accepted is_put (written_to s change condition) status in
    let met : is_accepted s.setting (at_moment mid s.moment) change condition ≡ true =
    done_met s.setting change condition (at_moment mid s.moment) done.0 done.1 done.2 _ _ (written_to s change condition) refl refl refl done.3 in
    let whole : state_in (after_write s change condition) ≡ after s.setting mid entry =
    behind s.setting s.entries (helps ++ entry ∷ []) ∙ fold-append (after s.setting) (state_in s) helps (entry ∷ []) in
    ap (λ (t : State). t.journal) whole ∙ accepted_after s.setting mid s.moment change condition met
    ∙ ap (λ (j : List Change). j ++ change ∷ []) (helps_journal s.setting (state_in s) s.moment change condition)

-- the first product's write, which made a record
pub created : Behind → (index : ℕ) (s t : StoreView) (change : Change) (is_put : Bool) (reply : Reply) → IsFirst index change → reply ≡ write_reply is_put (written_to s change Always)
    → t ≡ after_write s change Always → reply.status ≡ 201 → IsPutFirst index s t
created behind index s t change is_put reply first told made status =
    let done : is_write_status (write_reply is_put (written_to s change Always)).status ≡ true =
    subst (λ (r : Reply). is_write_status r.status ≡ true) told (ap is_write_status status) in
    (change, first, made, ap (λ (x : StoreView). (state_in x).journal) made ∙ journal_more behind s change Always is_put done)
