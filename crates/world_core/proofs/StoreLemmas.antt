-- What the calls of a desk that owns its hub make of its history: exactly the entries of the call.
use Rattle.std.proofs.Common.{◌≡◌, ℕ, Bool, true, false, ◌+◌, List, [], ◌∷◌, ◌++◌, length, refl, sym, ap, ◌∙◌, append-nil, append_assoc, length-append, arith}
use Rattle.std.specs.Prelude.{◌<◌, ◌≤◌, ◌^◌, ◌⊎◌, ◌↔◌, if◌then◌else◌, All, Option, Some, Result, Ok, Err, IfOk, OnOk, OnErr}
use Rattle.std.proofs.Common.{subst, ap₂, inl, inr}
use Rattle.q_base.specs.Moment.{greatest_moment}
use Rattle.std.specs.List.{enumerate_from}
use Rattle.query_normal.specs.Pages.{Page}
use Rattle.query_normal.specs.declared.key.KeyShape.{KeyShape}
use Rattle.commit_book.specs.declared.change.Change.{Change}
use Rattle.flat_snapshot.specs.PageText.{IsPage, page_text}
use Rattle.flat_snapshot.specs.Reading.{read_page}
use Rattle.flat_snapshot.specs.declared.read.PageRefusal.{PageRefusal}
use Rattle.flat_snapshot.specs.declared.read.PageRefusal.TheVariants.{Memory}
use Rattle.hub_core.specs.PageRoom.{IsRoomFor, PageRoomView}
use Rattle.hub_desk.specs.Desk.{Fetches, MatchesAll, OwnedView, matching}
use Rattle.hub_desk.specs.HubValue.{entries_for}
use Rattle.hub_model.specs.declared.entry.Answer.{Answer}
use Rattle.hub_model.specs.declared.entry.Condition.{Condition}
use Rattle.hub_model.specs.declared.entry.Entry.{Entry}
use Rattle.hub_model.specs.declared.entry.Entry.TheVariants.{Write, Read, Match, Fetch, Purges, Tick}
use Rattle.hub_model.specs.declared.entry.Matched.{Matched}
use Rattle.hub_model.specs.declared.entry.Tags.{Tags}
use Rattle.hub_model.specs.declared.entry.Written.{Written}
use Rattle.hub_model.specs.Desk.{IsPrefix, Learns, Makes}
use Rattle.hub_model.specs.Helps.{helps_of}
use Rattle.hub_model.specs.Record.{page_of}
use Rattle.hub_model.specs.Reply.{Replied, PurgesTold, wrote, read, fetched, purged, answered, written, purges_from, reply}
use Rattle.hub_model.specs.Legal.{IsLegal, MayFollow}
use Rattle.hub_model.specs.Setting.{IsWithinLimits, Setting}
use Rattle.hub_model.specs.State.{State, at_moment}
use Rattle.hub_model.specs.Step.{after_all, state_of}
use Rattle.hub_model.proofs.Bits.{length-page_bits}
use Rattle.client_model.specs.declared.reply.Reply.{Reply}
use Rattle.world_core.specs.Replies.{write_reply}
use Rattle.world_core.specs.Store.{StoreView, HasGrown, IsSoundStore, after_match, after_page, after_purges, after_write, answer_with, commits_in, entry_with, page_now, purges_now, state_in, state_now, store_of, with_entries, written_to}

-- numbers do not change how many there are
length-enumerate : {X : Type 0} (n : ℕ) (xs : List X) → length (enumerate_from n xs) ≡ length xs
length-enumerate n [] = refl
length-enumerate n (x ∷ xs) = let e = length-enumerate (n + 1) xs in omega (arith, e)

nothing : {X : Type 0} (xs : List X) → length xs ≡ 0 → xs ≡ []
nothing [] e = refl
nothing (x ∷ xs) e = absurd (omega arith)

-- a list that goes on by nothing is the same
same_list : {X : Type 0} (xs ys : List X) → IsPrefix xs ys → length ys ≡ length xs → ys ≡ xs
same_list xs ys p e =
    let l = length-append xs p.0 in
    let n = ap length p.1 in
    let none : p.0 ≡ [] = nothing p.0 (omega (arith, e, l, n)) in
    sym p.1 ∙ ap (λ zs. xs ++ zs) none ∙ append-nil xs

-- nothing comes ahead of what matches all commits
none_ahead : (g : Setting) (s : State) (b : Bool) (moment to : ℕ) → helps_of g s (if b then Match moment to else Tick moment) ≡ []
none_ahead g s true moment to = refl
none_ahead g s false moment to = refl

module _ (g : Setting) (old new : List Entry) where
  -- a call that made no entry leaves the history
  pub learnt : Learns g old new (enumerate_from 0 old) (enumerate_from 0 new) → new ≡ old
  learnt l = same_list old new l.grew (sym (length-enumerate 0 new) ∙ ap length l.mine ∙ length-enumerate 0 old)

  module _ (e : Entry) (told : Replied) (m : Makes g old new (enumerate_from 0 old) (enumerate_from 0 new) e told) where
    -- nobody else made entries
    before_is : m.before ≡ old
    before_is =
        let a = length-enumerate 0 new in
        let b = length-enumerate 0 old in
        let c = length-enumerate (length m.before) (m.helps ++ e ∷ []) in
        let d = length-append (enumerate_from 0 old) (enumerate_from (length m.before) (m.helps ++ e ∷ [])) in
        let s = ap length m.seen in
        let t = length-append (m.before ++ m.helps) (e ∷ []) in
        let u = length-append m.before m.helps in
        let v = length-append m.helps (e ∷ []) in
        let n = ap length m.mine in
        same_list old m.before m.grew (omega (arith, a, b, c, d, s, t, u, v, n))

    -- the history gained the entries of the call
    pub entries_are : new ≡ old ++ entries_for g old e
    entries_are =
        m.seen ∙ append_assoc m.before m.helps (e ∷ [])
        ∙ ap (λ (hs : List Entry). m.before ++ (hs ++ e ∷ [])) m.helped
        ∙ ap (λ (xs : List Entry). xs ++ (helps_of g (state_of g xs) e ++ e ∷ [])) before_is

    -- the answer is the reply behind what comes ahead
    pub told_is : told ≡ reply g (old ++ helps_of g (state_of g old) e) e
    told_is =
        m.told_is
        ∙ ap (λ (hs : List Entry). reply g (m.before ++ hs) e) m.helped
        ∙ ap (λ (xs : List Entry). reply g (xs ++ helps_of g (state_of g xs) e) e) before_is

  abbrev answer_in : Answer → Replied → Answer
  answer_in a (read b) = b
  answer_in a other = a

  abbrev written_in : Written → Replied → Written
  written_in w (wrote v) = v
  written_in w other = w

  abbrev page_in : Page → Replied → Page
  page_in p (fetched q) = q
  page_in p other = p

  abbrev purges_in : PurgesTold → Replied → PurgesTold
  purges_in p (purged q) = q
  purges_in p other = p

  -- a read
  pub read_told : (moment : ℕ) (key : KeyShape) (tags : Tags) (a : Answer) → Makes g old new (enumerate_from 0 old) (enumerate_from 0 new) (Read moment key tags a.commit) (read a)
      → a ≡ answered g key tags a.commit (at_moment (state_of g old) moment)
  unfolding reply
  read_told moment key tags a m =
      ap (answer_in a) (told_is (Read moment key tags a.commit) (read a) m ∙ ap (λ (xs : List Entry). reply g xs (Read moment key tags a.commit)) (append-nil old))

  -- a page
  pub page_told : (moment : ℕ) (p : Page) → Makes g old new (enumerate_from 0 old) (enumerate_from 0 new) (Fetch moment) (fetched p)
      → p ≡ page_of g (at_moment (state_of g old) moment)
  unfolding reply
  page_told moment p m =
      ap (page_in p) (told_is (Fetch moment) (fetched p) m ∙ ap (λ (xs : List Entry). reply g xs (Fetch moment)) (append-nil old))

  -- a list of purges
  pub purges_told : (moment from : ℕ) (p : PurgesTold) → Makes g old new (enumerate_from 0 old) (enumerate_from 0 new) (Purges moment from) (purged p)
      → p ≡ purges_from from (at_moment (state_of g old) moment)
  unfolding reply
  purges_told moment from p m =
      ap (purges_in p) (told_is (Purges moment from) (purged p) m ∙ ap (λ (xs : List Entry). reply g xs (Purges moment from)) (append-nil old))

  -- a write, in the state behind what comes ahead of it
  pub write_told : ((history more : List Entry) → state_of g (history ++ more) ≡ after_all g (state_of g history) more)
      → (moment : ℕ) (change : Change) (condition : Condition) (w : Written) → Makes g old new (enumerate_from 0 old) (enumerate_from 0 new) (Write moment change condition) (wrote w)
      → w ≡ written g change condition (at_moment (after_all g (state_of g old) (helps_of g (state_of g old) (Write moment change condition))) moment)
  unfolding reply
  write_told state moment change condition w m =
      ap (written_in w) (told_is (Write moment change condition) (wrote w) m)
      ∙ ap (λ s. written g change condition (at_moment s moment)) (state old (helps_of g (state_of g old) (Write moment change condition)))

  -- all commits were matched
  pub matched_entries : (moment : ℕ) (told : Matched) → MatchesAll g old new (enumerate_from 0 old) (enumerate_from 0 new) moment told → new ≡ old ++ matching (state_of g old) moment ∷ []
  matched_entries moment told m =
      let none : (s : State) → helps_of g s m.entry ≡ [] = λ s. ap (helps_of g s) m.entry_is ∙ none_ahead g s _ moment _ in
      let helps : m.made.helps ≡ [] = m.made.helped ∙ none (state_of g m.made.before) in
      let is : m.entry ≡ matching (state_of g old) moment =
      m.entry_is ∙ ap (λ (hs : List Entry). matching (state_of g (m.made.before ++ hs)) moment) helps
      ∙ ap (λ (xs : List Entry). matching (state_of g xs) moment) (append-nil m.made.before ∙ before_is m.entry m.replied m.made) in
      entries_are m.entry m.replied m.made
      ∙ ap (λ (hs : List Entry). old ++ (hs ++ m.entry ∷ [])) (none (state_of g old))
      ∙ ap (λ (x : Entry). old ++ x ∷ []) is

-- ---- the calls of a desk as those of a store

pub always : {T E P : Type 0} (result : Result T E) → P → OnOk result P
always (Ok x) p = p
always (Err e) p = tt

-- the law of one entry more
abbrev pub OneMore : Type 0
OneMore = (g : Setting) (history : List Entry) (e : Entry) → IsLegal g (history ++ e ∷ []) ↔ (IsLegal g history × MayFollow g (state_of g history) e)

pub same_store : (s : StoreView) → HasGrown s s
same_store s = record { grew = ([], append-nil s.entries); legal = λ h. h; setting = refl; moment = refl }

prefix_on : (xs ys zs : List Entry) → IsPrefix xs ys → IsPrefix ys zs → IsPrefix xs zs
prefix_on xs ys zs a b = (a.0 ++ b.0, sym (append_assoc xs a.0 b.0) ∙ ap (λ (l : List Entry). l ++ b.0) a.1 ∙ b.1)

pub grown_on : (s t u : StoreView) → HasGrown s t → HasGrown t u → HasGrown s u
grown_on s t u a b = record {
  grew = prefix_on s.entries t.entries u.entries a.grew b.grew;
  legal = λ h. b.legal (a.legal h);
  setting = b.setting ∙ a.setting;
  moment = b.moment ∙ a.moment;
}

pub sound_on : (g h : Setting) (old new : PageRoomView) → h ≡ g → IsRoomFor g new → IsSoundStore g old → IsSoundStore h new
sound_on g h old new same room sound =
    subst (λ (k : Setting). IsSoundStore k new) (sym same) (record { room = room; within = sound.within })

-- memory was reserved
pub prepared : (d m : OwnedView) (moment : ℕ) → m.entries ≡ d.entries → m.setting ≡ d.setting → HasGrown (store_of d moment) (store_of m moment)
prepared d m moment same set = record {
  grew = ([], append-nil d.entries ∙ sym same);
  legal = λ h. subst (λ (es : List Entry). IsLegal m.setting es) (sym same) (subst (λ (g : Setting). IsLegal g d.entries) (sym set) h);
  setting = set;
  moment = refl;
}

-- from the first desk memory was reserved, and then the call came to the last one
module _ (d m n : OwnedView) (moment : ℕ) (same : m.entries ≡ d.entries) (first : m.setting ≡ d.setting) (second : n.setting ≡ m.setting) where
  moved : (R : Setting → List Entry → Type 0) → R m.setting m.entries → R d.setting d.entries
  moved R r = subst (λ (es : List Entry). R d.setting es) same (subst (λ (g : Setting). R g m.entries) first r)

  made_first : (e : Entry) (told : Replied) → Makes m.setting m.entries n.entries (enumerate_from 0 m.entries) (enumerate_from 0 n.entries) e told
      → Makes d.setting d.entries n.entries (enumerate_from 0 d.entries) (enumerate_from 0 n.entries) e told
  made_first e told = moved (λ (g : Setting) (es : List Entry). Makes g es n.entries (enumerate_from 0 es) (enumerate_from 0 n.entries) e told)

  store_is : (es : List Entry) → n.entries ≡ d.entries ++ es → store_of n moment ≡ with_entries (store_of d moment) es
  store_is es e = ap₂ (λ (g : Setting) (xs : List Entry). store_of (record n { setting = g; entries = xs }) moment) (second ∙ first) e

  made_store : (e : Entry) (told : Replied) → Makes m.setting m.entries n.entries (enumerate_from 0 m.entries) (enumerate_from 0 n.entries) e told
      → store_of n moment ≡ with_entries (store_of d moment) (entries_for d.setting d.entries e)
  made_store e told made = store_is (entries_for d.setting d.entries e) (entries_are d.setting d.entries n.entries e told (made_first e told made))

  pub made_grown : (e : Entry) (told : Replied) → Makes m.setting m.entries n.entries (enumerate_from 0 m.entries) (enumerate_from 0 n.entries) e told
      → HasGrown (store_of d moment) (store_of n moment)
  made_grown e told made =
      let f = made_first e told made in
      record {
        grew = (entries_for d.setting d.entries e, sym (entries_are d.setting d.entries n.entries e told f));
        legal = λ h. subst (λ (g : Setting). IsLegal g n.entries) (sym (second ∙ first)) f.legal;
        setting = second ∙ first;
        moment = refl;
      }

  pub learnt_grown : Learns m.setting m.entries n.entries (enumerate_from 0 m.entries) (enumerate_from 0 n.entries) → HasGrown (store_of d moment) (store_of n moment)
  learnt_grown l = prepared d n moment (learnt m.setting m.entries n.entries l ∙ same) (second ∙ first)

  pub grown_by : {T E : Type 0} (result : Result T E) (entry : T → Entry) (told : T → Replied)
      → IfOk result (λ a. Makes m.setting m.entries n.entries (enumerate_from 0 m.entries) (enumerate_from 0 n.entries) (entry a) (told a))
      → OnErr result (Learns m.setting m.entries n.entries (enumerate_from 0 m.entries) (enumerate_from 0 n.entries))
      → HasGrown (store_of d moment) (store_of n moment)
  grown_by (Ok a) entry told made none = made_grown (entry a) (told a) made
  grown_by (Err e) entry told made none = learnt_grown none

  -- a read
  module _ (one : OneMore) (key : KeyShape) (tags : Tags) where
    commit_is : (a : Answer) → Makes m.setting m.entries n.entries (enumerate_from 0 m.entries) (enumerate_from 0 n.entries) (Read moment key tags a.commit) (read a)
        → length (state_of m.setting m.entries).journal ≤ a.commit → a.commit ≡ commits_in (store_of d moment)
    commit_is a made fresh =
        let e = Read moment key tags a.commit in
        let f = made_first e (read a) made in
        let legal = (one d.setting d.entries e).0 (subst (λ (es : List Entry). IsLegal d.setting es) (entries_are d.setting d.entries n.entries e (read a) f) f.legal) in
        let low : length (state_of d.setting d.entries).journal ≤ a.commit = moved (λ (g : Setting) (es : List Entry). length (state_of g es).journal ≤ a.commit) fresh in
        let high : a.commit ≤ length (state_of d.setting d.entries).journal = legal.1.0.1 in
        omega (arith, low, high)

    pub read_said : {E : Type 0} (result : Result Answer E)
        → IfOk result (λ a. Makes m.setting m.entries n.entries (enumerate_from 0 m.entries) (enumerate_from 0 n.entries) (Read moment key tags a.commit) (read a))
        → IfOk result (λ a. length (state_of m.setting m.entries).journal ≤ a.commit)
        → IfOk result (λ a. a ≡ answer_with (store_of d moment) key tags)
    read_said (Ok a) made fresh =
        read_told d.setting d.entries n.entries moment key tags a (made_first (Read moment key tags a.commit) (read a) made)
        ∙ ap (λ (at : ℕ). answered d.setting key tags at (at_moment (state_of d.setting d.entries) moment)) (commit_is a made fresh)
    read_said (Err e) made fresh = tt

    pub read_store : {E : Type 0} (result : Result Answer E)
        → IfOk result (λ a. Makes m.setting m.entries n.entries (enumerate_from 0 m.entries) (enumerate_from 0 n.entries) (Read moment key tags a.commit) (read a))
        → IfOk result (λ a. length (state_of m.setting m.entries).journal ≤ a.commit)
        → OnOk result (store_of n moment ≡ with_entries (store_of d moment) (entry_with (store_of d moment) key tags ∷ []))
    read_store (Ok a) made fresh =
        made_store (Read moment key tags a.commit) (read a) made
        ∙ ap (λ (at : ℕ). with_entries (store_of d moment) (Read moment key tags at ∷ [])) (commit_is a made fresh)
    read_store (Err e) made fresh = tt

  -- a write
  pub write_said : ((g : Setting) (history more : List Entry) → state_of g (history ++ more) ≡ after_all g (state_of g history) more)
      → (change : Change) (condition : Condition) {E : Type 0} (result : Result Written E)
      → IfOk result (λ w. Makes m.setting m.entries n.entries (enumerate_from 0 m.entries) (enumerate_from 0 n.entries) (Write moment change condition) (wrote w))
      → IfOk result (λ w. w ≡ written_to (store_of d moment) change condition)
  write_said state change condition (Ok w) made =
      write_told d.setting d.entries n.entries (state d.setting) moment change condition w (made_first (Write moment change condition) (wrote w) made)
  write_said state change condition (Err e) made = tt

  pub write_store : (change : Change) (condition : Condition) {E : Type 0} (result : Result Written E)
      → IfOk result (λ w. Makes m.setting m.entries n.entries (enumerate_from 0 m.entries) (enumerate_from 0 n.entries) (Write moment change condition) (wrote w))
      → OnOk result (store_of n moment ≡ after_write (store_of d moment) change condition)
  write_store change condition (Ok w) made = made_store (Write moment change condition) (wrote w) made
  write_store change condition (Err e) made = tt

  -- a page
  pub page_said : (room : PageRoomView) → Fetches m.setting m.entries n.entries (enumerate_from 0 m.entries) (enumerate_from 0 n.entries) moment room
      → room.page ≡ Some (page_now (store_of d moment))
  page_said room f =
      f.held ∙ ap (λ (p : Page). Some p) (page_told d.setting d.entries n.entries moment f.page (made_first (Fetch moment) (fetched f.page) f.made))

  pub page_store : (room : PageRoomView) → Fetches m.setting m.entries n.entries (enumerate_from 0 m.entries) (enumerate_from 0 n.entries) moment room
      → store_of n moment ≡ after_page (store_of d moment)
  page_store room f = made_store (Fetch moment) (fetched f.page) f.made

  pub page_grown : (room : PageRoomView) → Fetches m.setting m.entries n.entries (enumerate_from 0 m.entries) (enumerate_from 0 n.entries) moment room
      → HasGrown (store_of d moment) (store_of n moment)
  page_grown room f = made_grown (Fetch moment) (fetched f.page) f.made

  -- all commits matched
  pub match_store : (told : Matched) → MatchesAll m.setting m.entries n.entries (enumerate_from 0 m.entries) (enumerate_from 0 n.entries) moment told
      → store_of n moment ≡ after_match (store_of d moment)
  match_store told all =
      store_is (matching (state_of d.setting d.entries) moment ∷ [])
      (matched_entries d.setting d.entries n.entries moment told
      (moved (λ (g : Setting) (es : List Entry). MatchesAll g es n.entries (enumerate_from 0 es) (enumerate_from 0 n.entries) moment told) all))

  pub match_grown : (told : Matched) → MatchesAll m.setting m.entries n.entries (enumerate_from 0 m.entries) (enumerate_from 0 n.entries) moment told
      → HasGrown (store_of d moment) (store_of n moment)
  match_grown told all = made_grown all.entry all.replied all.made

  -- purges
  pub purges_said : (from : ℕ) {T E : Type 0} (told : T → PurgesTold) (result : Result T E)
      → IfOk result (λ p. Makes m.setting m.entries n.entries (enumerate_from 0 m.entries) (enumerate_from 0 n.entries) (Purges moment from) (purged (told p)))
      → IfOk result (λ p. told p ≡ purges_now (store_of d moment) from)
  purges_said from told (Ok p) made =
      purges_told d.setting d.entries n.entries moment from (told p) (made_first (Purges moment from) (purged (told p)) made)
  purges_said from told (Err e) made = tt

  pub purges_store : (from : ℕ) {T E : Type 0} (told : T → PurgesTold) (result : Result T E)
      → IfOk result (λ p. Makes m.setting m.entries n.entries (enumerate_from 0 m.entries) (enumerate_from 0 n.entries) (Purges moment from) (purged (told p)))
      → OnOk result (store_of n moment ≡ after_purges (store_of d moment) from)
  purges_store from told (Ok p) made = made_store (Purges moment from) (purged (told p)) made
  purges_store from told (Err e) made = tt

-- ---- the reply to a write

pub wrote_as : {E : Type 0} (result : Result Reply E) (is_put other : Bool) (w : Written) (s t : StoreView) (change : Change) (condition : Condition) → IfOk result (λ reply. reply ≡ write_reply is_put w) → w ≡ written_to s change condition
    → s ≡ t → is_put ≡ other → IfOk result (λ reply. reply ≡ write_reply other (written_to t change condition))
wrote_as (Ok reply) is_put other w s t change condition told made same is =
    told ∙ ap (λ (x : Written). write_reply is_put x) made ∙ ap (λ (x : StoreView). write_reply is_put (written_to x change condition)) same ∙ ap (λ (b : Bool). write_reply b (written_to t change condition)) is
wrote_as (Err e) is_put other w s t change condition told made same is = tt

-- ---- the page that is read from a buffer

pub page_again : ((bytes : List ℕ) (page : Page) → All (λ b. b < 2 ^ 8) bytes → (read_page bytes ≡ Ok page) ↔ (IsPage page × (bytes ≡ page_text page)))
    → (bytes : List ℕ) (p page : Page) (result : Result Page PageRefusal) → All (λ b. b < 2 ^ 8) bytes → bytes ≡ page_text p → IsPage p
    → (result ≡ Err Memory) ⊎ (result ≡ read_page bytes) → result ≡ Ok page → page ≡ p
page_again law bytes p page result small text is (inl none) got = cc
page_again law bytes p page result small text is (inr said) got = let again = (law bytes p small).1 (is, text) in cc

pub page_is : ((g : Setting) (history : List Entry) → IsLegal g history → (state_of g history).front ≤ length (state_of g history).journal)
    → (s : StoreView) → IsWithinLimits s.setting → IsLegal s.setting s.entries → length (state_in s).journal < 2 ^ 64 → (page_now s).moment ≤ greatest_moment → IsPage (page_now s)
page_is covered s within legal few early = record {
  hashed = within.hashes_low;
  few_hashes = within.hashes_high;
  least_bits = within.bits_low;
  most_bits = within.bits_high;
  covered = covered s.setting s.entries legal;
  commits = few;
  moment = early;
  bits = length-page_bits s.setting (state_now s);
}
