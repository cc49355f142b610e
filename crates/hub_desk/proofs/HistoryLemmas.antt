-- What the entries of a call do to a history.
use Rattle.std.proofs.Common.{◌≡◌, ◌↔◌, ℕ, Bool, true, false, nat_lt, lt-ltb, le-ltb, Some, ◌+◌, ◌<◌, ◌≤◌, List, [], ◌∷◌, ◌++◌, length, refl, sym, ap, ap₂, ◌∙◌, append_assoc, append-nil, arith, subst}
use Rattle.std.specs.Prelude.{if◌then◌else◌}
use Rattle.std.specs.List.{enumerate_from}
use Rattle.commit_book.specs.declared.change.Change.{Change}
use Rattle.hub_model.specs.declared.entry.Condition.{Condition}
use Rattle.hub_model.specs.declared.entry.Entry.{Entry}
use Rattle.hub_model.specs.declared.entry.Matched.{Matched}
use Rattle.hub_model.specs.declared.entry.Stats.{Stats}
use Rattle.hub_model.specs.declared.entry.Entry.TheVariants.{Write, Match, Fetch, Tick}
use Rattle.hub_model.specs.Desk.{Makes, Learns}
use Rattle.hub_model.specs.Helps.{helps_of, match_between}
use Rattle.hub_model.specs.Legal.{Admits, IsLegalFrom, IsLegal}
use Rattle.hub_model.specs.Reply.{Replied, matched, counted, reply, reply_in}
use Rattle.hub_model.specs.Setting.{Setting}
use Rattle.hub_model.specs.Record.{page_of}
use Rattle.hub_desk.specs.Calls.{EntriesAreRepresented, RepliesAreBehind}
use Rattle.hub_desk.specs.Desk.{matching, MatchesAll, Fetches}
use Rattle.hub_desk.specs.HubValue.{entries_for}
use Rattle.hub_core.specs.PageRoom.{PageRoomView}
use Rattle.hub_core.specs.HubState.{HubView, IsAt, Represents}
use Rattle.hub_model.specs.State.{State, start}
use Rattle.hub_model.specs.Step.{after, after_all, state_of}

-- the law by which the fronts tell what helped a write
abbrev pub HelpsAreTold : Type 0
HelpsAreTold = (g : Setting) (t : State) (moment : ℕ) (change : Change) (condition : Condition) → helps_of g t (Write moment change condition) ≡ match_between moment t.front (after_all g t (helps_of g t (Write moment change condition) ++ Write moment change condition ∷ [])).front

-- entries appended to others have the numbers after theirs
pub enumerate_from-append : {X : Type 0} (n : ℕ) (xs ys : List X) → enumerate_from n (xs ++ ys) ≡ enumerate_from n xs ++ enumerate_from (n + length xs) ys
enumerate_from-append n [] ys = ap (λ k. enumerate_from k ys) (omega arith)
enumerate_from-append {X} n (x ∷ xs) ys =
    let rest : enumerate_from (n + 1) (xs ++ ys) ≡ enumerate_from (n + 1) xs ++ enumerate_from (n + 1 + length xs) ys = enumerate_from-append (n + 1) xs ys in
    let offset : n + 1 + length xs ≡ n + length (x ∷ xs) = omega arith in
    let same : enumerate_from (n + 1 + length xs) ys ≡ enumerate_from (n + length (x ∷ xs)) ys = ap (λ k. enumerate_from k ys) offset in
    cc

-- a desk that makes no entry knows what it knew
pub learnt : (g : Setting) (seen : List Entry) (mine : List (ℕ × Entry)) → Learns g seen seen mine mine
learnt g seen mine = record { grew = ([], append-nil seen); legal = λ h. h; mine = refl }

-- of a hub that represents a history
module _ (h : HubView) (history : List Entry) (represented : Represents h history) where
  abbrev s : State
  s = state_of h.setting history

  -- the hub after a call represents the longer history
  pub represents-more : (new : HubView) (longer : List Entry) (e : Entry) → EntriesAreRepresented → Admits s e → new.setting ≡ h.setting → IsAt new (after_all h.setting s (entries_for h.setting history e)) → longer ≡ history ++ entries_for h.setting history e → Represents new longer
  represents-more new longer e represents admits same at stored = subst (λ (l : List Entry). Represents new l) (sym stored) (represents h new history e represented admits same at)

  -- the hub after a call that had no memory represents the same history
  pub represents-still : (new : HubView) → new.setting ≡ h.setting → ((t : State) → IsAt h t → IsAt new t) → Represents new history
  represents-still new same still = record {
    state = subst (λ (g : Setting). IsAt new (state_of g history)) (sym same) (still s represented.state);
    legal = subst (λ (g : Setting). IsLegal g history) (sym same) represented.legal;
  }

  -- a read of the last commit may follow, as the front is not above it
  pub may_read : (at : ℕ) → s.front ≤ length s.journal → at ≡ h.commits → (s.front ≤ at) × (at ≤ length s.journal)
  may_read at within last = let same = represented.state.book.commits in (omega (arith, within, same, last), omega (arith, same, last))

  -- a match of all commits may follow where the front is behind
  pub may_match : (front to : ℕ) → front ≡ h.front → to ≡ h.commits → front < to → (s.front < to) × (to ≤ length s.journal)
  may_match front to front_is to_is behind =
      let same = represented.state.book.commits in
      let there = represented.state.time.front in
      (omega (arith, front_is, behind, there), omega (arith, to_is, same))

  -- which entry matches all commits
  module _ (moment front to : ℕ) (front_is : front ≡ h.front) (to_is : to ≡ h.commits) where
    -- a match where the front is behind
    pub match_is : front < to → Match moment to ≡ matching s moment
    match_is behind =
        let up : to ≡ length s.journal = to_is ∙ represented.state.book.commits in
        let test : nat_lt s.front (length s.journal) ≡ true = let f = represented.state.time.front in lt-ltb s.front (length s.journal) (omega (arith, behind, up, front_is, f)) in
        let here : matching s moment ≡ Match moment (length s.journal) = rw test refl in
        ap (λ (n : ℕ). Match moment n) up ∙ sym here

    -- a tick where it is the last commit
    pub tick_is : to ≤ front → Tick moment ≡ matching s moment
    tick_is ahead =
        let up : to ≡ length s.journal = to_is ∙ represented.state.book.commits in
        let test : nat_lt s.front (length s.journal) ≡ false = let f = represented.state.time.front in le-ltb s.front (length s.journal) (omega (arith, ahead, up, front_is, f)) in
        let here : matching s moment ≡ Tick moment = rw test refl in sym here

  -- what helped a write, by the fronts before it and after it
  module _ (new : HubView) (moment : ℕ) (change : Change) (condition : Condition) (told : HelpsAreTold) (at : IsAt new (after_all h.setting s (entries_for h.setting history (Write moment change condition)))) (front later : ℕ) (front_is : front ≡ h.front) (later_is : later ≡ new.front) where
    abbrev mine : Entry
    mine = Write moment change condition

    helps_between : match_between moment front later ≡ helps_of h.setting s mine
    helps_between =
        ap₂ (match_between moment) (front_is ∙ represented.state.time.front) (later_is ∙ at.time.front) ∙ sym (told h.setting s moment change condition)

    -- it is stored ahead of the write
    pub written-stored : (between longer : List Entry) → between ≡ history ++ match_between moment front later → longer ≡ between ++ mine ∷ [] → longer ≡ history ++ entries_for h.setting history mine
    written-stored between longer ahead last =
        last ∙ ap (λ (l : List Entry). l ++ mine ∷ []) (ahead ∙ ap (λ (l : List Entry). history ++ l) helps_between) ∙ append_assoc history (helps_of h.setting s mine) (mine ∷ [])

    counted_by : (b : Bool) → (if b then 2 else 1) ≡ length ((if b then Match moment later ∷ [] else []) ++ mine ∷ [])
    counted_by true = refl
    counted_by false = refl

    -- and counted with it
    pub written-counted : (if nat_lt front later then 2 else 1) ≡ length (entries_for h.setting history mine)
    written-counted = counted_by (nat_lt front later) ∙ ap (λ (l : List Entry). length (l ++ mine ∷ [])) helps_between

  -- and of a desk that has seen all of it
  module _ (g : Setting) (seen longer : List Entry) (setting : g ≡ h.setting) (seen_is : seen ≡ history) where
    -- the entries come after those that the desk knew
    pub seen_there : (helps : List Entry) (e : Entry) → longer ≡ history ++ (helps ++ e ∷ []) → longer ≡ (history ++ helps) ++ e ∷ []
    seen_there helps e longer_is = longer_is ∙ sym (append_assoc history helps (e ∷ []))

    -- so do they with their numbers
    pub mine_there : (es : List Entry) → longer ≡ history ++ es → enumerate_from 0 longer ≡ enumerate_from 0 seen ++ enumerate_from (length history) es
    mine_there es longer_is =
        let positions : enumerate_from 0 (history ++ es) ≡ enumerate_from 0 history ++ enumerate_from (0 + length history) es = enumerate_from-append 0 history es in
        let zero_first : 0 + length history ≡ length history = omega arith in
        cc

    -- after a call for an entry that the state admits
    module _ (new : HubView) (represents : EntriesAreRepresented) (replies : RepliesAreBehind) where
      -- the answer of the hub is the reply to the entry there, which only this desk can have made
      abbrev pub made : (e : Entry) (told : Replied) → Admits s e → new.setting ≡ h.setting → IsAt new (after_all h.setting s (entries_for h.setting history e)) → longer ≡ history ++ entries_for h.setting history e → told ≡ reply_in h.setting (after_all h.setting s (helps_of h.setting s e)) e → Makes g seen longer (enumerate_from 0 seen) (enumerate_from 0 longer) e told
      made e told admits same at stored told_is =
          record {
            before = history;
            helps = helps_of h.setting s e;
            grew = ([], append-nil seen ∙ seen_is);
            helped = ap (λ (x : Setting). helps_of x (state_of x history) e) (sym setting);
            seen = seen_there (helps_of h.setting s e) e stored;
            legal = subst (λ (x : Setting). IsLegal x longer) (same ∙ sym setting) (represents-more new longer e represents admits same at stored).legal;
            mine = mine_there (entries_for h.setting history e) stored;
            told_is = subst (λ (x : Setting). told ≡ reply x (history ++ helps_of h.setting s e) e) (sym setting) (told_is ∙ sym (replies h.setting history e));
          }

      -- the desk fetched the page into the buffer
      pub fetched_page : (moment : ℕ) (room : PageRoomView) → new.setting ≡ h.setting → IsAt new (after h.setting s (Fetch moment)) → longer ≡ history ++ Fetch moment ∷ [] → room.page ≡ Some (page_of h.setting (after h.setting s (Fetch moment))) → Fetches g seen longer (enumerate_from 0 seen) (enumerate_from 0 longer) moment room
      fetched_page moment room same at stored held = record { page = page_of h.setting (after h.setting s (Fetch moment)); held = held; made = made (Fetch moment) _ tt same at stored refl }

      -- which matches all commits
      module _ (moment front to : ℕ) (front_is : front ≡ h.front) (to_is : to ≡ h.commits) where
        seen_state : s ≡ state_of g (history ++ [])
        seen_state = let nothing : history ++ [] ≡ history = append-nil history in cc

        -- by a match where the front is behind
        pub matched_all : (told : Matched) → front < to → new.setting ≡ h.setting → IsAt new (after h.setting s (Match moment to)) → longer ≡ history ++ Match moment to ∷ [] → matched told ≡ reply_in h.setting s (Match moment to) → MatchesAll g seen longer (enumerate_from 0 seen) (enumerate_from 0 longer) moment told
        matched_all told behind same at stored told_is =
            record {
              entry = Match moment to;
              replied = matched told;
              made = made (Match moment to) (matched told) (may_match front to front_is to_is behind) same at stored told_is;
              entry_is = match_is moment front to front_is to_is behind ∙ ap (λ (x : State). matching x moment) seen_state;
              told_is = refl;
            }

        -- and by a tick where it is the last commit
        pub ticked_all : (stats : Stats) → to ≤ front → new.setting ≡ h.setting → IsAt new (after h.setting s (Tick moment)) → longer ≡ history ++ Tick moment ∷ [] → counted stats ≡ reply_in h.setting s (Tick moment) → MatchesAll g seen longer (enumerate_from 0 seen) (enumerate_from 0 longer) moment (record { front = stats.front; clock = stats.clock })
        ticked_all stats ahead same at stored told_is =
            record {
              entry = Tick moment;
              replied = counted stats;
              made = made (Tick moment) (counted stats) tt same at stored told_is;
              entry_is = tick_is moment front to front_is to_is ahead ∙ ap (λ (x : State). matching x moment) seen_state;
              told_is = refl;
            }

-- a new hub represents the empty history
pub new_represents : (h : HubView) (history : List Entry) → IsAt h start → ((g : Setting) → state_of g [] ≡ start) → ((g : Setting) → IsLegal g []) → history ≡ [] → Represents h history
new_represents h history begins state_none legal_none none =
    let nothing : state_of h.setting [] ≡ start = state_none h.setting in
    let state : start ≡ state_of h.setting history = cc in
    record {
      state = subst (λ (s : State). IsAt h s) state begins;
      legal = subst (λ (l : List Entry). IsLegal h.setting l) (sym none) (legal_none h.setting);
    }

-- ---- the law of the entries of a call

-- by the law of more entries
pub entries-represented :
    ((g : Setting) (history more : List Entry) → state_of g (history ++ more) ≡ after_all g (state_of g history) more)
    → ((g : Setting) (history more : List Entry) → IsLegal g (history ++ more) ↔ (IsLegal g history × IsLegalFrom g (state_of g history) more))
    → ((g : Setting) (history : List Entry) (e : Entry) → IsLegal g history → Admits (state_of g history) e → IsLegalFrom g (state_of g history) (helps_of g (state_of g history) e ++ e ∷ []))
    → EntriesAreRepresented
entries-represented state legal follows h new history e represented admits same at =
    let es : List Entry = entries_for h.setting history e in
    let there : after_all h.setting (state_of h.setting history) es ≡ state_of h.setting (history ++ es) = sym (state h.setting history es) in
    record {
      state = subst (λ (g : Setting). IsAt new (state_of g (history ++ es))) (sym same) (subst (λ (t : State). IsAt new t) there at);
      legal = subst (λ (g : Setting). IsLegal g (history ++ es)) (sym same) ((legal h.setting history es).1 (represented.legal, follows h.setting history e represented.legal admits));
    }

pub replies-behind : ((g : Setting) (history more : List Entry) → state_of g (history ++ more) ≡ after_all g (state_of g history) more) → RepliesAreBehind
unfolding reply
replies-behind state g history e = ap (λ (t : State). reply_in g t e) (state g history (helps_of g (state_of g history) e))
