-- Two connections over one history of their own, at the same bytes and moments.
use Rattle.std.proofs.Common.{◌≡◌, ℕ, ◌+◌, ◌≤◌, ◌++◌, Bool, true, false, nat_lt, List, [], ◌∷◌, length, map, Result, Ok, Err, refl, sym, ap, ◌∙◌, subst, subst₂, inl, inr, arith, append_assoc, append-nil, length-append}
use Rattle.std.specs.Prelude.{if◌then◌else◌}
use Rattle.std.specs.List.{enumerate_from}
use Rattle.std.proofs.lemmas.List.{append_cancel_left}
use Rattle.dialogue.specs.Dialogue.{Sides, Exchange, Answered, Dialogue, pieces, is_last}
use Rattle.dialogue.specs.EndLaw.{SameItems}
use Rattle.http_front.specs.ReadBack.{RepliesHaveOneText}
use Rattle.http_front.specs.declared.ask.Ask.{Ask}
use Rattle.http_front.specs.declared.ask.Ask.TheVariants as asks
use Rattle.http_front.specs.declared.refused.Refused.{Refused}
use Rattle.http_front.specs.declared.told.Told.{Told}
use Rattle.http_front.specs.declared.told.Told.TheVariants as answers
use Rattle.http_message.specs.Item.{Item}
use Rattle.hub_desk.specs.Desk.{matching, IsFrontOf, dropping_all, IsWholeDropOf}
use Rattle.hub_model.specs.declared.entry.Entry.{Entry}
use Rattle.hub_model.specs.declared.entry.Entry.TheVariants.{Read, Match, Tick, Horizon}
use Rattle.hub_model.specs.declared.entry.Dropped.{Dropped}
use Rattle.hub_model.specs.declared.entry.Matched.{Matched}
use Rattle.hub_model.specs.declared.entry.Tags.{Tags}
use Rattle.hub_model.specs.Desk.{IsPrefix, Makes, Learns}
use Rattle.hub_model.specs.Helps.{helps_of}
use Rattle.hub_model.specs.Legal.{MayFollow, IsLegal, IsLegalFrom}
use Rattle.hub_model.specs.Reply.{Replied, reply, wrote, read, matched, fetched, purged, counted, dropped}
use Rattle.hub_model.specs.Setting.{Setting}
use Rattle.hub_model.specs.State.{State, start}
use Rattle.hub_model.specs.Step.{after, after_all, state_of}
use Rattle.q_outside.specs.declared.served.Served.{Served}
use Rattle.query_normal.specs.declared.key.KeyShape.{KeyShape}
use Rattle.quaestor_server.specs.Answer.{Serves, Fails, IsAnswer, IsShown, serves, fails, has_entry}
use Rattle.quaestor_server.specs.Ask.{asked_by, is_known_early, shape_by, IsEntryOf, IsToldOf, IsFresh}
use Rattle.quaestor_server.specs.Conversation.{RepliesAt, ConnectionState, Replies}
use Rattle.quaestor_server.specs.TextsAreDetermined.{IsAlone, StopAlike}
use Rattle.quaestor_server.proofs.TextLemmas.{AreAlike, alike, purges_alike, same_text}

-- a list is as long as its numbered elements
length_numbered : (n : ℕ) (es : List Entry) → length (enumerate_from n es) ≡ length es
length_numbered n [] = refl
length_numbered n (e ∷ es) = omega (arith, length_numbered (n + 1) es)

-- a beginning is shorter by what follows it
length_prefix : (xs ys : List Entry) (p : IsPrefix xs ys) → length ys ≡ length xs + length p.0
length_prefix xs ys p = ap (λ (l : List Entry). length l) (sym p.1) ∙ length-append xs p.0

-- a list of length zero is empty
empty_is : (xs : List Entry) → length xs ≡ 0 → xs ≡ []
empty_is [] h = refl
empty_is (x ∷ xs) h = absurd (omega (arith, h))

-- a beginning that is as long is the whole
prefix_whole : (xs ys : List Entry) (p : IsPrefix xs ys) → length p.0 ≡ 0 → ys ≡ xs
prefix_whole xs ys p none = sym p.1 ∙ ap (λ (l : List Entry). xs ++ l) (empty_is p.0 none) ∙ append-nil xs

-- by how much a call makes the history and the own entries longer
record IsMore (old new : List Entry) (mine mine_new : List (ℕ × Entry)) (others own : ℕ) : Type 0 where
  seen_is : length new ≡ length old + others + own
  mine_is : length mine_new ≡ length mine + own

makes_more : (g : Setting) (old new : List Entry) (mine mine_new : List (ℕ × Entry)) (e : Entry) (told : Replied) (m : Makes g old new mine mine_new e told) → IsMore old new mine mine_new (length m.grew.0) (length m.helps + 1)
makes_more g old new mine mine_new e told m =
    let first : length m.before ≡ length old + length m.grew.0 = length_prefix old m.before m.grew in
    let all : length new ≡ length (m.before ++ m.helps) + 1 = ap (λ (l : List Entry). length l) m.seen ∙ length-append (m.before ++ m.helps) (e ∷ []) in
    let both : length (m.before ++ m.helps) ≡ length m.before + length m.helps = length-append m.before m.helps in
    let own : length (m.helps ++ e ∷ []) ≡ length m.helps + 1 = length-append m.helps (e ∷ []) in
    let placed : length (enumerate_from (length m.before) (m.helps ++ e ∷ [])) ≡ length (m.helps ++ e ∷ []) = length_numbered (length m.before) (m.helps ++ e ∷ []) in
    let more : length mine_new ≡ length mine + length (enumerate_from (length m.before) (m.helps ++ e ∷ [])) = ap (λ (l : List (ℕ × Entry)). length l) m.mine ∙ length-append mine (enumerate_from (length m.before) (m.helps ++ e ∷ [])) in
    record { seen_is = omega (arith, first, all, both); mine_is = omega (arith, own, placed, more) }

learns_more : (g : Setting) (old new : List Entry) (mine mine_new : List (ℕ × Entry)) (l : Learns g old new mine mine_new) → IsMore old new mine mine_new (length l.grew.0) 0
learns_more g old new mine mine_new l =
    let first : length new ≡ length old + length l.grew.0 = length_prefix old new l.grew in
    let same : length mine_new ≡ length mine = ap (λ (x : List (ℕ × Entry)). length x) l.mine in
    record { seen_is = omega (arith, first); mine_is = omega (arith, same) }

-- the history grows by no less than the own entries
record Grows (a b : ConnectionState) : Type 0 where
  least : length a.seen + length b.mine ≤ length b.seen + length a.mine

replies_grow : (g : Setting) (unready : Bool) (a b : ConnectionState) (item : Item) (close : Bool) (text : List ℕ) → Replies g unready a item close text b → Grows a b
replies_grow g unready a b item close text r = elim r.at.shows.answer [
  | serves s ↦ let m = makes_more g a.seen b.seen a.mine b.mine s.entry s.replied s.made in record { least = omega (arith, m.seen_is, m.mine_is) }
  | fails why f ↦ let m = learns_more g a.seen b.seen a.mine b.mine f.learns in record { least = omega (arith, m.seen_is, m.mine_is) }
]

answered_grow : (g : Setting) (unready : Bool) (count : ℕ) (first last : ConnectionState) (xs : List Exchange) → Answered (Replies g unready) count first xs last → Grows first last
answered_grow g unready count first last [] t = subst (λ (s : ConnectionState). Grows first s) t (record { least = omega arith })
answered_grow g unready count first last (x ∷ xs) t =
    let here = replies_grow g unready first t.0 x.item (is_last count x) x.answer t.1 in
    let rest = answered_grow g unready (count + 1) t.0 last xs t.2 in
    record { least = omega (arith, here.least, rest.least) }

-- an entry that is last in a legal history may follow the others
legal_last : (g : Setting) (s : State) (es : List Entry) (e : Entry) → IsLegalFrom g s (es ++ e ∷ []) → MayFollow g (after_all g s es) e
legal_last g s [] e l = l.0
legal_last g s (x ∷ es) e l = legal_last g (after g s x) es e l.1

may_follow : (g : Setting) (history : List Entry) (e : Entry) → IsLegal g (history ++ e ∷ []) → MayFollow g (state_of g history) e
unfolding IsLegal state_of
may_follow g history e l = legal_last g start history e l

-- a history with the entries that come ahead of one
abbrev helped : Setting → List Entry → Entry → List Entry
helped g history e = history ++ helps_of g (state_of g history) e

-- a call that served among no others' entries, said of the history that was known
record IsPlain (g : Setting) (old new : List Entry) (mine mine_new : List (ℕ × Entry)) (moment : ℕ) (asked : Result Ask Refused) (e : Entry) (replied : Replied) : Type 0 where
  seen_is : new ≡ helped g old e ++ e ∷ []
  mine_is : mine_new ≡ mine ++ enumerate_from (length old) (helps_of g (state_of g old) e ++ e ∷ [])
  is_of : IsEntryOf asked moment (state_of g (helped g old e)) e
  may : MayFollow g (state_of g (helped g old e)) e
  told_is : replied ≡ reply g (helped g old e) e

plain : (g : Setting) (old new : List Entry) (mine mine_new : List (ℕ × Entry)) (moment : ℕ) (asked : Result Ask Refused) (told : Told) (page : List ℕ) (s : Serves g old new mine mine_new moment asked told page) → length new + length mine ≡ length old + length mine_new → IsPlain g old new mine mine_new moment asked s.entry s.replied
plain g old new mine mine_new moment asked told page s alone =
    let m = s.made in
    let more = makes_more g old new mine mine_new s.entry s.replied m in
    let before : m.before ≡ old = prefix_whole old m.before m.grew (omega (arith, alone, more.seen_is, more.mine_is)) in
    let helps : m.helps ≡ helps_of g (state_of g old) s.entry = m.helped ∙ ap (λ (l : List Entry). helps_of g (state_of g l) s.entry) before in
    let ahead : m.before ++ m.helps ≡ helped g old s.entry = ap (λ (l : List Entry). l ++ m.helps) before ∙ ap (λ (l : List Entry). old ++ l) helps in
    let whole : new ≡ helped g old s.entry ++ s.entry ∷ [] = m.seen ∙ ap (λ (l : List Entry). l ++ s.entry ∷ []) ahead in
    record {
      seen_is = whole;
      mine_is = m.mine ∙ ap (λ (l : List Entry). mine ++ enumerate_from (length l) (m.helps ++ s.entry ∷ [])) before ∙ ap (λ (l : List Entry). mine ++ enumerate_from (length old) (l ++ s.entry ∷ [])) helps;
      is_of = subst (λ (l : List Entry). IsEntryOf asked moment (state_of g l) s.entry) ahead s.is_of;
      may = may_follow g (helped g old s.entry) s.entry (subst (λ (l : List Entry). IsLegal g l) whole m.legal);
      told_is = m.told_is ∙ ap (λ (l : List Entry). reply g l s.entry) ahead;
    }

-- a read among no others' entries is of the last commit
read_at : (g : Setting) (known : List Entry) (e : Entry) (moment : ℕ) (key : KeyShape) (tags : Tags) (at : ℕ) → e ≡ Read moment key tags at → IsFresh g known e → MayFollow g (state_of g (helped g known e)) e → at ≡ length (state_of g known).journal
read_at g known e moment key tags at is fresh may =
    let low : length (state_of g known).journal ≤ at = subst (λ (x : Entry). IsFresh g known x) is fresh in
    let high : MayFollow g (state_of g (known ++ [])) (Read moment key tags at) = subst (λ (x : Entry). MayFollow g (state_of g (helped g known x)) x) is may in
    let same : length (state_of g (known ++ [])).journal ≡ length (state_of g known).journal = ap (λ (l : List Entry). length (state_of g l).journal) (append-nil known) in
    omega (arith, low, high.0.1, same)

-- nothing comes ahead of the entry that matches all commits
match_alone : (g : Setting) (s t : State) (moment : ℕ) → helps_of g s (matching t moment) ≡ []
match_alone g s t moment = by (nat_lt t.front (length t.journal))
  where
    by : (b : Bool) → helps_of g s (if b then Match moment (length t.journal) else Tick moment) ≡ []
    by true = refl
    by false = refl

match_at : (g : Setting) (known : List Entry) (e : Entry) (moment : ℕ) → e ≡ matching (state_of g (helped g known e)) moment → e ≡ matching (state_of g known) moment
match_at g known e moment is =
    let none : helps_of g (state_of g known) e ≡ [] = ap (λ (x : Entry). helps_of g (state_of g known) x) is ∙ match_alone g (state_of g known) (state_of g (helped g known e)) moment in
    is ∙ ap (λ (l : List Entry). matching (state_of g l) moment) (ap (λ (l : List Entry). known ++ l) none ∙ append-nil known)

-- nor ahead of the one that drops all old changes
drop_alone : (g : Setting) (s t : State) (moment : ℕ) → helps_of g s (dropping_all t moment) ≡ []
drop_alone g s t moment = by (nat_lt t.horizon t.front)
  where
    by : (b : Bool) → helps_of g s (if b then Horizon moment t.front else Tick moment) ≡ []
    by true = refl
    by false = refl

drop_at : (g : Setting) (known : List Entry) (e : Entry) (moment : ℕ) → e ≡ dropping_all (state_of g (helped g known e)) moment → e ≡ dropping_all (state_of g known) moment
drop_at g known e moment is =
    let none : helps_of g (state_of g known) e ≡ [] = ap (λ (x : Entry). helps_of g (state_of g known) x) is ∙ drop_alone g (state_of g known) (state_of g (helped g known e)) moment in
    is ∙ ap (λ (l : List Entry). dropping_all (state_of g l) moment) (ap (λ (l : List Entry). known ++ l) none ∙ append-nil known)

-- an ask has one entry there
same_entry : (g : Setting) (known : List Entry) (asked : Result Ask Refused) (moment : ℕ) (e f : Entry) → IsEntryOf asked moment (state_of g (helped g known e)) e → IsEntryOf asked moment (state_of g (helped g known f)) f → IsFresh g known e → IsFresh g known f → MayFollow g (state_of g (helped g known e)) e → MayFollow g (state_of g (helped g known f)) f → e ≡ f
same_entry g known (Ok (asks.Write change condition)) moment e f p q fresh again may might = p ∙ sym q
same_entry g known (Ok (asks.Read key tags head)) moment e f p q fresh again may might =
    let first = read_at g known e moment key tags p.0 p.1 fresh may in
    let second = read_at g known f moment key tags q.0 q.1 again might in
    p.1 ∙ ap (λ (n : ℕ). Read moment key tags n) (first ∙ sym second) ∙ sym q.1
same_entry g known (Ok asks.MatchAll) moment e f p q fresh again may might = match_at g known e moment p ∙ sym (match_at g known f moment q)
same_entry g known (Ok asks.Horizon) moment e f p q fresh again may might = drop_at g known e moment p ∙ sym (drop_at g known f moment q)
same_entry g known (Ok (asks.Fetch head)) moment e f p q fresh again may might = p ∙ sym q
same_entry g known (Ok (asks.Purges from head)) moment e f p q fresh again may might = p ∙ sym q
same_entry g known (Ok (asks.Stats head)) moment e f p q fresh again may might = p ∙ sym q
same_entry g known (Err refused) moment e f p q fresh again may might = p ∙ sym q

-- a reply has one front
same_front : (replied : Replied) (m n : Matched) → IsFrontOf replied m → IsFrontOf replied n → m ≡ n
same_front (wrote written) m n p q = absurd p
same_front (read answer) m n p q = absurd p
same_front (matched match) m n p q = p ∙ sym q
same_front (fetched page) m n p q = absurd p
same_front (purged list) m n p q = absurd p
same_front (counted stats) m n p q = p ∙ sym q
same_front (dropped drop) m n p q = absurd p

-- and one horizon
same_horizon : (replied : Replied) (d e : Dropped) → IsWholeDropOf replied d → IsWholeDropOf replied e → d ≡ e
same_horizon (wrote written) d e p q = absurd p
same_horizon (read answer) d e p q = absurd p
same_horizon (matched match) d e p q = absurd p
same_horizon (fetched page) d e p q = absurd p
same_horizon (purged list) d e p q = absurd p
same_horizon (counted stats) d e p q = p ∙ sym q
same_horizon (dropped drop) d e p q = p ∙ sym q

-- an entry has one reply, but for how a list of purges is kept
same_told : (asked : Result Ask Refused) (replied : Replied) (told again : Told) (page other : List ℕ) → IsToldOf asked replied told page → IsToldOf asked replied again other → AreAlike told again page other
same_told (Ok (asks.Write change condition)) (wrote written) told again page other p q = alike told again (answers.Write written) page other p q refl
same_told (Ok (asks.Read key tags head)) (read answer) told again page other p q = alike told again (answers.Read answer) page other p q refl
same_told (Ok asks.MatchAll) replied told again page other p q = alike told again (answers.Match p.0) page other p.2 (q.2 ∙ ap answers.Match (same_front replied q.0 p.0 q.1 p.1)) refl
same_told (Ok asks.Horizon) replied told again page other p q = alike told again (answers.Dropped p.0) page other p.2 (q.2 ∙ ap answers.Dropped (same_horizon replied q.0 p.0 q.1 p.1)) refl
same_told (Ok (asks.Fetch head)) (fetched stored) told again page other p q = alike told again (answers.Page stored.moment) page other p.0 q.0 (p.1 ∙ sym q.1)
same_told (Ok (asks.Purges from head)) (purged list) told again page other p q = purges_alike told again page other p.0 q.0 p.2 q.2 (sym p.1 ∙ q.1)
same_told (Ok (asks.Stats head)) (counted stats) told again page other p q = alike told again (answers.Count stats) page other p q refl
same_told (Err refused) (counted stats) told again page other p q = alike told again (answers.Refusal refused stats.clock) page other p q refl
same_told _ _ told again page other p q = absurd p

-- the same entry, or none, and its reply
record IsOne (new other : List Entry) (mine again : List (ℕ × Entry)) (told once : Told) (page pages : List ℕ) : Type 0 where
  seen_is : new ≡ other
  mine_is : mine ≡ again
  told_alike : AreAlike told once page pages

-- Two calls at the same desk and the same moment, among no others' entries.
module _ (g : Setting) (unready : Bool) (old new other : List Entry) (mine mine_new again : List (ℕ × Entry)) (moment : ℕ) (early : Bool) (asked : Result Ask Refused) (told once : Told) (page pages : List ℕ) (alone : length new + length mine ≡ length old + length mine_new) (lone : length other + length mine ≡ length old + length again) where
  -- they served alike
  same_served : (s : Serves g old new mine mine_new moment asked told page) (t : Serves g old other mine again moment asked once pages) → IsOne new other mine_new again told once page pages
  same_served s t =
      let p = plain g old new mine mine_new moment asked told page s alone in
      let q = plain g old other mine again moment asked once pages t lone in
      let e : s.entry ≡ t.entry = same_entry g old asked moment s.entry t.entry p.is_of q.is_of s.fresh t.fresh p.may q.may in
      let replied : t.replied ≡ s.replied = q.told_is ∙ ap (λ (x : Entry). reply g (helped g old x) x) (sym e) ∙ sym p.told_is in
      record {
        seen_is = p.seen_is ∙ ap (λ (x : Entry). helped g old x ++ x ∷ []) e ∙ sym q.seen_is;
        mine_is = p.mine_is ∙ ap (λ (x : Entry). mine ++ enumerate_from (length old) (helps_of g (state_of g old) x ++ x ∷ [])) e ∙ sym q.mine_is;
        told_alike = same_told asked s.replied told once page pages s.told_is (subst (λ (r : Replied). IsToldOf asked r once pages) replied t.told_is);
      }

  -- they failed alike
  same_failed : Fails g old new mine mine_new told → Fails g old other mine again once → IsOne new other mine_new again told once page pages
  same_failed f h =
      let more = learns_more g old new mine mine_new f.learns in
      let less = learns_more g old other mine again h.learns in
      let here : new ≡ old = prefix_whole old new f.learns.grew (omega (arith, alone, more.seen_is, more.mine_is)) in
      let there : other ≡ old = prefix_whole old other h.learns.grew (omega (arith, lone, less.seen_is, less.mine_is)) in
      record {
        seen_is = here ∙ sym there;
        mine_is = f.learns.mine ∙ sym h.learns.mine;
        told_alike = alike told once answers.Memory page pages f.told_is h.told_is refl;
      }

  -- so they answered alike
  same_answer : (x : IsAnswer g unready old new mine mine_new moment early asked told page) (y : IsAnswer g unready old other mine again moment early asked once pages) → has_entry x ≡ has_entry y → IsOne new other mine_new again told once page pages
  same_answer (serves s) (serves t) same = same_served s t
  same_answer (serves s) (fails how h) same = absurd (cc)
  same_answer (fails why f) (serves t) same = absurd (cc)
  same_answer (fails why f) (fails how h) same = same_failed f h

-- two connection states with the same parts are equal
connection_state_is : (b c : ConnectionState) → b.seen ≡ c.seen → b.mine ≡ c.mine → b.moments ≡ c.moments → b.entered ≡ c.entered → b ≡ c
connection_state_is b c p q r s =
    let with_seen : List Entry → ConnectionState = λ l. record { seen = l; mine = b.mine; moments = b.moments; entered = b.entered } in
    let with_mine : List (ℕ × Entry) → ConnectionState = λ l. record { seen = c.seen; mine = l; moments = b.moments; entered = b.entered } in
    let with_moments : List ℕ → ConnectionState = λ l. record { seen = c.seen; mine = c.mine; moments = l; entered = b.entered } in
    let with_entered : List Bool → ConnectionState = λ l. record { seen = c.seen; mine = c.mine; moments = c.moments; entered = l } in
    ap with_seen p ∙ ap with_mine q ∙ ap with_moments r ∙ ap with_entered s

-- so are two exchanges
exchange_is : (x y : Exchange) → x.piece ≡ y.piece → x.item ≡ y.item → x.answer ≡ y.answer → x.stops ≡ y.stops → x ≡ y
exchange_is x y p q r s =
    let with_piece : List ℕ → Exchange = λ l. record { piece = l; item = x.item; answer = x.answer; stops = x.stops } in
    let with_item : Item → Exchange = λ i. record { piece = y.piece; item = i; answer = x.answer; stops = x.stops } in
    let with_answer : List ℕ → Exchange = λ l. record { piece = y.piece; item = y.item; answer = l; stops = x.stops } in
    let with_stops : Bool → Exchange = λ v. record { piece = y.piece; item = y.item; answer = y.answer; stops = v } in
    ap with_piece p ∙ ap with_item q ∙ ap with_answer r ∙ ap with_stops s

-- two replies at one moment, both with an entry or neither
record IsOneReply (b c : ConnectionState) (text more : List ℕ) : Type 0 where
  seen_is : b.seen ≡ c.seen
  mine_is : b.mine ≡ c.mine
  text_is : text ≡ more

-- where nothing is to be kept, what was told is shown
shown_told : (g : Setting) → g.keeps ≡ false → (told shown : Told) → IsShown g told shown → shown ≡ told
shown_told g none told shown (inl same) = same
shown_told g none told shown (inr lost) = let no : false ≡ true = sym none ∙ lost.0 in absurd (cc)

-- so what is shown is alike where what was told is
alike_shown : (g : Setting) → g.keeps ≡ false → (told shown again later : Told) (page pages : List ℕ) → IsShown g told shown → IsShown g again later → AreAlike told again page pages → AreAlike shown later page pages
alike_shown g none told shown again later page pages p q same =
    let one : shown ≡ told = shown_told g none told shown p in
    let other : later ≡ again = shown_told g none again later q in
    subst₂ (λ (x y : Told). AreAlike x y page pages) (sym one) (sym other) same

same_at : RepliesHaveOneText → (g : Setting) → g.keeps ≡ false → (unready : Bool) (a b c : ConnectionState) (item : Item) (close : Bool) (text more : List ℕ) (m n : ℕ) → m ≡ n → IsAlone a b → IsAlone a c → (x : RepliesAt g unready a.seen b.seen a.mine b.mine m item close text) (y : RepliesAt g unready a.seen c.seen a.mine c.mine n item close more) → has_entry x.shows.answer ≡ has_entry y.shows.answer → IsOneReply b c text more
same_at texts g none unready a b c item close text more m n e alone lone x y h =
    let P : ℕ → Type 0 = λ k. (z : RepliesAt g unready a.seen c.seen a.mine c.mine k item close more) → has_entry x.shows.answer ≡ has_entry z.shows.answer → IsOneReply b c text more in
    let here : P m = λ z same.
    let one = same_answer g unready a.seen b.seen c.seen a.mine b.mine c.mine m (is_known_early g.hosts item) (asked_by g.hosts item) x.shows.told z.shows.told x.page z.page alone lone x.shows.answer z.shows.answer same in
    record {
      seen_is = one.seen_is;
      mine_is = one.mine_is;
      text_is = same_text texts (shape_by g.origins item) x.shown z.shown x.page z.page close text more (alike_shown g none x.shows.told x.shown z.shows.told z.shown x.page z.page x.shows.shown_is z.shows.shown_is one.told_alike) x.text_is z.text_is;
    } in
    (subst P e here) y h

-- two replies from one connection state are equal
record IsOneStep (b c : ConnectionState) (text more : List ℕ) : Type 0 where
  connection_state : b ≡ c
  text_is : text ≡ more

same_replies : RepliesHaveOneText → (g : Setting) → g.keeps ≡ false → (unready : Bool) (a b c : ConnectionState) (item : Item) (close : Bool) (text more : List ℕ) (p : Replies g unready a item close text b) (q : Replies g unready a item close more c) → IsAlone a b → IsAlone a c → p.moment ≡ q.moment → has_entry p.at.shows.answer ≡ has_entry q.at.shows.answer → IsOneStep b c text more
same_replies texts g none unready a b c item close text more p q alone lone moments entries =
    let one = same_at texts g none unready a b c item close text more p.moment q.moment moments alone lone p.at q.at entries in
    record {
      connection_state = connection_state_is b c one.seen_is one.mine_is
          (p.moments_are ∙ ap (λ (m : ℕ). a.moments ++ m ∷ []) moments ∙ sym q.moments_are)
          (p.entered_are ∙ ap (λ (v : Bool). a.entered ++ v ∷ []) entries ∙ sym q.entered_are);
      text_is = one.text_is;
    }

-- what was added to moments and entries
record IsAppended (first last : ConnectionState) : Type 0 where
  moments : List ℕ
  moments_are : last.moments ≡ first.moments ++ moments
  entered : List Bool
  entered_are : last.entered ≡ first.entered ++ entered

appended : (g : Setting) (unready : Bool) (count : ℕ) (first last : ConnectionState) (xs : List Exchange) → Answered (Replies g unready) count first xs last → IsAppended first last
appended g unready count first last [] t = subst (λ (s : ConnectionState). IsAppended first s) t (record { moments = []; moments_are = sym (append-nil first.moments); entered = []; entered_are = sym (append-nil first.entered) })
appended g unready count first last (x ∷ xs) t =
    let r = t.1 in
    let rest = appended g unready (count + 1) t.0 last xs t.2 in
    record {
      moments = r.moment ∷ rest.moments;
      moments_are = rest.moments_are ∙ ap (λ (l : List ℕ). l ++ rest.moments) r.moments_are ∙ append_assoc first.moments (r.moment ∷ []) rest.moments;
      entered = has_entry r.at.shows.answer ∷ rest.entered;
      entered_are = rest.entered_are ∙ ap (λ (l : List Bool). l ++ rest.entered) r.entered_are ∙ append_assoc first.entered (has_entry r.at.shows.answer ∷ []) rest.entered;
    }

-- equal lists have the same element after the same prefix
same_next : {A : Type 0} (ahead : List A) (x y : A) (xs ys l k n m : List A) → l ≡ n ++ xs → n ≡ ahead ++ x ∷ [] → k ≡ m ++ ys → m ≡ ahead ++ y ∷ [] → l ≡ k → x ≡ y
same_next {A} ahead x y xs ys l k n m a b c d same =
    let first : l ≡ ahead ++ x ∷ xs = a ∙ ap (λ (z : List A). z ++ xs) b ∙ append_assoc ahead (x ∷ []) xs in
    let second : k ≡ ahead ++ y ∷ ys = c ∙ ap (λ (z : List A). z ++ ys) d ∙ append_assoc ahead (y ∷ []) ys in
    let rest : x ∷ xs ≡ y ∷ ys = append_cancel_left ahead (x ∷ xs) (y ∷ ys) (sym first ∙ same ∙ second) in
    cc

-- what two connections share
record IsSameConversation (last other : ConnectionState) (xs ys : List Exchange) : Type 0 where
  connection_state : last ≡ other
  exchanges : xs ≡ ys

one_by : RepliesHaveOneText → (g : Setting) → g.keeps ≡ false → (unready : Bool) (count : ℕ) (first last other : ConnectionState) (xs ys : List Exchange) → Answered (Replies g unready) count first xs last → Answered (Replies g unready) count first ys other → map (λ (x : Exchange). x.piece) xs ≡ map (λ (y : Exchange). y.piece) ys → map (λ (x : Exchange). x.item) xs ≡ map (λ (y : Exchange). y.item) ys → StopAlike xs ys → IsAlone first last → IsAlone first other → last.moments ≡ other.moments → last.entered ≡ other.entered → IsSameConversation last other xs ys
one_by texts g none unready count first last other [] [] t u ps is stop alone lone moments entered = record { connection_state = sym t ∙ u; exchanges = refl }
one_by texts g none unready count first last other [] (y ∷ ys) t u ps is stop alone lone moments entered = absurd (cc)
one_by texts g none unready count first last other (x ∷ xs) [] t u ps is stop alone lone moments entered = absurd (cc)
one_by texts g none unready count first last other (x ∷ xs) (y ∷ ys) t u ps is stop alone lone moments entered =
    let piece_is : x.piece ≡ y.piece = cc in
    let item_is : x.item ≡ y.item = cc in
    let stops_is : x.stops ≡ y.stops = cc in
    let pieces_are : map (λ (x : Exchange). x.piece) xs ≡ map (λ (y : Exchange). y.piece) ys = cc in
    let items_are : map (λ (x : Exchange). x.item) xs ≡ map (λ (y : Exchange). y.item) ys = cc in
    let stops_are : StopAlike xs ys = cc in
    let p = t.1 in
    let by_item : Replies g unready first x.item (is_last count (record { piece = []; item = x.item; answer = []; stops = y.stops })) y.answer u.0 = subst (λ (i : Item). Replies g unready first i (is_last count (record { piece = []; item = i; answer = []; stops = y.stops })) y.answer u.0) (sym item_is) u.1 in
    let q : Replies g unready first x.item (is_last count x) y.answer u.0 = subst (λ (v : Bool). Replies g unready first x.item (is_last count (record { piece = []; item = x.item; answer = []; stops = v })) y.answer u.0) (sym stops_is) by_item in
    let after_p = appended g unready (count + 1) t.0 last xs t.2 in
    let after_q = appended g unready (count + 1) u.0 other ys u.2 in
    let moment : p.moment ≡ q.moment = same_next first.moments p.moment q.moment after_p.moments after_q.moments last.moments other.moments t.0.moments u.0.moments after_p.moments_are p.moments_are after_q.moments_are q.moments_are moments in
    let entry : has_entry p.at.shows.answer ≡ has_entry q.at.shows.answer = same_next first.entered (has_entry p.at.shows.answer) (has_entry q.at.shows.answer) after_p.entered after_q.entered last.entered other.entered t.0.entered u.0.entered after_p.entered_are p.entered_are after_q.entered_are q.entered_are entered in
    let grows_p = replies_grow g unready first t.0 x.item (is_last count x) x.answer p in
    let grows_q = replies_grow g unready first u.0 x.item (is_last count x) y.answer q in
    let rest_p = answered_grow g unready (count + 1) t.0 last xs t.2 in
    let rest_q = answered_grow g unready (count + 1) u.0 other ys u.2 in
    let here = same_replies texts g none unready first t.0 u.0 x.item (is_last count x) x.answer y.answer p q (omega (arith, alone, grows_p.least, rest_p.least)) (omega (arith, lone, grows_q.least, rest_q.least)) moment entry in
    let behind_q : Answered (Replies g unready) (count + 1) t.0 ys other = subst (λ (s : ConnectionState). Answered (Replies g unready) (count + 1) s ys other) (sym here.connection_state) u.2 in
    let lone_behind : IsAlone u.0 other = omega (arith, lone, grows_q.least, rest_q.least) in
    let rest = one_by texts g none unready (count + 1) t.0 last other xs ys t.2 behind_q pieces_are items_are stops_are (omega (arith, alone, grows_p.least, rest_p.least)) (subst (λ (s : ConnectionState). IsAlone s other) (sym here.connection_state) lone_behind) moments entered in
    let exchange : x ≡ y = exchange_is x y piece_is item_is here.text_is stops_is in
    let exchanges : xs ≡ ys = rest.exchanges in
    record { connection_state = rest.connection_state; exchanges = cc }

-- there are as many moments as items
count_moments : (g : Setting) (unready : Bool) (count : ℕ) (first last : ConnectionState) (xs : List Exchange) → Answered (Replies g unready) count first xs last → length last.moments ≡ length first.moments + length xs
count_moments g unready count first last [] t = let same : length first.moments ≡ length last.moments = ap (λ (s : ConnectionState). length s.moments) t in omega (arith, same)
count_moments g unready count first last (x ∷ xs) t =
    let here : length t.0.moments ≡ length first.moments + 1 = ap (λ (l : List ℕ). length l) t.1.moments_are ∙ length-append first.moments (t.1.moment ∷ []) in
    omega (arith, here, count_moments g unready (count + 1) t.0 last xs t.2)

-- two connections over one history of their own
pub texts_are_determined : SameItems → RepliesHaveOneText → (g : Setting) (unready : Bool) (first last other : ConnectionState) (a b c d : Sides) (served again : Served) (p : Dialogue (Replies g unready) first last a b served) (q : Dialogue (Replies g unready) first other c d again) → g.keeps ≡ false → IsAlone first last → IsAlone first other → pieces p.passed.exchanges ++ p.passed.rest ≡ pieces q.passed.exchanges ++ q.passed.rest → last.moments ≡ other.moments → last.entered ≡ other.entered → StopAlike p.passed.exchanges q.passed.exchanges → (p.passed.exchanges ≡ q.passed.exchanges) × (last.seen ≡ other.seen) × (last.mine ≡ other.mine)
texts_are_determined items texts g unready first last other a b c d served again p q none alone lone bytes moments entered stop =
    let xs = p.passed.exchanges in
    let ys = q.passed.exchanges in
    let here = count_moments g unready 0 first last xs p.answered in
    let there = count_moments g unready 0 first other ys q.answered in
    let same : length last.moments ≡ length other.moments = ap (λ (l : List ℕ). length l) moments in
    let shared = items xs ys p.passed.rest q.passed.rest p.passed.progress.items q.passed.progress.items (omega (arith, here, there, same)) bytes in
    let one = one_by texts g none unready 0 first last other xs ys p.answered q.answered shared.0 shared.1 stop alone lone moments entered in
    (one.exchanges, ap (λ (s : ConnectionState). s.seen) one.connection_state, ap (λ (s : ConnectionState). s.mine) one.connection_state)

-- a desk all of whose history is its own is alone
pub owned_alone : (seen more : List Entry) (moments later : List ℕ) (entered again : List Bool) → IsAlone (record { seen = seen; mine = enumerate_from 0 seen; moments = moments; entered = entered }) (record { seen = more; mine = enumerate_from 0 more; moments = later; entered = again })
owned_alone seen more moments later entered again = omega (arith, length_numbered 0 seen, length_numbered 0 more)
