-- Why the replies of one store are right and fresh in another.
use Rattle.std.proofs.Common.{◌≡◌, ℕ, ◌^◌, ◌<◌, ◌≤◌, max, Bool, true, false, not, if◌then◌else◌, ◌&&◌, ◌||◌, List, [], ◌∷◌, ◌++◌, length, get_or, replicate, All, Contains, Some, refl, sym, ap, ◌∙◌, subst, inl, inr, append_assoc, arith, length-append}
use Rattle.std.specs.Prelude.{nat_le, nat_lt, ◌↔◌, IsTrue}
use Rattle.std.specs.List.{list_all}
use Rattle.std.proofs.lemmas.Bool.{both_ways, and_parts, or_cases, leb-true}
use Rattle.std.proofs.lemmas.List.{get_or-replicate}
use Rattle.std.proofs.lemmas.List.Elements.{All-contains, All-head, All-tail}
use Rattle.q_base.proofs.PositionLemmas.{all_within}
use Rattle.q_base.specs.Positions.{positions_of}
use Rattle.query_normal.specs.declared.key.KeyShape.{KeyShape}
use Rattle.query_normal.specs.Keys.{key_text}
use Rattle.query_normal.specs.Pages.{Page}
use Rattle.flat_snapshot.specs.Sight.{sight_of}
use Rattle.client_core.specs.Choice.{is_accepted}
use Rattle.client_model.specs.declared.reply.Reply.{Reply}
use Rattle.client_model.specs.Issued.{Has, IsIssued, IsFetched}
use Rattle.commit_book.specs.declared.change.Change.{Change}
use Rattle.hub_core.specs.PageRoom.{all_set}
use Rattle.hub_model.specs.declared.entry.Entry.{Entry}
use Rattle.hub_model.specs.declared.entry.Entry.TheVariants.{Fetch, Read}
use Rattle.hub_model.specs.Desk.{IsPrefix}
use Rattle.hub_model.specs.Direct.{IsRead}
use Rattle.hub_model.specs.Journal.{Finding, result_at}
use Rattle.hub_model.specs.Later.{IsLater}
use Rattle.hub_model.specs.Legal.{IsLegal, MayFollow}
use Rattle.hub_model.specs.Record.{page_of}
use Rattle.hub_model.specs.Setting.{Setting}
use Rattle.hub_model.specs.State.{IssuedCopy, State, until_of}
use Rattle.hub_model.specs.Step.{state_of}
use Rattle.hub_model.proofs.Bits.{length-page_bits}
use Rattle.durable_book.specs.Across.{Follows}
use Rattle.durable_book.specs.Moments.{guarded}

-- what is asked of legal histories
abbrev pub Laters : Type 0
Laters = (g : Setting) (history longer : List Entry) → IsPrefix history longer → IsLegal g longer → IsLater (state_of g history) (state_of g longer)

abbrev pub Beginnings : Type 0
Beginnings = (g : Setting) (history longer : List Entry) → IsPrefix history longer → IsLegal g longer → IsLegal g history

abbrev pub Further : Type 0
Further = (g : Setting) (history : List Entry) (e : Entry) → IsLegal g (history ++ e ∷ []) ↔ (IsLegal g history × MayFollow g (state_of g history) e)

abbrev pub Copies : Type 0
Copies = (g : Setting) (history : List Entry) (key : KeyShape) (at clock ttl : ℕ) (absent : Bool) → IsRead g history key at clock ttl absent ↔ Contains (state_of g history).copies (record { key = key; at = at; clock = clock; ttl = ttl; absent = absent })

abbrev pub OfPrefixes : Type 0
OfPrefixes = (key : KeyShape) (journal more : List Change) (n : ℕ) → n ≤ length journal → result_at key (journal ++ more) n ≡ result_at key journal n

abbrev pub Within : Type 0
Within = (g : Setting) (history : List Entry) → IsLegal g history → (state_of g history).front ≤ length (state_of g history).journal

-- a longer journal is no shorter
longer_by : (journal more whole : List Change) → whole ≡ journal ++ more → length journal ≤ length whole
longer_by journal more whole e = (let size : length whole ≡ length (journal ++ more) = ap (λ (xs : List Change). length xs) e in omega (arith, size, length-append journal more))

-- the commit of a copy is one that there is
copy_within : Beginnings → Further → Copies → Laters → (g : Setting) (history : List Entry) → IsLegal g history → (r : IssuedCopy) → Contains (state_of g history).copies r → r.at ≤ length (state_of g history).journal
copy_within beginnings further copies laters g history legal r among =
    let read = (copies g history r.key r.at r.clock r.ttl r.absent).1 among in
    let e : Entry = Read read.moment r.key read.tags r.at in
    let first = read.before ++ e ∷ [] in
    let begins : IsPrefix first history = (read.rest, append_assoc read.before (e ∷ []) read.rest ∙ sym read.split) in
    let steps = (further g read.before e).0 (beginnings g first history begins legal) in
    let sooner : IsPrefix read.before history = (e ∷ read.rest, sym read.split) in
    let later = laters g read.before history sooner legal in
    let size = longer_by (state_of g read.before).journal later.commits (state_of g history).journal later.journal in
    omega (arith, size, steps.1.0.1)

-- the journal of the later store goes on from that of the earlier one
goes_on : Laters → (g later_g : Setting) (history later : List Entry) (guard : ℕ) → IsLegal later_g later → Follows g later_g history later guard →
    (more : List Change) × ((state_of later_g later).journal ≡ (state_of g history).journal ++ more)
goes_on laters g later_g history later guard legal follows =
    let opened = laters later_g follows.opening later follows.begins legal in (
      follows.journal.0 ++ opened.commits,
      opened.journal
          ∙ ap (λ (xs : List Change). xs ++ opened.commits) (sym follows.journal.1)
          ∙ append_assoc (state_of g history).journal follows.journal.0 opened.commits,
    )

-- what was issued is the result in the later journal
pub right_across : Beginnings → Further → Copies → Laters → OfPrefixes → (g later_g : Setting) (history later : List Entry) (guard : ℕ) (key : KeyShape) (reply : Reply) →
    IsLegal g history → IsLegal later_g later → Follows g later_g history later guard → IsIssued g history key reply → Has (result_at key (state_of later_g later).journal reply.commit) reply
right_across beginnings further copies laters of_prefix g later_g history later guard key reply legal later_legal follows issued =
    let on = goes_on laters g later_g history later guard later_legal follows in
    let low = copy_within beginnings further copies laters g history legal issued.copy issued.among in
    let same : result_at key (state_of later_g later).journal reply.commit ≡ result_at key (state_of g history).journal reply.commit =
    ap (λ (xs : List Change). result_at key xs reply.commit) on.1 ∙ of_prefix key (state_of g history).journal on.0 reply.commit (omega (arith, low, issued.at_is)) in
    subst (λ (found : Finding). Has found reply) (sym same) issued.has

-- a commit at the front or above it is fresh
at_front : (key : KeyShape) (journal : List Change) (commit front : ℕ) → front ≤ commit → result_at key journal commit ≡ result_at key journal (max commit front)
at_front key journal commit front above = (let e : commit ≡ max commit front = omega (arith, above) in ap (result_at key journal) e)

-- a reply of the later store is of no commit below any front of the earlier one
pub later_fresh : Beginnings → Laters → Within → (g later_g : Setting) (history later : List Entry) (guard : ℕ) (page : Page) (key : KeyShape) (reply : Reply) →
    IsLegal g history → IsLegal later_g later → Follows g later_g history later guard → IsFetched g history page → IsIssued later_g later key reply
    → result_at key (state_of later_g later).journal reply.commit ≡ result_at key (state_of later_g later).journal (max reply.commit page.front)
later_fresh beginnings laters within g later_g history later guard page key reply legal later_legal follows fetched issued =
    let first = fetched.before ++ Fetch fetched.moment ∷ [] in
    let covered = within g first (beginnings g first history fetched.begins legal) in
    let grown = laters g first history fetched.begins legal in
    let front : page.front ≡ (state_of g first).front = ap (λ (p : Page). p.front) fetched.is in
    let size = longer_by (state_of g first).journal grown.commits (state_of g history).journal grown.journal in
    let opened = laters later_g follows.opening later follows.begins later_legal in
    let whole = longer_by (state_of g history).journal follows.journal.0 (state_of later_g follows.opening).journal (sym follows.journal.1) in
    let copies : (state_of later_g later).copies ≡ opened.issued = opened.copies ∙ ap (λ (rs : List IssuedCopy). rs ++ opened.issued) follows.unread in
    let among : Contains opened.issued issued.copy = subst (λ (rs : List IssuedCopy). Contains rs issued.copy) copies issued.among in
    let above = All-contains (λ (r : IssuedCopy). (state_of later_g follows.opening).front ≤ r.at) opened.issued issued.copy opened.fresh among in
    at_front key (state_of later_g later).journal reply.commit page.front (omega (arith, covered, front, size, whole, above, follows.matched, issued.at_is))

-- all of some bits are set where every bit is
all_are_set : (n : ℕ) (ps : List ℕ) → All (λ p. p < n) ps → list_all (λ p. get_or (replicate n true) p false) ps ≡ true
all_are_set n [] small = refl
all_are_set n (p ∷ ps) small =
    let here : ◌≡◌ {A = Bool} (get_or (replicate n true) p false) true = get_or-replicate n p true false (All-head (λ q. q < n) p ps small) in
    ap (λ (b : Bool). b && list_all (λ q. get_or (replicate n true) q false) ps) here ∙ all_are_set n ps (All-tail (λ q. q < n) p ps small)

-- the page of a state with every bit set holds any text
full_holds : (g : Setting) (s : State) (text : List ℕ) → (sight_of (all_set (page_of g s)) text).is_held ≡ true
unfolding positions_of
full_holds g s text =
    let size : length (page_of g s).bits ≡ 2 ^ g.log2_bits = length-page_bits g s in
    all_are_set (length (page_of g s).bits) (positions_of text g.log2_bits g.hashes)
    (subst (λ (n : ℕ). All (λ p. p < n) (positions_of text g.log2_bits g.hashes)) (sym size) (all_within g.log2_bits _ _ _))

-- what is accepted by a page that says nothing for it is of a commit from the front on
from_front : (front commit until moment : ℕ) (held : Bool) → ((nat_le front commit || (nat_lt moment until && not held)) ≡ true) → ((nat_lt moment until && not held) ≡ false) → front ≤ commit
from_front front commit until moment held accepted silent = elim (or_cases (nat_le front commit) (nat_lt moment until && not held) accepted) [
  | inl above ↦ leb-true front commit above
  | inr vouched ↦ absurd (both_ways (nat_lt moment until && not held) silent vouched)
]

-- a page of the later store says nothing for a reply of the earlier one
module _ (g : Setting) (s : State) (guard : ℕ) (key : KeyShape) (commit until : ℕ) (expired : until ≤ guard) where
  by_guard : (b : Bool) → nat_lt s.clock guard ≡ b → IsTrue (is_accepted (Some (sight_of (if b then all_set (page_of g s) else page_of g s) (key_text key))) commit until 0) → s.front ≤ commit
  by_guard true below accepted =
      from_front s.front commit until s.clock (sight_of (all_set (page_of g s)) (key_text key)).is_held ((and_parts _ _ accepted).0)
      (ap (λ (b : Bool). nat_lt s.clock until && not b) (full_holds g s (key_text key)) ∙ and_none (nat_lt s.clock until))
    where
      and_none : (b : Bool) → (b && false) ≡ false
      and_none true = refl
      and_none false = refl
  by_guard false above accepted =
      let late : nat_lt s.clock until ≡ false = no_less s.clock until (omega (arith, expired, at_least s.clock guard above)) in
      from_front s.front commit until s.clock (sight_of (page_of g s) (key_text key)).is_held ((and_parts _ _ accepted).0)
      (ap (λ (b : Bool). b && not (sight_of (page_of g s) (key_text key)).is_held) late)
    where
      at_least : (m n : ℕ) → nat_lt m n ≡ false → n ≤ m
      at_least m n h = grind (arith, h)

      no_less : (m n : ℕ) → n ≤ m → nat_lt m n ≡ false
      no_less m n h = grind (arith, h)

  guarded_front : IsTrue (is_accepted (Some (sight_of (guarded guard (page_of g s)) (key_text key))) commit until 0) → s.front ≤ commit
  guarded_front = by_guard (nat_lt s.clock guard) refl

-- a reply of the earlier store that is accepted by a page of the later one is fresh
pub earlier_fresh : (g later_g : Setting) (history later : List Entry) (guard : ℕ) (page : Page) (key : KeyShape) (reply : Reply) →
    Follows g later_g history later guard → IsFetched later_g later page → IsIssued g history key reply
    → IsTrue (is_accepted (Some (sight_of (guarded guard page) (key_text key))) reply.commit reply.until 0)
    → result_at key (state_of later_g later).journal reply.commit ≡ result_at key (state_of later_g later).journal (max reply.commit page.front)
earlier_fresh g later_g history later guard page key reply follows fetched issued accepted =
    let s = state_of later_g (fetched.before ++ Fetch fetched.moment ∷ []) in
    let over = All-contains (λ (r : IssuedCopy). until_of r ≤ guard) (state_of g history).copies issued.copy follows.expired issued.among in
    let expired : reply.until ≤ guard = omega (arith, over, issued.until_is) in
    let front : page.front ≡ s.front = ap (λ (p : Page). p.front) fetched.is in
    let above = guarded_front later_g s guard key reply.commit reply.until expired (subst (λ (p : Page). IsTrue (is_accepted (Some (sight_of (guarded guard p) (key_text key))) reply.commit reply.until 0)) fetched.is accepted) in
    at_front key (state_of later_g later).journal reply.commit page.front (omega (arith, above, front))
