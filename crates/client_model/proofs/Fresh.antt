-- Why accepted replies are fresh.
use Rattle.std.proofs.Common.{◌≡◌, ◌≢◌, ℕ, ◌<◌, ◌≤◌, max, Bool, true, false, not, ◌&&◌, ◌||◌, List, [], ◌∷◌, ◌++◌, length, Contains, Option, Some, None, refl, sym, ap, ◌∙◌, subst, inl, inr, append_assoc, arith}
use Rattle.std.specs.Prelude.{nat_le, nat_lt, ◌↔◌, IsTrue}
use Rattle.std.specs.Bool.{Decides}
use Rattle.std.proofs.lemmas.Bool.{cases_Bool, cases_lt, both_ways, and_parts, or_cases, lt-leb, ltb-true, not-true}
use Rattle.std.proofs.lemmas.List.Elements.{All-contains, Contains-append_cases}
use Rattle.query_normal.specs.declared.key.KeyShape.{KeyShape}
use Rattle.query_normal.specs.Keys.{key_text}
use Rattle.query_normal.specs.Pages.{Page, page_holds}
use Rattle.flat_snapshot.specs.Sight.{sight_of}
use Rattle.client_core.specs.Choice.{is_accepted}
use Rattle.commit_book.specs.declared.change.Change.{Change}
use Rattle.hub_model.specs.declared.entry.Entry.{Entry}
use Rattle.hub_model.specs.declared.entry.Entry.TheVariants.{Fetch, Read}
use Rattle.hub_model.specs.Desk.{IsPrefix}
use Rattle.hub_model.specs.Direct.{clock_of, IsRead}
use Rattle.hub_model.specs.Journal.{Finding, result_at, same_finding}
use Rattle.hub_model.specs.Later.{IsLater}
use Rattle.hub_model.specs.Legal.{IsLegal}
use Rattle.hub_model.specs.Outdated.{IsOutdated}
use Rattle.hub_model.specs.Record.{IsRecorded, page_of}
use Rattle.hub_model.specs.Setting.{Setting}
use Rattle.hub_model.specs.State.{IssuedCopy, State, until_of}
use Rattle.hub_model.specs.Step.{state_of}
use Rattle.client_model.specs.declared.reply.Reply.{Reply}
use Rattle.client_model.specs.Issued.{IsIssuedIn, IsIssued, IsFetched}

-- what is asked of equality of results, and of results in longer journals
abbrev pub Tests : Type 0
Tests = (a b : Finding) → Decides (same_finding a b) (a ≡ b)

abbrev pub OfPrefixes : Type 0
OfPrefixes = (key : KeyShape) (journal more : List Change) (n : ℕ) → n ≤ length journal → result_at key (journal ++ more) n ≡ result_at key journal n

-- a state and a later one, and what the page of the first says of a key
module _ (s t : State) (key : KeyShape) (held : Bool) (later : IsLater s t) (within : s.front ≤ length s.journal)
    (passed : (r : IssuedCopy) → Contains s.copies r → r.clock ≤ s.clock) (holds : IsRecorded s key → held ≡ true)
    (tests : Tests) (of_prefix : OfPrefixes) where
  -- up to the front both journals find the same
  found_then : (n : ℕ) → n ≤ s.front → result_at key t.journal n ≡ result_at key s.journal n
  found_then n low = ap (λ (j : List Change). result_at key j n) later.journal ∙ of_prefix key s.journal later.commits n (omega (arith, low, within))

  -- a copy of a commit below the front was issued before the page
  had : (r : IssuedCopy) → r.at < s.front → Contains t.copies r → Contains s.copies r
  had r low among = elim (Contains-append_cases s.copies later.issued r (subst (λ (l : List IssuedCopy). Contains l r) later.copies among)) [
    | inl before ↦ before
    | inr after ↦ absurd (let h = All-contains (λ (q : IssuedCopy). s.front ≤ q.at) later.issued r later.fresh after in omega (arith, h, low))
  ]

  -- where it was unexpired, and the page has a clear bit, it was not outdated
  unchanged : (r : IssuedCopy) → r.key ≡ key → r.at < s.front → Contains s.copies r → s.clock < until_of r → held ≡ false → result_at key s.journal s.front ≡ result_at key s.journal r.at
  unchanged r of_key low among unexpired clear = elim (cases_Bool (same_finding (result_at key s.journal s.front) (result_at key s.journal r.at))) [
    | inl same ↦ (tests (result_at key s.journal s.front) (result_at key s.journal r.at)).0 same
    | inr other ↦ (
        let early = passed r among in
        let outdated : IsOutdated key r.at s.journal s.front = (s.front, low, omega arith, λ e. both_ways _ other ((tests (result_at key s.journal s.front) (result_at key s.journal r.at)).1 e)) in
        let recorded : IsRecorded s key = record { copy = r; among = among; key_is = of_key; issued = omega (arith, early, unexpired); unexpired = unexpired; outdated = outdated } in
        absurd (both_ways held clear (holds recorded)))
  ]

  -- the same of any commit and until that the copy has
  fresh_below : (r : IssuedCopy) (commit until : ℕ) → r.key ≡ key → r.at ≡ commit → until_of r ≡ until → Contains t.copies r → commit < s.front → s.clock < until → held ≡ false
      → result_at key t.journal commit ≡ result_at key t.journal s.front
  fresh_below r commit until of_key at_is until_is among below unexpired clear =
      let low : r.at < s.front = omega (arith, at_is, below) in
      let same = unchanged r of_key low (had r low among) (omega (arith, until_is, unexpired)) clear in
      found_then commit (omega (arith, below)) ∙ ap (λ (n : ℕ). result_at key s.journal n) (sym at_is) ∙ sym same ∙ sym (found_then s.front (omega arith))

  fresh : (reply : Reply) → IsIssuedIn t key reply → ((nat_le s.front reply.commit || (nat_lt s.clock reply.until && not held)) ≡ true)
      → result_at key t.journal reply.commit ≡ result_at key t.journal (max reply.commit s.front)
  fresh reply issued vouched = elim (cases_lt reply.commit s.front) [
    | inr above ↦ (let e : reply.commit ≡ max reply.commit s.front = omega (arith, above) in ap (result_at key t.journal) e)
    | inl below ↦ (
        let e : s.front ≡ max reply.commit s.front = omega (arith, below) in
        elim (or_cases (nat_le s.front reply.commit) (nat_lt s.clock reply.until && not held) vouched) [
          | inl above ↦ absurd (both_ways (nat_le s.front reply.commit) (lt-leb s.front reply.commit below) above)
          | inr both ↦ (
              let parts = and_parts (nat_lt s.clock reply.until) (not held) both in
              fresh_below issued.copy reply.commit reply.until issued.key_is issued.at_is issued.until_is issued.among below
              (ltb-true s.clock reply.until parts.0) (not-true held parts.1) ∙ ap (result_at key t.journal) e)
        ])
  ]

-- what is asked of legal histories
abbrev pub Beginnings : Type 0
Beginnings = (g : Setting) (history longer : List Entry) → IsPrefix history longer → IsLegal g longer → IsLegal g history

abbrev pub Clocks : Type 0
Clocks = (g : Setting) (history : List Entry) → (state_of g history).clock ≡ clock_of history

abbrev pub Copies : Type 0
Copies = (g : Setting) (history : List Entry) (key : KeyShape) (at clock ttl : ℕ) (absent : Bool) → IsRead g history key at clock ttl absent ↔ Contains (state_of g history).copies (record { key = key; at = at; clock = clock; ttl = ttl; absent = absent })

abbrev pub Laters : Type 0
Laters = (g : Setting) (history longer : List Entry) → IsPrefix history longer → IsLegal g longer → IsLater (state_of g history) (state_of g longer)

-- the clock of a copy is at most that of the state
early : Clocks → Copies → Laters → (g : Setting) (history : List Entry) → IsLegal g history → (r : IssuedCopy) → Contains (state_of g history).copies r → r.clock ≤ (state_of g history).clock
early clocks copies laters g history legal r among =
    let read = (copies g history r.key r.at r.clock r.ttl r.absent).1 among in
    let first = read.before ++ Read read.moment r.key read.tags r.at ∷ [] in
    let begins : IsPrefix first history = (read.rest, append_assoc read.before (Read read.moment r.key read.tags r.at ∷ []) read.rest ∙ sym read.split) in
    let later = (laters g first history begins legal).clock in
    let is = clocks g first in
    omega (arith, later, is, read.clock_is)

-- the law, of a page that is that of a state
module _ (beginnings : Beginnings) (clocks : Clocks) (copies : Copies) (laters : Laters) (tests : Tests) (of_prefix : OfPrefixes)
    (within : (g : Setting) (history : List Entry) → IsLegal g history → (state_of g history).front ≤ length (state_of g history).journal)
    (holds : (g : Setting) (s : State) (key : KeyShape) → IsRecorded s key → IsTrue (page_holds (page_of g s) key)) where
  by_state : (g : Setting) (history first : List Entry) (key : KeyShape) (reply : Reply) → IsLegal g history → IsPrefix first history → IsIssued g history key reply
      → IsTrue (is_accepted (Some (sight_of (page_of g (state_of g first)) (key_text key))) reply.commit reply.until 0)
      → result_at key (state_of g history).journal reply.commit ≡ result_at key (state_of g history).journal (max reply.commit (state_of g first).front)
  by_state g history first key reply legal begins issued accepted =
      let legal_then = beginnings g first history begins legal in
      fresh (state_of g first) (state_of g history) key (page_holds (page_of g (state_of g first)) key) (laters g first history begins legal)
      (within g first legal_then) (early clocks copies laters g first legal_then) (holds g (state_of g first) key) tests of_prefix reply issued
      ((and_parts _ _ accepted).0)

  pub law : (g : Setting) (history : List Entry) (page : Page) (key : KeyShape) (reply : Reply) → IsLegal g history → IsFetched g history page → IsIssued g history key reply
      → IsTrue (is_accepted (Some (sight_of page (key_text key))) reply.commit reply.until 0)
      → result_at key (state_of g history).journal reply.commit ≡ result_at key (state_of g history).journal (max reply.commit page.front)
  law g history page key reply legal fetched issued =
      subst (λ (p : Page). IsTrue (is_accepted (Some (sight_of p (key_text key))) reply.commit reply.until 0)
      → result_at key (state_of g history).journal reply.commit ≡ result_at key (state_of g history).journal (max reply.commit p.front))
      (sym fetched.is) (by_state g history (fetched.before ++ Fetch fetched.moment ∷ []) key reply legal fetched.begins issued)
