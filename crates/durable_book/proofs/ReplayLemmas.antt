-- The history with which an opened store begins.
use Rattle.std.proofs.Common.{◌≡◌, ℕ, ◌+◌, ◌<◌, ◌≤◌, min, Bool, true, false, List, [], ◌∷◌, ◌++◌, length, nat_le, nat_lt, if◌then◌else◌, refl, sym, ap, ◌∙◌, subst, append_assoc, append-nil, arith}
use Rattle.std.specs.Prelude.{◌↔◌}
use Rattle.std.proofs.lemmas.List.Sums.{fold-append}
use Rattle.commit_book.specs.declared.change.Change.{Change}
use Rattle.commit_book.specs.Journal.{kept_with}
use Rattle.hub_model.specs.declared.entry.Condition.TheVariants.{Always}
use Rattle.hub_model.specs.declared.entry.Entry.{Entry}
use Rattle.hub_model.specs.declared.entry.Entry.TheVariants.{Match, Tick}
use Rattle.hub_model.specs.Helps.{helps_of}
use Rattle.hub_model.specs.Legal.{Admits, IsLegal, IsLegalFrom}
use Rattle.hub_model.specs.Setting.{Setting}
use Rattle.hub_model.specs.State.{State, start}
use Rattle.hub_model.specs.Step.{after, after_all, is_accepted, state_of}
use Rattle.q_base.specs.Moment.{greatest_moment}
use Rattle.record_log.specs.declared.log_record.LogRecord.{LogRecord}
use Rattle.record_log.specs.declared.log_record.LogRecord.TheVariants.{Commit, Moment}
use Rattle.durable_book.specs.Journals.{journal_of, costs_of}
use Rattle.durable_book.specs.Replay.{write_at, entries_of, replayed, all_replayed, replay_of, end_of, opening_of, opened_state}
use Rattle.durable_book.proofs.JournalLemmas.{costs-append, kept-whole}
use Rattle.durable_book.proofs.StateLemmas.{Adds, adds-accepted, adds-refused}

-- the entries of records come to what the records come to
replay-state : (g : Setting) (s : State) (records : List LogRecord) → after_all g s (replay_of g s records) ≡ all_replayed g s records
replay-state g s [] = refl
replay-state g s (r ∷ records) =
    fold-append (after g) s (entries_of g s r) (replay_of g (replayed g s r) records) ∙ replay-state g (replayed g s r) records

-- what holds of histories, as the model's laws say
abbrev pub Empty : Type 0
Empty = (g : Setting) → state_of g [] ≡ start

abbrev pub EmptyLegal : Type 0
EmptyLegal = (g : Setting) → IsLegal g []

abbrev pub Whole : Type 0
Whole = (g : Setting) (history : List Entry) → state_of g history ≡ after_all g start history

abbrev pub MoreStates : Type 0
MoreStates = (g : Setting) (history more : List Entry) → state_of g (history ++ more) ≡ after_all g (state_of g history) more

abbrev pub MoreLegal : Type 0
MoreLegal = (g : Setting) (history more : List Entry) → IsLegal g (history ++ more) ↔ (IsLegal g history × IsLegalFrom g (state_of g history) more)

abbrev pub Helped : Type 0
Helped = (g : Setting) (history : List Entry) (e : Entry) → IsLegal g history → Admits (state_of g history) e → IsLegalFrom g (state_of g history) (helps_of g (state_of g history) e ++ e ∷ [])

abbrev pub Within : Type 0
Within = (g : Setting) (history : List Entry) → IsLegal g history → (state_of g history).front ≤ length (state_of g history).journal

-- the state of the history of an opening
pub opening-state : Whole → (g : Setting) (records : List LogRecord) (moment : ℕ) → state_of g (opening_of g records moment) ≡ opened_state g records moment
opening-state whole g records moment =
    whole g (opening_of g records moment)
    ∙ fold-append (after g) start (replay_of g start records) (end_of (all_replayed g start records) moment)
    ∙ ap (λ (s : State). after_all g s (end_of (all_replayed g start records) moment)) (replay-state g start records)

-- the end of an opening matches all commits
end-matches : (g : Setting) (s : State) (moment : ℕ) → s.front ≤ length s.journal → (after_all g s (end_of s moment)).front ≡ length (after_all g s (end_of s moment)).journal
end-matches g s moment covered = by (nat_lt s.front (length s.journal)) refl
  where
    equal : (m n : ℕ) → m ≤ n → nat_lt m n ≡ false → m ≡ n
    equal m n low h = grind (arith, low, h)

    by : (b : Bool) → nat_lt s.front (length s.journal) ≡ b → (after_all g s ((if b then Match moment (length s.journal) ∷ [] else []) ++ Tick moment ∷ [])).front ≡ length (after_all g s ((if b then Match moment (length s.journal) ∷ [] else []) ++ Tick moment ∷ [])).journal
    by true behind = refl
    by false level = equal s.front (length s.journal) covered level

module _ (empty : Empty) (empty_legal : EmptyLegal) (whole : Whole) (more_states : MoreStates) (more_legal : MoreLegal) (helped : Helped) (g : Setting) where
  -- a legal history goes on by a record
  legal-record : (history : List Entry) (r : LogRecord) → IsLegal g history → IsLegal g (history ++ entries_of g (state_of g history) r)
  legal-record history (Commit clock change) legal =
      (more_legal g history (entries_of g (state_of g history) (Commit clock change))).1 (legal, helped g history (write_at clock change) legal tt)
  legal-record history (Moment clock) legal = subst (IsLegal g) (sym (append-nil history)) legal

  -- and by records
  legal-records : (history : List Entry) (records : List LogRecord) → IsLegal g history → IsLegal g (history ++ replay_of g (state_of g history) records)
  legal-records history [] legal = subst (IsLegal g) (sym (append-nil history)) legal
  legal-records history (r ∷ records) legal =
      let es = entries_of g (state_of g history) r in
      let on = legal-records (history ++ es) records (legal-record history r legal) in
      let same : replay_of g (state_of g (history ++ es)) records ≡ replay_of g (replayed g (state_of g history) r) records = ap (λ (s : State). replay_of g s records) (more_states g history es) in
      subst (IsLegal g) (ap (λ (rest : List Entry). (history ++ es) ++ rest) same ∙ append_assoc history es (replay_of g (replayed g (state_of g history) r) records)) on

  legal-replay : (records : List LogRecord) → IsLegal g (replay_of g start records)
  legal-replay records = subst (λ (s : State). IsLegal g (replay_of g s records)) (empty g) (legal-records [] records (empty_legal g))

  state-replay : (records : List LogRecord) → state_of g (replay_of g start records) ≡ all_replayed g start records
  state-replay records = whole g (replay_of g start records) ∙ replay-state g start records

  -- and by the end of an opening
  legal-tick : (history : List Entry) (moment : ℕ) → IsLegal g history → IsLegal g (history ++ Tick moment ∷ [])
  legal-tick history moment legal = (more_legal g history (Tick moment ∷ [])).1 (legal, helped g history (Tick moment) legal tt)

  legal-end : (history : List Entry) (moment : ℕ) (b : Bool) → IsLegal g history → nat_lt (state_of g history).front (length (state_of g history).journal) ≡ b →
      IsLegal g (history ++ ((if b then Match moment (length (state_of g history).journal) ∷ [] else []) ++ Tick moment ∷ []))
  legal-end history moment true legal behind =
      let s = state_of g history in
      let low : s.front < length s.journal = below s.front (length s.journal) behind in
      let e : Entry = Match moment (length s.journal) in
      let matched = (more_legal g history (e ∷ [])).1 (legal, helped g history e legal (low, omega arith)) in
      subst (IsLegal g) (append_assoc history (e ∷ []) (Tick moment ∷ [])) (legal-tick (history ++ e ∷ []) moment matched)
    where
      below : (m n : ℕ) → nat_lt m n ≡ true → m < n
      below m n h = grind (arith, h)
  legal-end history moment false legal behind = legal-tick history moment legal

  pub opening-legal : (records : List LogRecord) (moment : ℕ) → IsLegal g (opening_of g records moment)
  opening-legal records moment =
      let history = replay_of g start records in
      let s = state_of g history in
      subst (λ (t : State). IsLegal g (history ++ end_of t moment)) (state-replay records)
      (legal-end history moment (nat_lt s.front (length s.journal)) (legal-replay records) refl)

  -- all commits are matched behind it
  pub opening-matched : Within → (records : List LogRecord) (moment : ℕ) → (opened_state g records moment).front ≡ length (opened_state g records moment).journal
  opening-matched within records moment =
      end-matches g (all_replayed g start records) moment
      (subst (λ (t : State). t.front ≤ length t.journal) (state-replay records) (within g (replay_of g start records) (legal-replay records)))

-- ---- what an opening leaves

-- the end of an opening changes neither the journal nor the copies
end-leaves : (g : Setting) (s : State) (moment : ℕ) → Adds s (after_all g s (end_of s moment)) []
end-leaves g s moment = by (nat_lt s.front (length s.journal))
  where
    by : (b : Bool) → Adds s (after_all g s ((if b then Match moment (length s.journal) ∷ [] else []) ++ Tick moment ∷ [])) []
    by true = record { journal = sym (append-nil s.journal); copies = refl; horizon = refl }
    by false = record { journal = sym (append-nil s.journal); copies = refl; horizon = refl }

-- neither do records, but for the changes of their commits
record-leaves : (g : Setting) (s : State) (r : LogRecord) → ((replayed g s r).copies ≡ s.copies) × ((replayed g s r).horizon ≡ s.horizon)
record-leaves g s (Moment clock) = (refl, refl)
record-leaves g s (Commit clock change) = by (is_accepted g s change Always) refl
  where
    by : (b : Bool) → is_accepted g s change Always ≡ b → ((replayed g s (Commit clock change)).copies ≡ s.copies) × ((replayed g s (Commit clock change)).horizon ≡ s.horizon)
    by true accepted = let left = adds-accepted g s (min clock greatest_moment) change Always accepted in (left.copies, left.horizon)
    by false refused = let left = adds-refused g s (min clock greatest_moment) change Always refused in (left.copies, left.horizon)

records-leave : (g : Setting) (s : State) (records : List LogRecord) → ((all_replayed g s records).copies ≡ s.copies) × ((all_replayed g s records).horizon ≡ s.horizon)
records-leave g s [] = (refl, refl)
records-leave g s (r ∷ records) =
    let first = record-leaves g s r in
    let rest = records-leave g (replayed g s r) records in
    (rest.0 ∙ first.0, rest.1 ∙ first.1)

pub opening-unread : (g : Setting) (records : List LogRecord) (moment : ℕ) → (opened_state g records moment).copies ≡ []
opening-unread g records moment = (end-leaves g (all_replayed g start records) moment).copies ∙ (records-leave g start records).0

pub opening-whole : (g : Setting) (records : List LogRecord) (moment : ℕ) → (opened_state g records moment).horizon ≡ 0
opening-whole g records moment = (end-leaves g (all_replayed g start records) moment).horizon ∙ (records-leave g start records).1

-- a commit within the capacity is accepted where nothing was dropped
takes : (g : Setting) (s : State) (change : Change) → s.horizon ≡ 0 → costs_of (s.journal ++ change ∷ []) ≤ g.capacity → is_accepted g s change Always ≡ true
takes g s change none fits =
    let sum = kept-whole s.journal change s.horizon none in
    enough (kept_with s.journal s.horizon change) g.capacity (omega (arith, sum, fits))
  where
    enough : (m n : ℕ) → m ≤ n → nat_le m n ≡ true
    enough m n h = grind (arith, h)

-- the journal of records within the capacity
records-journal : (g : Setting) (s : State) (records : List LogRecord) → s.horizon ≡ 0 → costs_of (s.journal ++ journal_of records) ≤ g.capacity → (all_replayed g s records).journal ≡ s.journal ++ journal_of records
records-journal g s [] none fits = sym (append-nil s.journal)
records-journal g s (Moment clock ∷ records) none fits = records-journal g s records none fits
records-journal g s (Commit clock change ∷ records) none fits =
    let split : s.journal ++ journal_of (Commit clock change ∷ records) ≡ (s.journal ++ change ∷ []) ++ journal_of records = sym (append_assoc s.journal (change ∷ []) (journal_of records)) in
    let sum : costs_of (s.journal ++ journal_of (Commit clock change ∷ records)) ≡ costs_of (s.journal ++ change ∷ []) + costs_of (journal_of records) = ap costs_of split ∙ costs-append (s.journal ++ change ∷ []) (journal_of records) in
    let accepted = takes g s change none (omega (arith, sum, fits)) in
    let left = adds-accepted g s (min clock greatest_moment) change Always accepted in
    let next = replayed g s (Commit clock change) in
    let again : costs_of (next.journal ++ journal_of records) ≡ costs_of (s.journal ++ journal_of (Commit clock change ∷ records)) = ap (λ (xs : List Change). costs_of (xs ++ journal_of records)) left.journal ∙ ap costs_of (sym split) in
    records-journal g next records (left.horizon ∙ none) (omega (arith, again, fits))
    ∙ ap (λ (xs : List Change). xs ++ journal_of records) left.journal
    ∙ sym split

pub opening-journal : (g : Setting) (records : List LogRecord) (moment : ℕ) → costs_of (journal_of records) ≤ g.capacity → (opened_state g records moment).journal ≡ journal_of records
opening-journal g records moment fits =
    (end-leaves g (all_replayed g start records) moment).journal ∙ append-nil (all_replayed g start records).journal ∙ records-journal g start records refl fits
