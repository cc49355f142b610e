-- One record more, in the loops over records.
use Rattle.std.proofs.Common.{◌≡◌, ℕ, ◌+◌, ◌-◌, ◌^◌, ◌<◌, ◌≤◌, min, Bool, true, false, List, [], ◌∷◌, ◌++◌, length, drop, fold, get_or, Option, refl, sym, ap, ◌∙◌, subst, arith, length-append}
use Rattle.std.proofs.lemmas.List.{drop_more, drop_all}
use Rattle.commit_book.specs.declared.change.Change.{Change}
use Rattle.hub_core.specs.HubState.{HubView, IsAt}
use Rattle.hub_model.specs.declared.entry.Condition.TheVariants.{Always}
use Rattle.hub_model.specs.Setting.{Setting}
use Rattle.hub_model.specs.State.{State, start}
use Rattle.hub_model.specs.Step.{is_accepted}
use Rattle.q_base.specs.Moment.{greatest_moment}
use Rattle.record_log.specs.declared.log_record.LogRecord.{LogRecord}
use Rattle.record_log.specs.declared.log_record.LogRecord.TheVariants.{Commit, Moment}
use Rattle.durable_book.specs.Journals.{changes_of, journal_of, moment_behind, costs_of}
use Rattle.durable_book.specs.Replay.{replayed, all_replayed}
use Rattle.durable_book.proofs.JournalLemmas.{costs-append}
use Rattle.durable_book.proofs.StateLemmas.{adds-accepted, adds-refused}

-- what is left begins with the record at the index
left_is : (records : List LogRecord) (index : ℕ) (r : LogRecord) → index < length records → r ≡ get_or records index r → drop index records ≡ r ∷ drop (index + 1) records
left_is records index r within is = drop_more records index r within ∙ ap (λ (x : LogRecord). x ∷ drop (index + 1) records) (sym is)

-- the sum with a record more
pub costs_on : (records : List LogRecord) (index : ℕ) (r : LogRecord) (sum cost next whole : ℕ) → index < length records → r ≡ get_or records index r → cost ≡ costs_of (changes_of r) → next ≡ min (sum + cost) (2 ^ 64 - 1)
    → min (sum + costs_of (journal_of (drop index records))) (2 ^ 64 - 1) ≡ whole → min (next + costs_of (journal_of (drop (index + 1) records))) (2 ^ 64 - 1) ≡ whole
costs_on records index r sum cost next whole within is costs next_is so_far =
    let left : costs_of (journal_of (drop index records)) ≡ costs_of (changes_of r) + costs_of (journal_of (drop (index + 1) records)) =
    ap (λ (rs : List LogRecord). costs_of (journal_of rs)) (left_is records index r within is) ∙ costs-append (changes_of r) (journal_of (drop (index + 1) records)) in
    omega (arith, left, costs, next_is, so_far)

-- the sum when none is left
pub costs_end : (records : List LogRecord) (index sum whole : ℕ) → length records ≤ index → sum ≤ 2 ^ 64 - 1 → min (sum + costs_of (journal_of (drop index records))) (2 ^ 64 - 1) ≡ whole → sum ≡ whole
costs_end records index sum whole past small so_far =
    let none : costs_of (journal_of (drop index records)) ≡ 0 = ap (λ (rs : List LogRecord). costs_of (journal_of rs)) (drop_all index records past) in
    omega (arith, none, small, so_far)

-- the last moment with a record more
pub moment_on : (records : List LogRecord) (index : ℕ) (r : LogRecord) (last next : Option ℕ) (whole : Option ℕ) → index < length records → r ≡ get_or records index r → next ≡ moment_behind last r
    → fold moment_behind last (drop index records) ≡ whole → fold moment_behind next (drop (index + 1) records) ≡ whole
moment_on records index r last next whole within is next_is so_far =
    ap (λ (o : Option ℕ). fold moment_behind o (drop (index + 1) records)) next_is
    ∙ sym (ap (λ (rs : List LogRecord). fold moment_behind last rs) (left_is records index r within is))
    ∙ so_far

pub moment_end : (records : List LogRecord) (index : ℕ) (last whole : Option ℕ) → length records ≤ index → fold moment_behind last (drop index records) ≡ whole → last ≡ whole
moment_end records index last whole past so_far = sym (ap (λ (rs : List LogRecord). fold moment_behind last rs) (drop_all index records past)) ∙ so_far

-- a record is one commit more at most
replayed_longer : (g : Setting) (s : State) (r : LogRecord) → length (replayed g s r).journal ≤ length s.journal + 1
replayed_longer g s (Moment clock) = omega arith
replayed_longer g s (Commit clock change) = by (is_accepted g s change Always) refl
  where
    by : (b : Bool) → is_accepted g s change Always ≡ b → length (replayed g s (Commit clock change)).journal ≤ length s.journal + 1
    by true accepted =
        let more : length (replayed g s (Commit clock change)).journal ≡ length (s.journal ++ change ∷ []) = ap (λ (xs : List Change). length xs) (adds-accepted g s (min clock greatest_moment) change Always accepted).journal in
        omega (arith, more, length-append s.journal (change ∷ []))
    by false refused =
        let same : length (replayed g s (Commit clock change)).journal ≡ length (s.journal ++ []) = ap (λ (xs : List Change). length xs) (adds-refused g s (min clock greatest_moment) change Always refused).journal in
        omega (arith, same, length-append s.journal [])

-- The hub is at a state from which the records that are left lead where all lead, and which has no more commits than records were made.
pub record IsMaking (g : Setting) (hub : HubView) (records : List LogRecord) (index : ℕ) : Type 0 where
  pub state : State
  pub at : IsAt hub state
  pub leads : all_replayed g state (drop index records) ≡ all_replayed g start records
  pub few : length state.journal ≤ index

-- the hub at a state has as many commits
pub commits_below : (g : Setting) (hub : HubView) (records : List LogRecord) (index : ℕ) → IsMaking g hub records index → hub.commits ≤ index
commits_below g hub records index making = (let count = making.at.book.commits in omega (arith, count, making.few))

pub making_begins : (g : Setting) (hub : HubView) (records : List LogRecord) → IsAt hub start → IsMaking g hub records 0
making_begins g hub records at = record { state = start; at = at; leads = refl; few = omega arith }

pub making_on : (g : Setting) (old new : HubView) (records : List LogRecord) (index : ℕ) (r : LogRecord) → index < length records → r ≡ get_or records index r → ((s : State) → IsAt old s → IsAt new (replayed g s r))
    → IsMaking g old records index → IsMaking g new records (index + 1)
making_on g old new records index r within is made making =
    let s = making.state in
    let longer = replayed_longer g s r in
    record {
      state = replayed g s r;
      at = made s making.at;
      leads = sym (ap (λ (rs : List LogRecord). all_replayed g s rs) (left_is records index r within is)) ∙ making.leads;
      few = omega (arith, longer, making.few);
    }

pub making_ends : (g : Setting) (hub : HubView) (records : List LogRecord) (index : ℕ) → length records ≤ index → IsMaking g hub records index → IsAt hub (all_replayed g start records)
making_ends g hub records index past making =
    subst (IsAt hub) (sym (ap (λ (rs : List LogRecord). all_replayed g making.state rs) (drop_all index records past)) ∙ making.leads) making.at
