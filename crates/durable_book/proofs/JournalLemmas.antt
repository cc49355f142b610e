-- What records say, record by record.
use Rattle.std.proofs.Common.{◌≡◌, ℕ, ◌+◌, List, [], ◌∷◌, ◌++◌, Option, None, sym, ap, ◌∙◌, arith, append-nil}
use Rattle.std.specs.Option.{option_map_or}
use Rattle.std.proofs.lemmas.Grind.{flat_map-append}
use Rattle.std.proofs.lemmas.List.Sums.{fold-append, sum_by-append}
use Rattle.commit_book.specs.declared.change.Change.{Change}
use Rattle.commit_book.specs.Journal.{cost_of, kept_with}
use Rattle.record_log.specs.declared.log_record.LogRecord.{LogRecord}
use Rattle.record_log.specs.declared.log_record.LogRecord.TheVariants.{Commit, Moment}
use Rattle.record_log.specs.Frames.{Frame}
use Rattle.record_log.specs.Opened.{Say}
use Rattle.durable_book.specs.Journals.{changes_of, journal_of, moment_behind, last_kept, costs_of}

-- the journal of records and others
pub journal-append : (records more : List LogRecord) → journal_of (records ++ more) ≡ journal_of records ++ journal_of more
journal-append records more = flat_map-append changes_of records more

-- a commit more
pub journal-commit : (records : List LogRecord) (clock : ℕ) (change : Change) → journal_of (records ++ Commit clock change ∷ []) ≡ journal_of records ++ change ∷ []
journal-commit records clock change = journal-append records (Commit clock change ∷ [])

-- a moment more
pub journal-moment : (records : List LogRecord) (clock : ℕ) → journal_of (records ++ Moment clock ∷ []) ≡ journal_of records
journal-moment records clock = journal-append records (Moment clock ∷ []) ∙ append-nil (journal_of records)

pub kept-commit : (records : List LogRecord) (clock : ℕ) (change : Change) → last_kept (records ++ Commit clock change ∷ []) ≡ last_kept records
kept-commit records clock change = ap (λ (o : Option ℕ). option_map_or (λ moment. moment) o 0) (fold-append moment_behind None records (Commit clock change ∷ []))

pub kept-moment : (records : List LogRecord) (clock : ℕ) → last_kept (records ++ Moment clock ∷ []) ≡ clock
kept-moment records clock = ap (λ (o : Option ℕ). option_map_or (λ moment. moment) o 0) (fold-append moment_behind None records (Moment clock ∷ []))

-- the costs of changes and others
pub costs-append : (changes more : List Change) → costs_of (changes ++ more) ≡ costs_of changes + costs_of more
costs-append changes more = sum_by-append cost_of changes more

-- where nothing was dropped all rows are kept
pub kept-whole : (journal : List Change) (change : Change) (horizon : ℕ) → horizon ≡ 0 → kept_with journal horizon change ≡ costs_of (journal ++ change ∷ [])
kept-whole journal change horizon none =
    ap (λ (n : ℕ). kept_with journal n change) none ∙ sym (costs-append journal (change ∷ []) ∙ (let e : costs_of journal + costs_of (change ∷ []) ≡ costs_of journal + cost_of change = omega arith in e))

-- frames and records more
pub say-append : (fs more : List Frame) (rs ms : List LogRecord) → Say fs rs → Say more ms → Say (fs ++ more) (rs ++ ms)
say-append [] more [] ms s m = m
say-append [] more (r ∷ rs) ms s m = absurd s
say-append (f ∷ fs) more [] ms s m = absurd s
say-append (f ∷ fs) more (r ∷ rs) ms s m = (s.0, s.1, say-append fs more rs ms s.2 m)
