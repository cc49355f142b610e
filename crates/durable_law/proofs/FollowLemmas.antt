-- Why a later store follows an earlier one.
use Rattle.std.proofs.Common.{◌≡◌, ℕ, ◌+◌, ◌-◌, ◌^◌, ◌<◌, ◌≤◌, min, List, [], ◌++◌, length, All, Option, Some, None, refl, sym, ap, ◌∙◌, subst, arith}
use Rattle.std.specs.Option.{option_map_or}
use Rattle.commit_book.specs.declared.change.Change.{Change}
use Rattle.hub_model.specs.declared.entry.Entry.{Entry}
use Rattle.hub_model.specs.Desk.{IsPrefix}
use Rattle.hub_model.specs.Setting.{Setting}
use Rattle.hub_model.specs.State.{IssuedCopy, State, until_of}
use Rattle.hub_model.specs.Step.{state_of}
use Rattle.record_log.specs.declared.log_record.LogRecord.{LogRecord}
use Rattle.durable_book.specs.Across.{Follows}
use Rattle.durable_book.specs.Journals.{costs_of, journal_of, last_kept, last_moment}
use Rattle.durable_book.specs.KeptHub.{KeptView, StandsFor}
use Rattle.durable_book.specs.Moments.{guard_of, longest_of}
use Rattle.durable_book.specs.Replay.{opened_state, opening_of}
use Rattle.durable_law.specs.Outlasts.{Outlasts}
use Rattle.durable_law.proofs.LifetimeLemmas.{Whole, copies-short}

-- what is asked of openings
abbrev pub States : Type 0
States = (g : Setting) (records : List LogRecord) (moment : ℕ) → state_of g (opening_of g records moment) ≡ opened_state g records moment

abbrev pub Journals : Type 0
Journals = (g : Setting) (records : List LogRecord) (moment : ℕ) → costs_of (journal_of records) ≤ g.capacity → (opened_state g records moment).journal ≡ journal_of records

abbrev pub Matched : Type 0
Matched = (g : Setting) (records : List LogRecord) (moment : ℕ) → (opened_state g records moment).front ≡ length (opened_state g records moment).journal

abbrev pub Unread : Type 0
Unread = (g : Setting) (records : List LogRecord) (moment : ℕ) → (opened_state g records moment).copies ≡ []

-- the kept moment and a longest time are above a clock and a time
cut_above : (last later kept longest clock ttl : ℕ) → kept ≤ last → longest ≤ later → kept + longest ≤ 2 ^ 64 → clock < kept → ttl ≤ longest → clock + ttl ≤ min (last + later) (2 ^ 64 - 1)
cut_above last later kept longest clock ttl moments times within before short = omega (arith, moments, times, within, before, short)

-- so a guard is not below an until
guard_above : (g : Setting) (last : Option ℕ) (kept longest clock ttl : ℕ) → kept ≤ option_map_or (λ moment. moment) last 0 → longest ≤ longest_of g → kept + longest ≤ 2 ^ 64 → clock < kept → ttl ≤ longest → clock + ttl ≤ guard_of g last
guard_above g None kept longest clock ttl moments times within before short = absurd (omega (arith, moments, before))
guard_above g (Some last) kept longest clock ttl moments times within before short = cut_above last (longest_of g) kept longest clock ttl moments times within before short

-- each copy of the earlier store has expired by the guard
expired_by : Whole → (k : KeptView) (later_g : Setting) (history : List Entry) (records : List LogRecord) → StandsFor k history → k.kept ≤ last_kept records → Outlasts k later_g
    → All (λ (r : IssuedCopy). until_of r ≤ guard_of later_g (last_moment records)) (state_of k.hub.setting history).copies
expired_by whole k later_g history records stands moments outlasts =
    let short = copies-short k.hub.setting outlasts.order whole history in
    λ i d small. guard_above later_g (last_moment records) k.kept (longest_of k.hub.setting) _ _ moments outlasts.longest outlasts.within (stands.state.reads i d small) (short i d small)

abbrev pub Following : Type 0
Following = (k : KeptView) (later_g : Setting) (history more : List Entry) (records : List LogRecord) (moment : ℕ) → StandsFor k history
    → IsPrefix (state_of k.hub.setting history).journal (journal_of records) → k.kept ≤ last_kept records → costs_of (journal_of records) ≤ later_g.capacity → Outlasts k later_g
    → Follows k.hub.setting later_g history (opening_of later_g records moment ++ more) (guard_of later_g (last_moment records))

pub follows : Whole → States → Journals → Matched → Unread → Following
follows whole states journals matched unread k later_g history more records moment stands prefix moments fits outlasts =
    let opened = states later_g records moment in
    let journal : (state_of later_g (opening_of later_g records moment)).journal ≡ journal_of records = ap (λ (s : State). s.journal) opened ∙ journals later_g records moment fits in
    record {
      opening = opening_of later_g records moment;
      begins = (more, refl);
      unread = ap (λ (s : State). s.copies) opened ∙ unread later_g records moment;
      matched = subst (λ (s : State). s.front ≡ length s.journal) (sym opened) (matched later_g records moment);
      journal = subst (λ (xs : List Change). IsPrefix (state_of k.hub.setting history).journal xs) (sym journal) prefix;
      expired = expired_by whole k later_g history records stands moments outlasts;
    }
