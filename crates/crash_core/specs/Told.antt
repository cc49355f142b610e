-- Believed. The text of the run of a store on a disk that crashes, by the draws of its seed: which commits and which moment the disk holds behind each step, and what each opening finds.
use Rattle.std.specs.Prelude.{◌≡◌, ℕ, zero, suc, ◌+◌, min, Bool, nat_le, if◌then◌else◌, List, [], ◌∷◌, ◌++◌, length}
use Rattle.std.specs.declared.option.Option.{Option}
use Rattle.std.specs.declared.option.Option.TheVariants.{None}
use Rattle.commit_book.specs.declared.change.Change.{Change}
use Rattle.durable_book.specs.Journals.{costs_of}
use Rattle.durable_book.specs.Moments.{guard_of}
use Rattle.hub_model.specs.Setting.{default_setting}
use Rattle.world_core.specs.Draws.{after}
use Rattle.crash_core.specs.declared.lines.OpenLine.{OpenLine}
use Rattle.crash_core.specs.declared.step.CrashStep.{CrashStep}
use Rattle.crash_core.specs.declared.step.CrashStep.TheVariants as step
use Rattle.crash_core.specs.declared.step.QuietStep.{QuietStep}
use Rattle.crash_core.specs.declared.step.QuietStep.TheVariants as quiet
use Rattle.crash_core.specs.declared.step.Stopped.{Stopped}
use Rattle.crash_core.specs.Lines.{lines_text, numbers_text}
use Rattle.crash_core.specs.Products.{IsPut}
use Rattle.crash_core.specs.Steps.{bytes_from, kept_by, moment_at, next_step}
use Rattle.crash_core.specs.Stops.{is_stored, open_after, written_bytes}

-- What a store on a disk has between two steps: the journal of its disk, the last kept moment there, the clock of its calls, and the number of the generator.
pub record Stand : Type 0 where
  pub journal : List Change
  pub kept : Option ℕ
  pub clock : ℕ
  pub number : ℕ

-- whether a put is accepted: the changes with it are within the capacity
abbrev pub fits : List Change → Change → Bool
fits journal change = nat_le (costs_of (journal ++ change ∷ [])) default_setting.capacity

-- the journal behind a put
abbrev pub put_in : List Change → Change → List Change
put_in journal change = if fits journal change then journal ++ change ∷ [] else journal

-- how many bytes of the disk may be any once a put stops behind so many calls of the disk; one that is refused makes none
abbrev pub open_in : List Change → Change → ℕ → ℕ
open_in journal change calls = if fits journal change then open_after (written_bytes change) calls else 0

-- the journal that is found behind the crash, which drew these bytes
abbrev pub found_in : List Change → Change → ℕ → List ℕ → List Change
found_in journal change calls drawn = if is_stored calls drawn then put_in journal change else journal

-- the line of an opening: how many commits the disk has, and the guard
abbrev pub line_of : ℕ → Stand → OpenLine
line_of number t = record { step = number; commits = length t.journal; guard = guard_of default_setting t.kept }

-- what a step without a crash makes of a store
abbrev pub LeadsQuiet : QuietStep → (s t : Stand) → Type 0
LeadsQuiet (quiet.Put product price) s t =
    (change : Change) × IsPut product price change × (t ≡ record { journal = put_in s.journal change; kept = s.kept; clock = s.clock; number = s.number })
LeadsQuiet (quiet.Read product) s t = t ≡ record { journal = s.journal; kept = kept_by (moment_at s.clock) s.kept; clock = s.clock; number = s.number }
LeadsQuiet quiet.Fetch s t = t ≡ s
LeadsQuiet (quiet.Advance seconds) s t = t ≡ record { journal = s.journal; kept = s.kept; clock = min (s.clock + seconds) 18446744073709551615; number = s.number }
LeadsQuiet quiet.Match s t = t ≡ s

-- what a put makes of it that is stopped, and the crash behind that, which draws each byte that may be any
abbrev pub LeadsStopped : Stopped → (s t : Stand) → Type 0
LeadsStopped stopped s t =
    (change : Change) × IsPut stopped.product stopped.price change
    × (t ≡ record {
      journal = found_in s.journal change stopped.calls (bytes_from (open_in s.journal change stopped.calls) s.number);
      kept = s.kept;
      clock = s.clock;
      number = after (open_in s.journal change stopped.calls) s.number;
    })

-- what the step of a number makes of a store, whose number is the one behind the step's draws, and the line that it writes, if any
abbrev pub Leads : ℕ → CrashStep → (s t : Stand) → List OpenLine → Type 0
Leads number (step.Quiet it) s t lines = LeadsQuiet it s t × (lines ≡ [])
Leads number (step.Crash stopped) s t lines = LeadsStopped stopped s t × (lines ≡ line_of number t ∷ [])

-- what so many steps make of a store, numbered from a number on, each drawn from the generator's number, and the lines that they write
abbrev pub AllLead : ℕ → ℕ → (s t : Stand) → List OpenLine → Type 0
AllLead number zero s t lines = (t ≡ s) × (lines ≡ [])
AllLead number (suc count) s t lines =
    (mid : Stand) × (first rest : List OpenLine)
    × Leads number (next_step s.number).0 (record { journal = s.journal; kept = s.kept; clock = s.clock; number = (next_step s.number).1 }) mid first
    × AllLead (suc number) count mid t rest × (lines ≡ first ++ rest)

-- the store on an empty disk, at the clock 1,000,000
abbrev pub at_first : ℕ → Stand
at_first seed = record { journal = []; kept = None; clock = 1000000; number = seed }

-- The text of the run of a seed: it has a line for the opening of the empty disk, then one for each opening behind a crash, and then the numbers of the steps, of the commits at the end and of the crashes.
pub record IsCrashText (seed count : ℕ) (text : List ℕ) : Type 0 where
  pub last : Stand
  pub lines : List OpenLine
  pub run : AllLead 1 count (at_first seed) last lines
  pub text_is : text ≡ lines_text (line_of 0 (at_first seed) ∷ lines) ++ numbers_text count (length last.journal) (length lines)
