-- Internal. A run of a store on a disk that crashes, as its machine makes it.
use Rattle.std.specs.Prelude.{◌≡◌, ℕ, zero, suc, List, [], ◌∷◌, ◌++◌}
use Rattle.std.specs.declared.option.Option.TheVariants.{Some}
use Rattle.crash_core.specs.declared.lines.OpenLine.{OpenLine}
use Rattle.crash_core.specs.declared.run.Ran.{Ran}
use Rattle.crash_core.specs.declared.step.CrashStep.{CrashStep}
use Rattle.crash_core.specs.declared.step.CrashStep.TheVariants as step
use Rattle.crash_core.specs.Expected.{nothing}
use Rattle.crash_core.specs.Machine.{MachineView, IsCrashed, IsOpenedAs, IsQuietStep}
use Rattle.crash_core.specs.Steps.{next_step}

-- what the step of a number makes of a machine, the number of the generator behind it, and the line that it writes, if any
abbrev pub IsStep : ℕ → CrashStep → (m : MachineView) → ℕ → (n : MachineView) → ℕ → List OpenLine → Type 0
IsStep number (step.Quiet it) m before n next lines = IsQuietStep it m n × (next ≡ before) × (lines ≡ [])
IsStep number (step.Crash stopped) m before n next lines = (line : OpenLine) × IsCrashed number stopped m before next n line × (lines ≡ line ∷ [])

-- the same of the step that is drawn, whose line came behind others
abbrev pub StepsInto : ℕ → (m : MachineView) → ℕ → List OpenLine → (n : MachineView) → ℕ → List OpenLine → Type 0
StepsInto number m before old n next new =
    (lines : List OpenLine) × IsStep number (next_step before).0 m (next_step before).1 n next lines × (new ≡ old ++ lines)

-- what so many steps make of a machine and of the generator's number, from which each is drawn, numbered from a number on, and the lines that they write
abbrev pub IsRun : ℕ → ℕ → (m : MachineView) → ℕ → (n : MachineView) → ℕ → List OpenLine → Type 0
IsRun number zero m before n next lines = (n ≡ m) × (next ≡ before) × (lines ≡ [])
IsRun number (suc count) m before n next lines =
    (mid : MachineView) × (drawn : ℕ) × (first rest : List OpenLine)
    × IsStep number (next_step before).0 m (next_step before).1 mid drawn first × IsRun (suc number) count mid drawn n next rest × (lines ≡ first ++ rest)

-- What a run from a seed came to after so many steps: the empty disk was opened at the clock 1,000,000, and then came the steps; it has the lines of its openings.
pub record IsSoFar (seed count : ℕ) (last : MachineView) (number : ℕ) (all : List OpenLine) : Type 0 where
  pub first : MachineView
  pub line : OpenLine
  pub lines : List OpenLine
  pub opened : IsOpenedAs 0 1000000 nothing (Some (record { start = []; calls = [] })) first line
  pub run : IsRun 1 count first seed last number lines
  pub lines_are : all ≡ line ∷ lines

-- A run of so many steps, with its lines and its commits at the end.
pub record IsRunOf (seed count : ℕ) (ran : Ran) : Type 0 where
  pub last : MachineView
  pub number : ℕ
  pub so_far : IsSoFar seed count last number ran.lines.items
  pub commits_are : ran.commits ≡ last.expected.commits
