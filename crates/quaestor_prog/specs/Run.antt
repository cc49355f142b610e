-- Believed. What a run of the program does.
use Rattle.std.specs.Prelude.{◌≡◌, ◌⊎◌, ℕ, true, min, List, [], ◌∷◌, Option, Some, None, codes, flat_map}
use Rattle.std.specs.List.{enumerate_from}
use Rattle.commit_book.specs.declared.change.Change.{Change}
use Rattle.dialogue.specs.Dialogue.{Sides}
use Rattle.hub_model.specs.declared.entry.Entry.{Entry}
use Rattle.hub_model.specs.Legal.{IsLegal}
use Rattle.hub_model.specs.Setting.{Setting}
use Rattle.q_base.specs.declared.moment.TheConstants.{GREATEST_SECONDS}
use Rattle.q_outside.specs.Ends.{End, GaveBytes, GavePart, HasEnded, LastEnd, Ticks}
use Rattle.q_outside.specs.declared.served.Served.{Served}
use Rattle.clap.specs.Words.{Text}
use Rattle.kept_desk.specs.Filling.{IsFilling, Writes, written_by}
use Rattle.command_line.specs.Data.{DataAsk}
use Rattle.command_line.specs.Help.{IsHelpOf, text_of_help}
use Rattle.command_line.specs.Words.{PipeAsk}
use Rattle.command_line.specs.declared.help.HelpText.{HelpText}
use Rattle.command_line.specs.declared.command_name.Simulation.{Simulation}
use Rattle.command_line.specs.declared.command_name.Simulation.TheVariants.{World, Crash}
use Rattle.quaestor_prog.specs.Status.{status_of}
use Rattle.quaestor_prog.specs.declared.status.Status.{Status}
use Rattle.quaestor_prog.specs.declared.status.Status.TheVariants.{Done, Words, WriteFault, Memory, StoreFault}
use Rattle.quaestor_prog.specs.Serving.{guarded, longest_of}
use Rattle.quaestor_serve.specs.Served.{KeptBy}
use Rattle.quaestor_server.specs.Conversation.{Conversation}
use Rattle.crash_core.specs.Told.{IsCrashText}
use Rattle.turnstile.specs.Places.{AllOf}
use Rattle.world_core.specs.Text.{IsWorldText}

-- each of the moments is that of the fixed clock
abbrev pub AreAt : ℕ → List ℕ → Type 0
AreAt at [] = Unit {0}
AreAt at (moment ∷ moments) = (moment ≡ min at GREATEST_SECONDS) × AreAt at moments

-- the moments are those of the given clock in turn, or those of a fixed clock
abbrev pub AreTimed : {C : Type 0} → (C → ℕ → C → Type 0) → C → C → Option ℕ → List ℕ → Type 0
AreTimed tells old new None moments = Ticks tells old moments new
AreTimed tells old new (Some at) moments = AreAt at moments × (new ≡ old)

-- The connection was served in this configuration, over a history that began empty and has no entry but its own, the status is that of its end, and the sink was ended behind all that was given.
pub record Pipes (g : Setting) (a b : Sides) (ended : LastEnd) (tells : List ℕ → Type 0) (status : Status) : Type 0 where
  pub entries : List Entry
  pub legal : IsLegal g entries
  pub served : Served
  -- the desk stores its entries, so memory for those of a request may run out, whatever it asks
  pub conversation : Conversation g true tells (λ commits. Unit {0}) [] entries [] (enumerate_from 0 entries) a b served
  pub status_is : status ≡ status_of served.why
  pub is_ended : HasEnded ended b.sink.bytes

-- Out of memory: nothing was begun.
pub record IsUnbegun (a b : Sides) (tells : List ℕ → Type 0) (status : Status) : Type 0 where
  pub status_is : status ≡ Memory
  pub source : b.source ≡ a.source
  pub sink : b.sink ≡ a.sink
  pub ticks : tells []

-- what the sink is given for words that no command takes
abbrev pub usage : List ℕ
usage = codes "usage: quaestor pipe, serve, read or world\n"

-- the sink was given the usage line, or failed inside it
abbrev pub IsUsage : End → End → Status → Type 0
IsUsage before after Words = GaveBytes before after usage
IsUsage before after WriteFault = GavePart before after usage
IsUsage before after _ = ⊥

-- No command takes the words: the usage line was given, the sink was ended behind it, and nothing else was done.
pub record IsRefused (a b : Sides) (ended : LastEnd) (tells : List ℕ → Type 0) (status : Status) : Type 0 where
  pub usage : IsUsage a.sink b.sink status
  pub is_ended : HasEnded ended b.sink.bytes
  pub source : b.source ≡ a.source
  pub ticks : tells []

-- the sink was given a text, or failed inside it, and was ended behind that
abbrev pub IsText : List ℕ → End → End → LastEnd → Status → Type 0
IsText text before after ended Done = GaveBytes before after text × HasEnded ended after.bytes
IsText text before after ended WriteFault = GavePart before after text × HasEnded ended after.bytes
IsText text before after ended _ = ⊥

-- The words ask for help: the text that they ask for was given, and nothing else was done.
pub record IsHelped (words : List Text) (a b : Sides) (ended : LastEnd) (tells : List ℕ → Type 0) (status : Status) : Type 0 where
  pub asked : HelpText
  pub is_asked : IsHelpOf words asked
  pub text : IsText (text_of_help asked) a.sink b.sink ended status
  pub source : b.source ≡ a.source
  pub ticks : tells []

-- the connection was served, or nothing was begun, out of memory
abbrev pub IsRun : Setting → Sides → Sides → LastEnd → (List ℕ → Type 0) → Status → Type 0
IsRun g a b ended tells status = Pipes g a b ended tells status ⊎ IsUnbegun a b tells status

-- a desk has written what was kept
abbrev pub HasWritten : (List (ℕ × Change) → Type 0) → (mine mine' : List (ℕ × Entry)) → Type 0
HasWritten kept mine mine' = (changes : List (ℕ × Change)) × kept changes × Writes mine mine' changes

-- The connection was served over a store that a file keeps: its history begins with entries that write what the file has, and has no others but its own. No reply shows a commit but of so many as were kept then, in a log that was opened on the file.
pub record PipesKept {H L : Type 0} (opened : L → Type 0) (log : H → L) (keeps : H → ℕ → Type 0) (kept : List (ℕ × Change) → Type 0) (g : Setting) (a b : Sides) (ended : LastEnd) (tells : List ℕ → Type 0) (status : Status) : Type 0 where
  pub filled : List Entry
  pub filling : AllOf IsFilling filled
  pub restored : kept (flat_map written_by filled)
  pub entries : List Entry
  pub legal : IsLegal g entries
  pub served : Served
  pub hand : H
  pub hand_is : opened (log hand)
  pub conversation : Conversation g true tells (KeptBy log keeps hand) filled entries (enumerate_from 0 filled) (enumerate_from 0 entries) a b served
  pub status_is : status ≡ status_of served.why
  pub is_ended : HasEnded ended b.sink.bytes

-- The file is refused, or its store does not fit: nothing was taken and nothing given, and the sink was ended.
pub record IsUnkept (a b : Sides) (ended : LastEnd) (tells : List ℕ → Type 0) (status : Status) : Type 0 where
  pub status_is : status ≡ StoreFault
  pub source : b.source ≡ a.source
  pub sink : b.sink ≡ a.sink
  pub is_ended : HasEnded ended b.sink.bytes
  pub ticks : tells []

-- the connection was served over a store that a file keeps, or nothing was begun
abbrev pub IsRunKept : {H L : Type 0} → (opened : L → Type 0) → (log : H → L) → (keeps : H → ℕ → Type 0) → (List (ℕ × Change) → Type 0) → Setting → Sides → Sides → LastEnd → (List ℕ → Type 0) → Status → Type 0
IsRunKept opened log keeps kept g a b ended tells status = PipesKept opened log keeps kept g a b ended tells status ⊎ (IsUnkept a b ended tells status ⊎ IsUnbegun a b tells status)

module _ {P Q H L : Type 0} (opens : P → DataAsk → ℕ → Q → P → Type 0) (opened_by : Q → L → Type 0) (log : H → L) (keeps : H → ℕ → Type 0) (kept_by : Q → List (ℕ × Change) → Type 0) (moment : Q → ℕ) where
  -- The places opened the file that is asked for and gave its keeper, and this came of the connection over what the keeper has, with the guard that comes of it.
  pub record HasOpened (ask : PipeAsk) (places places' : P) (a b : Sides) (ended : LastEnd) (tells : List ℕ → Type 0) (status : Status) : Type 0 where
    pub keeper : Q
    pub opened : opens places ask.store (longest_of ask.setting) keeper places'
    pub run : IsRunKept (opened_by keeper) log keeps (kept_by keeper) (guarded true ask.setting (moment keeper)) a b ended tells status

  -- the file is refused; or there was no memory; or the file was opened, and what came of it
  abbrev pub IsRunOver : PipeAsk → (places places' : P) → Sides → Sides → LastEnd → (List ℕ → Type 0) → Status → Type 0
  IsRunOver ask places places' a b ended tells status =
      IsUnkept a b ended tells status ⊎ (IsUnbegun a b tells status ⊎ HasOpened ask places places' a b ended tells status)

-- the text that a seed gives, of a world or of a run with crashes
abbrev pub IsSimulationText : Simulation → (seed steps : ℕ) → List ℕ → Type 0
IsSimulationText World seed steps text = IsWorldText seed steps text
IsSimulationText Crash seed steps text = IsCrashText seed steps text

-- such a text was given, or a beginning of it, and the sink was ended behind that; or there was no memory for it
abbrev pub GaveText : (List ℕ → Type 0) → End → End → LastEnd → Status → Type 0
GaveText such before after ended status =
    ((text : List ℕ) × such text × IsText text before after ended status) ⊎ ((status ≡ Memory) × (after ≡ before))

-- The words ask for a simulation: its text was given, and nothing else was done.
pub record HasSimulated (which : Simulation) (seed steps : ℕ) (a b : Sides) (ended : LastEnd) (tells : List ℕ → Type 0) (status : Status) : Type 0 where
  pub text : GaveText (IsSimulationText which seed steps) a.sink b.sink ended status
  pub source : b.source ≡ a.source
  pub ticks : tells []
