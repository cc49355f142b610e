-- Internal. What the steps of a run make of a machine.
use Rattle.std.specs.Prelude.{◌≡◌, ◌⊎◌, ℕ, ◌+◌, ◌<◌, min, false, []}
use Rattle.std.specs.declared.option.Option.{Option}
use Rattle.commit_book.specs.declared.change.Change.{Change}
use Rattle.commit_book.specs.Journal.{cost_of}
use Rattle.disks.specs.Histories.{DiskView, HasCrashed, History}
use Rattle.durable_book.specs.Calls.{GoesBy, GoesByWrite, LeavesWrite}
use Rattle.durable_book.specs.KeptHub.{KeptView}
use Rattle.durable_book.specs.Opened.{HasReplayed}
use Rattle.hub_core.specs.PageRoom.{IsRoomFor, PageRoomView}
use Rattle.hub_model.specs.declared.entry.Condition.TheVariants.{Always}
use Rattle.hub_model.specs.declared.entry.Entry.TheVariants.{Read, Match, Fetch}
use Rattle.hub_model.specs.declared.entry.Tags.TheVariants.{Listed}
use Rattle.hub_model.specs.Setting.{default_setting}
use Rattle.query_normal.specs.declared.key.KeyShape.TheVariants.{Record}
use Rattle.world_core.specs.Draws.{after}
use Rattle.world_core.specs.Products.{collection, product_id}
use Rattle.crash_core.specs.declared.expected.Expected.{Expected}
use Rattle.crash_core.specs.declared.lines.OpenLine.{OpenLine}
use Rattle.crash_core.specs.declared.machine.Stop.{Stop}
use Rattle.crash_core.specs.declared.step.QuietStep.{QuietStep}
use Rattle.crash_core.specs.declared.step.QuietStep.TheVariants as quiet
use Rattle.crash_core.specs.declared.step.Stopped.{Stopped}
use Rattle.crash_core.specs.Expected.{line_for, open_for, with_put, with_read, with_stop}
use Rattle.crash_core.specs.Products.{IsPut}
use Rattle.crash_core.specs.Steps.{bytes_from, moment_at}
use Rattle.crash_core.specs.Stops.{written_bytes}

-- What a machine has between two steps: the store on its disk, the clock of its calls, and what the store must have.
pub record MachineView : Type 0 where
  pub store : KeptView
  pub clock : ℕ
  pub expected : Expected

-- the store has the default configuration, for which the buffer was made
pub record IsMachine (store : KeptView) (room : PageRoomView) : Type 0 where
  pub setting : store.hub.setting ≡ default_setting
  pub room_is : IsRoomFor default_setting room

-- the document of a product was put
pub record IsStorePut (product price : ℕ) (m n : MachineView) : Type 0 where
  pub change : Change
  pub is_put : IsPut product price change
  pub goes : GoesByWrite m.store n.store (moment_at m.clock) change Always
  pub clock : n.clock ≡ m.clock
  pub expected : n.expected ≡ with_put m.expected (cost_of change)

-- the record of a product was read
pub record IsStoreRead (product : ℕ) (m n : MachineView) : Type 0 where
  pub goes : GoesBy m.store n.store (Read (moment_at m.clock) (Record collection (product_id product)) (Listed []) m.store.hub.commits)
  pub clock : n.clock ≡ m.clock
  pub expected : n.expected ≡ with_read m.expected (moment_at m.clock)

-- the page was fetched
pub record IsStoreFetch (m n : MachineView) : Type 0 where
  pub goes : GoesBy m.store n.store (Fetch (moment_at m.clock))
  pub clock : n.clock ≡ m.clock
  pub expected : n.expected ≡ m.expected

-- all commits were matched, where one was not
pub record IsStoreMatch (m n : MachineView) : Type 0 where
  pub goes : ((m.store.hub.front < m.store.hub.commits) × GoesBy m.store n.store (Match (moment_at m.clock) m.store.hub.commits)) ⊎ (n.store ≡ m.store)
  pub clock : n.clock ≡ m.clock
  pub expected : n.expected ≡ m.expected

-- a step without a crash
abbrev pub IsQuietStep : QuietStep → MachineView → MachineView → Type 0
IsQuietStep (quiet.Put product price) m n = IsStorePut product price m n
IsQuietStep (quiet.Read product) m n = IsStoreRead product m n
IsQuietStep quiet.Fetch m n = IsStoreFetch m n
IsQuietStep (quiet.Advance seconds) m n = n ≡ record m { clock = min (m.clock + seconds) 18446744073709551615 }
IsQuietStep quiet.Match m n = IsStoreMatch m n

-- A machine was started on a disk: the store was opened, and has what it must have, which the line of the step tells.
pub record IsOpenedAs (number clock : ℕ) (expected : Expected) (before : Option History) (m : MachineView) (line : OpenLine) : Type 0 where
  pub opened : HasReplayed default_setting (moment_at clock) before m.store.hub m.store.log m.store.kept m.store.guard
  pub sound : m.store.broken ≡ false
  pub clock_is : m.clock ≡ clock
  pub expected_is : m.expected ≡ expected
  pub line_is : line ≡ line_for number expected

-- A put was begun, which stops.
pub record IsStopped (stopped : Stopped) (m n : MachineView) (stop : Stop) : Type 0 where
  pub change : Change
  pub is_put : IsPut stopped.product stopped.price change
  pub leaves : LeavesWrite m.store n.store change
  pub cost_is : stop.cost ≡ cost_of change
  pub count_is : stop.count ≡ open_for m.expected (cost_of change) (written_bytes change) stopped.calls
  pub clock : n.clock ≡ m.clock
  pub expected : n.expected ≡ m.expected

-- The machine crashed with drawn bytes where any may be, and was started again.
pub record IsRestarted (number calls : ℕ) (stop : Stop) (m : MachineView) (before next : ℕ) (n : MachineView) (line : OpenLine) : Type 0 where
  pub left : DiskView
  pub disk : DiskView
  pub left_is : left.history ≡ m.store.log.history
  pub crashed : HasCrashed left disk (bytes_from stop.count before)
  pub drawn : next ≡ after stop.count before
  pub opened : IsOpenedAs number m.clock (with_stop m.expected stop.cost calls (bytes_from stop.count before)) disk.history n line

-- A put was begun, which stops, and the machine crashed and was started again.
pub record IsCrashed (number : ℕ) (stopped : Stopped) (m : MachineView) (before next : ℕ) (n : MachineView) (line : OpenLine) : Type 0 where
  pub mid : MachineView
  pub stop : Stop
  pub begun : IsStopped stopped m mid stop
  pub restarted : IsRestarted number stopped.calls stop mid before next n line
