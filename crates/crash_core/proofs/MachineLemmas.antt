-- What the calls of a machine make is what its steps make.
use Rattle.std.proofs.Common.{◌≡◌, inl, inr, ℕ, ◌<◌, false, List, [], ◌∷◌, ◌++◌, Option, refl, sym, ap, ap₂, ◌∙◌, subst, append-nil}
use Rattle.std.specs.declared.option.Option.TheVariants.{Some}
use Rattle.commit_book.specs.declared.change.Change.{Change}
use Rattle.commit_book.specs.Journal.{cost_of}
use Rattle.disks.specs.Histories.{DiskView, HasCrashed, History}
use Rattle.durable_book.specs.Calls.{GoesBy, GoesByWrite, LeavesWrite}
use Rattle.durable_book.specs.KeptHub.{KeptView, IsSameStore}
use Rattle.durable_book.specs.Moments.{guard_of}
use Rattle.durable_book.specs.Opened.{HasReplayed}
use Rattle.hub_core.specs.PageRoom.{IsRoomFor, PageRoomView}
use Rattle.hub_model.specs.declared.entry.Condition.TheVariants.{Always}
use Rattle.hub_model.specs.declared.entry.Entry.TheVariants.{Read, Match, Fetch}
use Rattle.hub_model.specs.declared.entry.Tags.{Tags}
use Rattle.hub_model.specs.declared.entry.Tags.TheVariants.{Listed}
use Rattle.hub_model.specs.Setting.{Setting, default_setting}
use Rattle.query_normal.specs.declared.key.KeyShape.{KeyShape}
use Rattle.query_normal.specs.declared.key.KeyShape.TheVariants.{Record}
use Rattle.world_core.specs.Draws.{after}
use Rattle.world_core.specs.Products.{collection, product_id}
use Rattle.crash_core.specs.declared.expected.Expected.{Expected}
use Rattle.crash_core.specs.declared.lines.OpenLine.{OpenLine}
use Rattle.crash_core.specs.declared.machine.Stop.{Stop}
use Rattle.crash_core.specs.declared.step.CrashStep.{CrashStep}
use Rattle.crash_core.specs.declared.step.CrashStep.TheVariants as step
use Rattle.crash_core.specs.declared.step.QuietStep.{QuietStep}
use Rattle.crash_core.specs.declared.step.Stopped.{Stopped}
use Rattle.crash_core.specs.Expected.{line_for, nothing, open_for, with_put, with_read, with_stop}
use Rattle.crash_core.specs.Machine.{MachineView, IsCrashed, IsMachine, IsOpenedAs, IsRestarted, IsStopped, IsQuietStep, IsStoreFetch, IsStoreMatch, IsStorePut, IsStoreRead}
use Rattle.crash_core.specs.Products.{IsPut}
use Rattle.crash_core.specs.Run.{IsSoFar, IsStep, StepsInto}
use Rattle.crash_core.specs.Steps.{bytes_from, moment_at, next_step}
use Rattle.crash_core.specs.Stops.{written_bytes}
use Rattle.crash_core.proofs.RunLemmas.{so_far_none}

-- ---- the invariant

-- a call of the store keeps its configuration
pub machine_still : (old new : KeptView) (room : PageRoomView) → IsSameStore old new → IsMachine old room → IsMachine new room
machine_still old new room same m = record { setting = same.setting ∙ m.setting; room_is = m.room_is }

-- a fetch keeps the sizes of the buffer too
pub machine_fetched : (old new : KeptView) (before after : PageRoomView) → IsSameStore old new → IsRoomFor old.hub.setting after → IsMachine old before → IsMachine new after
machine_fetched old new before after same sizes m = record { setting = same.setting ∙ m.setting; room_is = subst (λ (g : Setting). IsRoomFor g after) m.setting sizes }

pub room_of_machine : (store : KeptView) (room : PageRoomView) → IsMachine store room → IsRoomFor store.hub.setting room
room_of_machine store room m = subst (λ (g : Setting). IsRoomFor g room) (sym m.setting) m.room_is

-- ---- openings

abbrev line_with : (number commits guard : ℕ) → OpenLine
line_with number commits guard = record { step = number; commits = commits; guard = guard }

-- the line of an opening is the expected one
line_as : (number : ℕ) (line : OpenLine) (expected : Expected) (guard : ℕ) → line ≡ line_with number line.commits line.guard → line.commits ≡ expected.commits → line.guard ≡ guard → guard ≡ guard_of default_setting expected.kept → line ≡ line_for number expected
line_as number line expected guard is commits guarded guard_is =
    is ∙ ap₂ (λ (a b : ℕ). line_with number a b) commits (guarded ∙ guard_is)

-- the store was opened, and has what it must have
pub opened_as : (number clock : ℕ) (expected : Expected) (before : Option History) (store : KeptView) (line : OpenLine) (g : Setting) (moment guard : ℕ) → g ≡ default_setting → moment ≡ moment_at clock
    → HasReplayed g moment before store.hub store.log store.kept store.guard → store.broken ≡ false → line ≡ line_with number line.commits line.guard → line.commits ≡ expected.commits → line.guard ≡ guard
    → guard ≡ guard_of g expected.kept → IsOpenedAs number clock expected before (record { store = store; clock = clock; expected = expected }) line
opened_as number clock expected before store line g moment guard g_is moment_is opened sound is commits guarded guard_is = record {
  opened = subst (λ (x : Setting). HasReplayed x (moment_at clock) before store.hub store.log store.kept store.guard) g_is
      (subst (λ (n : ℕ). HasReplayed g n before store.hub store.log store.kept store.guard) moment_is opened);
  sound = sound;
  clock_is = refl;
  expected_is = refl;
  line_is = line_as number line expected guard is commits guarded (guard_is ∙ ap (λ (x : Setting). guard_of x expected.kept) g_is);
}

-- ---- runs

-- the empty disk was opened
pub run_begins : (seed : ℕ) (first : MachineView) (line : OpenLine) (all : List OpenLine) (expected : Expected) (before : Option History) → expected ≡ nothing → before ≡ Some (record { start = []; calls = [] })
    → IsOpenedAs 0 1000000 expected before first line → all ≡ line ∷ [] → IsSoFar seed 0 first seed all
run_begins seed first line all expected before none empty opened one =
    so_far_none seed first line all
    (subst (λ (e : Expected). IsOpenedAs 0 1000000 e (Some (record { start = []; calls = [] })) first line) none
    (subst (λ (h : Option History). IsOpenedAs 0 1000000 expected h first line) empty opened)) one

-- the drawn step was made
pub steps_crash : (number : ℕ) (m : MachineView) (before drawn : ℕ) (old : List OpenLine) (kind : CrashStep) (stopped : Stopped) (n : MachineView) (next : ℕ) (line : OpenLine) (new : List OpenLine)
    → (mid : MachineView) (stop : Stop) → (kind, drawn) ≡ next_step before → kind ≡ step.Crash stopped → IsStopped stopped m mid stop → IsRestarted number stopped.calls stop mid drawn next n line → new ≡ old ++ line ∷ [] → StepsInto number m before old n next new
steps_crash number m before drawn old kind stopped n next line new mid stop e kind_is begun restarted new_is =
    let made : IsCrashed number stopped m drawn next n line = record { mid = mid; stop = stop; begun = begun; restarted = restarted } in
    let made_kind : IsStep number kind m drawn n next (line ∷ []) = subst (λ (k : CrashStep). IsStep number k m drawn n next (line ∷ [])) (sym kind_is) (line, made, refl) in
    (line ∷ [], subst (λ (x : CrashStep × ℕ). IsStep number x.0 m x.1 n next (line ∷ [])) e made_kind, new_is)

pub steps_quiet : (number : ℕ) (m : MachineView) (before drawn : ℕ) (old : List OpenLine) (kind : CrashStep) (it : QuietStep) (n : MachineView)
    → (kind, drawn) ≡ next_step before → kind ≡ step.Quiet it → IsQuietStep it m n → StepsInto number m before old n drawn old
steps_quiet number m before drawn old kind it n e kind_is made =
    let made_kind : IsStep number kind m drawn n drawn [] = subst (λ (k : CrashStep). IsStep number k m drawn n drawn []) (sym kind_is) (made, refl, refl) in
    ([], subst (λ (x : CrashStep × ℕ). IsStep number x.0 m x.1 n drawn []) e made_kind, sym (append-nil old))

-- ---- steps

-- the moment of a call is that of the clock, and what a put takes is its cost
pub put_made : (product price : ℕ) (change : Change) (store new : KeptView) (clock : ℕ) (expected later : Expected) (moment cost : ℕ) → IsPut product price change → moment ≡ moment_at clock → cost ≡ cost_of change → GoesByWrite store new moment change Always
    → later ≡ with_put expected cost → IsStorePut product price (record { store = store; clock = clock; expected = expected }) (record { store = new; clock = clock; expected = later })
put_made product price change store new clock expected later moment cost put moment_is cost_is goes later_is = record {
  change = change;
  is_put = put;
  goes = subst (λ (n : ℕ). GoesByWrite store new n change Always) moment_is goes;
  clock = refl;
  expected = later_is ∙ ap (with_put expected) cost_is;
}

pub read_made : (product : ℕ) (key : KeyShape) (tags : Tags) (commit : ℕ) (store new : KeptView) (clock : ℕ) (expected later : Expected) (moment : ℕ) → key ≡ Record collection (product_id product) → tags ≡ Listed [] → commit ≡ store.hub.commits → moment ≡ moment_at clock
    → GoesBy store new (Read moment key tags commit) → later ≡ with_read expected moment → IsStoreRead product (record { store = store; clock = clock; expected = expected }) (record { store = new; clock = clock; expected = later })
read_made product key tags commit store new clock expected later moment key_is tags_is last moment_is goes later_is = record {
  goes = subst (λ (n : ℕ). GoesBy store new (Read n (Record collection (product_id product)) (Listed []) store.hub.commits)) moment_is
      (subst (λ (k : KeyShape). GoesBy store new (Read moment k (Listed []) store.hub.commits)) key_is
      (subst (λ (t : Tags). GoesBy store new (Read moment key t store.hub.commits)) tags_is
      (subst (λ (n : ℕ). GoesBy store new (Read moment key tags n)) last goes)));
  clock = refl;
  expected = later_is ∙ ap (with_read expected) moment_is;
}

pub fetch_made : (store new : KeptView) (clock : ℕ) (expected : Expected) (moment : ℕ) → moment ≡ moment_at clock → GoesBy store new (Fetch moment)
    → IsStoreFetch (record { store = store; clock = clock; expected = expected }) (record { store = new; clock = clock; expected = expected })
fetch_made store new clock expected moment moment_is goes = record { goes = subst (λ (n : ℕ). GoesBy store new (Fetch n)) moment_is goes; clock = refl; expected = refl }

pub match_made : (store new : KeptView) (clock : ℕ) (expected : Expected) (moment to : ℕ) → moment ≡ moment_at clock → to ≡ store.hub.commits → store.hub.front < to → GoesBy store new (Match moment to)
    → IsStoreMatch (record { store = store; clock = clock; expected = expected }) (record { store = new; clock = clock; expected = expected })
match_made store new clock expected moment to moment_is to_is below goes = record {
  goes = inl (
    subst (λ (n : ℕ). store.hub.front < n) to_is below,
    subst (λ (n : ℕ). GoesBy store new (Match (moment_at clock) n)) to_is (subst (λ (n : ℕ). GoesBy store new (Match n to)) moment_is goes),
  );
  clock = refl;
  expected = refl;
}

pub match_none : (store : KeptView) (clock : ℕ) (expected : Expected) → IsStoreMatch (record { store = store; clock = clock; expected = expected }) (record { store = store; clock = clock; expected = expected })
match_none store clock expected = record { goes = inr refl; clock = refl; expected = refl }

-- a put was begun, which stops: the hub has the configuration, and the put is that of the step
pub stop_made : (stopped : Stopped) (change : Change) (store stop mid : KeptView) (clock : ℕ) (e : Expected) (size : ℕ) (made : Stop) → IsPut stopped.product stopped.price change → stop ≡ store → LeavesWrite stop mid change → size ≡ written_bytes change
    → made.cost ≡ cost_of change → made.count ≡ open_for e made.cost size stopped.calls → IsStopped stopped (record { store = store; clock = clock; expected = e }) (record { store = mid; clock = clock; expected = e }) made
stop_made stopped change store stop mid clock e size made put stop_is leaves size_is cost_is count_is = record {
  change = change;
  is_put = put;
  leaves = subst (λ (k : KeptView). LeavesWrite k mid change) stop_is leaves;
  cost_is = cost_is;
  count_is = count_is ∙ ap₂ (λ (k s : ℕ). open_for e k s stopped.calls) cost_is size_is;
  clock = refl;
  expected = refl;
}

-- the machine crashed, and was started again
pub restart_made : (number calls : ℕ) (stop : Stop) (store : KeptView) (clock : ℕ) (e stood : Expected) (left disk : DiskView) (draws : List ℕ) (before next : ℕ) (n : MachineView) (line : OpenLine) → left.history ≡ store.log.history → HasCrashed left disk (bytes_from stop.count before)
    → draws ≡ bytes_from stop.count before → next ≡ after stop.count before → stood ≡ with_stop e stop.cost calls draws → IsOpenedAs number clock stood disk.history n line
    → IsRestarted number calls stop (record { store = store; clock = clock; expected = e }) before next n line
restart_made number calls stop store clock e stood left disk draws before next n line left_is crashed draws_are next_is stood_is opened = record {
  left = left;
  disk = disk;
  left_is = left_is;
  crashed = crashed;
  drawn = next_is;
  opened = subst (λ (x : Expected). IsOpenedAs number clock x disk.history n line) (stood_is ∙ ap (λ (xs : List ℕ). with_stop e stop.cost calls xs) draws_are) opened;
}
