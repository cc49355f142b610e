-- How a store on a disk goes on from state to state, and what its calls leave.
use Rattle.std.proofs.Common.{◌≡◌, ℕ, ◌+◌, ◌<◌, ◌≤◌, max, Bool, true, false, List, [], ◌∷◌, ◌++◌, All, Option, Some, None, Result, Ok, Err, OnOk, IfErr, IsErrAnd, option_map, unwrap_or, is_some, nat_lt, if◌then◌else◌, refl, sym, ap, ◌∙◌, subst, inl, inr, arith, append-nil}
use Rattle.std.proofs.lemmas.List.Elements.{All-append, All-cons, All-nil}
use Rattle.commit_book.specs.declared.change.Change.{Change}
use Rattle.disks.specs.Histories.{History}
use Rattle.disks.specs.Moments.{Leaves}
use Rattle.hub_core.specs.Foreseen.{tells_done}
use Rattle.hub_core.specs.HubState.{IsAt, IsAsBefore}
use Rattle.hub_core.specs.PageRoom.{PageRoomView, all_set, moment_in}
use Rattle.hub_model.specs.declared.entry.Condition.{Condition}
use Rattle.hub_model.specs.declared.entry.Entry.TheVariants.{Write, Read, Match, Fetch, Tick}
use Rattle.hub_model.specs.declared.entry.Tags.{Tags}
use Rattle.hub_model.specs.declared.entry.Written.{Written}
use Rattle.hub_model.specs.declared.entry.Written.TheVariants.{Done, Precondition, Full}
use Rattle.hub_model.specs.Helps.{helps_of}
use Rattle.hub_model.specs.Reply.{wrote}
use Rattle.hub_model.specs.State.{IssuedCopy, State, at_moment}
use Rattle.hub_model.specs.Step.{after, after_all, is_accepted, copy_of_read}
use Rattle.query_normal.specs.declared.key.KeyShape.{KeyShape}
use Rattle.query_normal.specs.Pages.{Page}
use Rattle.record_log.specs.declared.log_record.LogRecord.{LogRecord}
use Rattle.record_log.specs.declared.log_record.LogRecord.TheVariants.{Commit, Moment}
use Rattle.record_log.specs.Batches.{AddsFrame, IsFrameOf}
use Rattle.record_log.specs.Frames.{Frame, batch_of}
use Rattle.record_log.specs.Images.{IsLog, IsBeforeOrAfter}
use Rattle.record_log.specs.Logs.{LogView, HasAppended, LeavesAppended}
use Rattle.record_log.specs.Records.{frame_of}
use Rattle.durable_book.specs.declared.refusal.KeptRefusal.{KeptRefusal}
use Rattle.durable_book.specs.declared.refusal.KeptRefusal.TheVariants.{DiskFault, Reopen, Memory}
use Rattle.durable_book.specs.Calls.{AddsChange, AddsMoment, AddsRecord, GoesBy, GoesByWrite, HasStoredChange, HasStoredMoment, LastsRead, LastsWrite, LeavesChange, LeavesMoment, LeavesRead, LeavesRecord, LeavesWrite, RefusesRecord, StoresRead, StoresWrite, TellsWrite}
use Rattle.durable_book.specs.Images.{IsBefore, IsInRead, IsInWrite}
use Rattle.durable_book.specs.KeptHub.{KeptView, HoldsJournal, KeepsState, RefusesCall}
use Rattle.durable_book.specs.Moments.{guarded, kept_ahead, kept_behind, moment_to_keep}
use Rattle.durable_book.proofs.ImageLemmas.{leaves-commit, leaves-moment, leaves-still, leaves-weaken}
use Rattle.durable_book.proofs.JournalLemmas.{journal-commit, journal-moment, kept-commit, kept-moment, kept-whole, say-append}
use Rattle.durable_book.proofs.StateLemmas.{adds-accepted, adds-refused, fits-accepted}

-- ---- a batch of one record

-- a batch of one frame
one_frame : (empty batch : List ℕ) (f : Frame) → empty ≡ batch_of [] → AddsFrame empty batch f → batch ≡ batch_of (f ∷ [])
one_frame empty batch f none adds = adds [] none

-- once it is added the log has the record
pub adds-record : {T E : Type 0} (told : Result T E) (old new : LogView) (empty batch : List ℕ) (r : LogRecord) → empty ≡ batch_of [] → AddsFrame empty batch (frame_of r) → IsFrameOf (frame_of r) r → OnOk told (HasAppended old new batch) → OnOk told (AddsRecord old new r)
adds-record (Ok done) old new empty batch r none adds frame appended =
    (frame, λ fs log. appended fs (frame_of r ∷ []) log (one_frame empty batch (frame_of r) none adds))
adds-record (Err e) old new empty batch r none adds frame appended = appended

-- the same of a commit, by its clock
pub adds-commit : {T E : Type 0} (told : Result T E) (old new : LogView) (empty batch : List ℕ) (seconds clock : ℕ) (change : Change) → seconds ≡ clock → empty ≡ batch_of [] → AddsFrame empty batch (frame_of (Commit seconds change)) → IsFrameOf (frame_of (Commit seconds change)) (Commit seconds change)
    → OnOk told (HasAppended old new batch) → OnOk told (AddsRecord old new (Commit clock change))
adds-commit told old new empty batch seconds clock change same none adds frame appended =
    subst (λ (n : ℕ). OnOk told (AddsRecord old new (Commit n change))) same (adds-record told old new empty batch (Commit seconds change) none adds frame appended)

-- and meanwhile a crash leaves the log with it or without it
pub leaves-record : (old new : LogView) (empty batch : List ℕ) (r : LogRecord) → empty ≡ batch_of [] → AddsFrame empty batch (frame_of r) → IsFrameOf (frame_of r) r → LeavesAppended old new batch → LeavesRecord old new r
leaves-record old new empty batch r none adds frame leaves =
    inr (frame, λ fs log. leaves fs (frame_of r ∷ []) log (one_frame empty batch (frame_of r) none adds))

pub leaves-added : (old new : LogView) (empty batch : List ℕ) (seconds clock : ℕ) (change : Change) → seconds ≡ clock → empty ≡ batch_of [] → AddsFrame empty batch (frame_of (Commit seconds change)) → IsFrameOf (frame_of (Commit seconds change)) (Commit seconds change)
    → LeavesAppended old new batch → LeavesRecord old new (Commit clock change)
leaves-added old new empty batch seconds clock change same none adds frame leaves =
    subst (λ (n : ℕ). LeavesRecord old new (Commit n change)) same (leaves-record old new empty batch (Commit seconds change) none adds frame leaves)

-- why it is not added
pub refuses-fault : {T : Type 0} (told : Result T KeptRefusal) (old new : LogView) (was is : Bool) → IfErr told (λ e. (e ≡ DiskFault) × (is ≡ true) × (old.faults < new.faults)) → IfErr told (RefusesRecord old new was is)
refuses-fault (Ok done) old new was is why = why
refuses-fault (Err e) old new was is why = subst (λ (k : KeptRefusal). RefusesRecord old new was is k) (sym why.0) (why.1, why.2)

-- ---- the moment that is kept

below_is : (m n : ℕ) → nat_lt m n ≡ true → m < n
below_is m n h = grind (arith, h)

above_is : (m n : ℕ) → nat_lt m n ≡ false → n ≤ m
above_is m n h = grind (arith, h)

-- none where the clock is below the kept one, and else a minute more than the clock
abbrev IsKept : (clock kept : ℕ) → Option ℕ → Type 0
IsKept clock kept None = clock < kept
IsKept clock kept (Some later) = (kept ≤ clock) × (later ≡ clock + kept_ahead)

is_kept : (clock kept : ℕ) → IsKept clock kept (moment_to_keep clock kept)
is_kept clock kept = by (nat_lt clock kept) refl
  where
    by : (b : Bool) → nat_lt clock kept ≡ b → IsKept clock kept (if b then None else Some (clock + kept_ahead))
    by true below = below_is clock kept below
    by false above = (above_is clock kept above, refl)

pub later_is : (clock kept later : ℕ) → Some later ≡ moment_to_keep clock kept → later ≡ clock + kept_ahead
later_is clock kept later is = (subst (λ (o : Option ℕ). IsKept clock kept o) (sym is) (is_kept clock kept)).1

-- the kept moment behind a read is above its clock, and not below the one before
pub behind_above : (clock kept : ℕ) → clock < kept_behind clock kept
behind_above clock kept = by (moment_to_keep clock kept) (is_kept clock kept)
  where
    by : (o : Option ℕ) → IsKept clock kept o → clock < unwrap_or o kept
    by None below = below
    by (Some later) is = (let low : clock < later = omega (arith, is.1) in low)

pub behind_least : (clock kept : ℕ) → kept ≤ kept_behind clock kept
behind_least clock kept = by (moment_to_keep clock kept) (is_kept clock kept)
  where
    by : (o : Option ℕ) → IsKept clock kept o → kept ≤ unwrap_or o kept
    by None below = (let same : kept ≤ kept = omega arith in same)
    by (Some later) is = (let least : kept ≤ later = omega (arith, is.0, is.1) in least)

-- where none is to be kept nothing is added
pub adds-none : (log : LogView) (clock kept : ℕ) → None ≡ moment_to_keep clock kept → AddsMoment log log (moment_to_keep clock kept)
adds-none log clock kept none = subst (λ (o : Option ℕ). AddsMoment log log o) none refl

pub leaves-none : (log : LogView) (clock kept : ℕ) → None ≡ moment_to_keep clock kept → LeavesMoment log log (moment_to_keep clock kept)
leaves-none log clock kept none = subst (λ (o : Option ℕ). LeavesMoment log log o) none refl

pub kept-none : (clock kept : ℕ) → None ≡ moment_to_keep clock kept → kept ≡ kept_behind clock kept
kept-none clock kept none = ap (λ (o : Option ℕ). unwrap_or o kept) none

pub stored-none : (clock kept : ℕ) → None ≡ moment_to_keep clock kept → false ≡ is_some (moment_to_keep clock kept)
stored-none clock kept none = ap (λ (o : Option ℕ). is_some o) none

-- and else it is
pub adds-some : (old new : LogView) (clock kept later : ℕ) → Some later ≡ moment_to_keep clock kept → AddsRecord old new (Moment later) → AddsMoment old new (moment_to_keep clock kept)
adds-some old new clock kept later some adds = subst (λ (o : Option ℕ). AddsMoment old new o) some adds

pub leaves-some : (old new : LogView) (clock kept later : ℕ) → Some later ≡ moment_to_keep clock kept → LeavesRecord old new (Moment later) → LeavesMoment old new (moment_to_keep clock kept)
leaves-some old new clock kept later some leaves = subst (λ (o : Option ℕ). LeavesMoment old new o) some leaves

pub kept-some : (clock kept later : ℕ) → Some later ≡ moment_to_keep clock kept → later ≡ kept_behind clock kept
kept-some clock kept later some = ap (λ (o : Option ℕ). unwrap_or o kept) some

pub stored-some : (clock kept later : ℕ) → Some later ≡ moment_to_keep clock kept → true ≡ is_some (moment_to_keep clock kept)
stored-some clock kept later some = ap (λ (o : Option ℕ). is_some o) some

-- ---- what the disk holds

-- a disk that shows no history shows none behind a record
none_stays : (old new : LogView) (r : LogRecord) → LeavesRecord old new r → old.history ≡ None → new.history ≡ None
none_stays old new r (inl same) none = ap (λ (l : LogView). l.history) same ∙ none
none_stays old new r (inr leaves) none =
    (subst (λ (o : Option History). (fs : List Frame) → IsLog o old.gate fs → Leaves o new.history (IsBeforeOrAfter fs (frame_of r ∷ []))) none leaves.1) [] tt

-- a commit more
holds_commit : (before after : Option History) (gate next : ℕ) (journal : List Change) (kept clock : ℕ) (change : Change) → (before ≡ None → after ≡ None) → IsFrameOf (frame_of (Commit clock change)) (Commit clock change)
    → ((fs : List Frame) → IsLog before gate fs → IsLog after next (fs ++ frame_of (Commit clock change) ∷ [])) → HoldsJournal before gate journal kept → HoldsJournal after next (journal ++ change ∷ []) kept
holds_commit None after gate next journal kept clock change none frame adds holds = subst (λ (o : Option History). HoldsJournal o next (journal ++ change ∷ []) kept) (sym (none refl)) tt
holds_commit (Some h) None gate next journal kept clock change none frame adds holds = tt
holds_commit (Some h) (Some k) gate next journal kept clock change none frame adds holds = (
  holds.0 ++ frame_of (Commit clock change) ∷ [],
  holds.1 ++ Commit clock change ∷ [],
  adds holds.0 holds.2,
  say-append holds.0 (frame_of (Commit clock change) ∷ []) holds.1 (Commit clock change ∷ []) holds.3 (frame.fits, frame.says, tt),
  journal-commit holds.1 clock change ∙ ap (λ (xs : List Change). xs ++ change ∷ []) holds.4,
  kept-commit holds.1 clock change ∙ holds.5,
)

-- a moment more
holds_moment : (before after : Option History) (gate next : ℕ) (journal : List Change) (kept later : ℕ) → (before ≡ None → after ≡ None) → IsFrameOf (frame_of (Moment later)) (Moment later)
    → ((fs : List Frame) → IsLog before gate fs → IsLog after next (fs ++ frame_of (Moment later) ∷ [])) → HoldsJournal before gate journal kept → HoldsJournal after next journal later
holds_moment None after gate next journal kept later none frame adds holds = subst (λ (o : Option History). HoldsJournal o next journal later) (sym (none refl)) tt
holds_moment (Some h) None gate next journal kept later none frame adds holds = tt
holds_moment (Some h) (Some k) gate next journal kept later none frame adds holds = (
  holds.0 ++ frame_of (Moment later) ∷ [],
  holds.1 ++ Moment later ∷ [],
  adds holds.0 holds.2,
  say-append holds.0 (frame_of (Moment later) ∷ []) holds.1 (Moment later ∷ []) holds.3 (frame.fits, frame.says, tt),
  journal-moment holds.1 later ∙ holds.4,
  kept-moment holds.1 later,
)

-- ---- what lasts

-- a crash leaves the journal of a state that a store has come to
lasts : (k : KeptView) (s : State) → KeepsState k s → Leaves k.log.history k.log.history (IsBefore s.journal k.kept)
lasts k s keeps = leaves-still k.log.history k.log.gate s.journal k.kept keeps.disk

pub lasts-write : (old new : KeptView) (moment : ℕ) (change : Change) (condition : Condition) → GoesByWrite old new moment change condition → LastsWrite old new moment change condition
lasts-write old new moment change condition goes = λ s keeps. lasts new _ (goes s keeps)

pub lasts-read : (old new : KeptView) (moment : ℕ) (key : KeyShape) (tags : Tags) (at : ℕ) → GoesBy old new (Read moment key tags at) → LastsRead old new
lasts-read old new moment key tags at goes = λ s keeps. lasts new _ (goes s keeps)

-- ---- a state and the next

-- the store goes on where its disk stays, by what changes neither the journal nor the copies
keeps-on : (old new : KeptView) (s t : State) → KeepsState old s → IsAt new.hub t → t.journal ≡ s.journal → t.copies ≡ s.copies → t.horizon ≡ s.horizon → new.log ≡ old.log → new.kept ≡ old.kept → new.broken ≡ false → KeepsState new t
keeps-on old new s t keeps at journal copies horizon log kept broken = record {
  sound = broken;
  hub = at;
  disk = subst (λ (l : LogView). HoldsJournal l.history l.gate t.journal new.kept) (sym log)
      (subst (λ (n : ℕ). HoldsJournal old.log.history old.log.gate t.journal n) (sym kept)
      (subst (λ (xs : List Change). HoldsJournal old.log.history old.log.gate xs old.kept) (sym journal) keeps.disk));
  reads = subst (λ (n : ℕ). All (λ r. r.clock < n) t.copies) (sym kept) (subst (λ (rs : List IssuedCopy). All (λ r. r.clock < old.kept) rs) (sym copies) keeps.reads);
  whole = horizon ∙ keeps.whole;
}

-- by a match, a fetch and a tick
module _ (old new : KeptView) (moment : ℕ) where
  pub goes-match : (to : ℕ) → ((s : State) → IsAt old.hub s → IsAt new.hub (after old.hub.setting s (Match moment to))) → new.log ≡ old.log → new.kept ≡ old.kept → new.broken ≡ old.broken → GoesBy old new (Match moment to)
  goes-match to hub log kept broken = λ s keeps. keeps-on old new s (after old.hub.setting s (Match moment to)) keeps (hub s keeps.hub) refl refl refl log kept (broken ∙ keeps.sound)

  pub goes-fetch : ((s : State) → IsAt old.hub s → IsAt new.hub (after old.hub.setting s (Fetch moment))) → new.log ≡ old.log → new.kept ≡ old.kept → new.broken ≡ old.broken → GoesBy old new (Fetch moment)
  goes-fetch hub log kept broken = λ s keeps. keeps-on old new s (after old.hub.setting s (Fetch moment)) keeps (hub s keeps.hub) refl refl refl log kept (broken ∙ keeps.sound)

  pub goes-tick : ((s : State) → IsAt old.hub s → IsAt new.hub (after old.hub.setting s (Tick moment))) → new.log ≡ old.log → new.kept ≡ old.kept → new.broken ≡ old.broken → GoesBy old new (Tick moment)
  goes-tick hub log kept broken = λ s keeps. keeps-on old new s (after old.hub.setting s (Tick moment)) keeps (hub s keeps.hub) refl refl refl log kept (broken ∙ keeps.sound)

-- ---- a write

module _ (old new : KeptView) (moment : ℕ) (change : Change) (condition : Condition) where
  -- the hub has made it
  abbrev pub MakesWrite : Type 0
  MakesWrite = (s : State) → IsAt old.hub s → IsAt new.hub (after_all old.hub.setting s (helps_of old.hub.setting s (Write moment change condition) ++ Write moment change condition ∷ []))

  -- it is foreseen whether it is accepted
  abbrev pub Foresees : Written → Type 0
  Foresees foreseen = (s : State) → IsAt old.hub s → is_accepted old.hub.setting s change condition ≡ tells_done foreseen

  -- it is refused, and nothing is stored
  goes_refused : ((s : State) → IsAt old.hub s → is_accepted old.hub.setting s change condition ≡ false) → MakesWrite → new.log ≡ old.log → new.kept ≡ old.kept → new.broken ≡ false → GoesByWrite old new moment change condition
  goes_refused refused hub log kept broken = λ s keeps.
      let left = adds-refused old.hub.setting s moment change condition (refused s keeps.hub) in
      keeps-on old new s _ keeps (hub s keeps.hub) (left.journal ∙ append-nil s.journal) left.copies left.horizon log kept broken

  -- it is accepted, and its record is stored
  goes_accepted : (clock : ℕ) → ((s : State) → IsAt old.hub s → is_accepted old.hub.setting s change condition ≡ true) → MakesWrite → AddsRecord old.log new.log (Commit clock change) → LeavesRecord old.log new.log (Commit clock change)
      → new.kept ≡ old.kept → new.broken ≡ false → GoesByWrite old new moment change condition
  goes_accepted clock accepted hub adds leaves kept broken = λ s keeps.
      let next : State = after_all old.hub.setting s (helps_of old.hub.setting s (Write moment change condition) ++ Write moment change condition ∷ []) in
      let left = adds-accepted old.hub.setting s moment change condition (accepted s keeps.hub) in
      record {
        sound = broken;
        hub = hub s keeps.hub;
        disk = subst (λ (n : ℕ). HoldsJournal new.log.history new.log.gate next.journal n) (sym kept)
            (subst (λ (xs : List Change). HoldsJournal new.log.history new.log.gate xs old.kept) (sym left.journal)
            (holds_commit old.log.history new.log.history old.log.gate new.log.gate s.journal old.kept clock change (none_stays old.log new.log (Commit clock change) leaves) adds.0 adds.1 keeps.disk));
        reads = subst (λ (n : ℕ). All (λ (r : IssuedCopy). r.clock < n) next.copies) (sym kept) (subst (λ (rs : List IssuedCopy). All (λ (r : IssuedCopy). r.clock < old.kept) rs) (sym left.copies) keeps.reads);
        whole = left.horizon ∙ keeps.whole;
      }

  -- by what was foreseen
  pub goes-write : (foreseen : Written) → Foresees foreseen → MakesWrite → AddsChange old.log new.log change foreseen → LeavesChange old.log new.log change foreseen → new.kept ≡ old.kept → new.broken ≡ false → GoesByWrite old new moment change condition
  goes-write (Done commit before clock) foresees hub adds leaves kept broken = goes_accepted clock foresees hub adds leaves kept broken
  goes-write (Precondition found clock) foresees hub adds leaves kept broken = goes_refused foresees hub adds kept broken
  goes-write (Full bytes clock) foresees hub adds leaves kept broken = goes_refused foresees hub adds kept broken

  -- what is told is what was foreseen
  pub stores-write : (foreseen told : Written) → TellsWrite old moment change condition foreseen → TellsWrite old moment change condition told → AddsChange old.log new.log change foreseen → StoresWrite old new change told
  stores-write foreseen told first second adds = λ s at.
      let same : wrote foreseen ≡ wrote told = first s at ∙ sym (second s at) in
      let one : foreseen ≡ told = cc in
      subst (λ (w : Written). AddsChange old.log new.log change w) one adds

  -- nothing was written to the disk
  leaves_unwritten : new.log ≡ old.log → LeavesWrite old new change
  leaves_unwritten log = λ s keeps.
      subst (λ (l : LogView). Leaves old.log.history l.history (IsInWrite old.hub.setting.capacity s.journal old.kept change)) (sym log)
      (leaves-weaken old.log.history old.log.history (IsBefore s.journal old.kept) (IsInWrite old.hub.setting.capacity s.journal old.kept change) (λ image before. inl before) (leaves-still old.log.history old.log.gate s.journal old.kept keeps.disk))

  -- a record was added, or begun
  leaves_written : (clock : ℕ) → ((s : State) → IsAt old.hub s → is_accepted old.hub.setting s change condition ≡ true) → LeavesRecord old.log new.log (Commit clock change) → LeavesWrite old new change
  leaves_written clock accepted (inl same) = leaves_unwritten same
  leaves_written clock accepted (inr leaves) = λ s keeps.
      let g = old.hub.setting in
      let fits = fits-accepted g s 0 change condition (accepted s keeps.hub) in
      let sum = kept-whole s.journal change s.horizon keeps.whole in
      leaves-commit g.capacity old.log.history new.log.history old.log.gate s.journal old.kept clock change (frame_of (Commit clock change)) leaves.0 leaves.1 keeps.disk (omega (arith, fits, sum))

  pub leaves-write : (foreseen : Written) → Foresees foreseen → LeavesChange old.log new.log change foreseen → LeavesWrite old new change
  leaves-write (Done commit before clock) foresees leaves = leaves_written clock foresees leaves
  leaves-write (Precondition found clock) foresees leaves = leaves_unwritten leaves
  leaves-write (Full bytes clock) foresees leaves = leaves_unwritten leaves

  -- memory ended behind the record, or behind none
  pub refuses-write : (foreseen : Written) (stored : Bool) → stored ≡ tells_done foreseen → old.broken ≡ false → IsAsBefore old.hub new.hub → AddsChange old.log new.log change foreseen → new.kept ≡ old.kept → new.broken ≡ stored → RefusesCall old new (HasStoredChange old new change) Memory
  refuses-write (Done commit before clock) stored told sound hub adds kept broken = (sound, hub, inr (broken ∙ told, (clock, adds)))
  refuses-write (Precondition found clock) stored told sound hub adds kept broken = (sound, hub, inl (record { log = adds; kept = kept; broken = broken ∙ told ∙ sym sound }))
  refuses-write (Full bytes clock) stored told sound hub adds kept broken = (sound, hub, inl (record { log = adds; kept = kept; broken = broken ∙ told ∙ sym sound }))

-- of a broken store nothing is said
pub broken-write : (old new : KeptView) (change : Change) → old.broken ≡ true → LeavesWrite old new change
broken-write old new change broken = λ s keeps. (let sound = keeps.sound in absurd cc)

-- ---- a read

module _ (old new : KeptView) (moment clock : ℕ) (clock_is : clock ≡ max old.hub.clock moment) where
  -- the disk holds the journal with the moment that is kept behind it
  holds_read : (s : State) (o : Option ℕ) → AddsMoment old.log new.log o → LeavesMoment old.log new.log o → KeepsState old s → HoldsJournal new.log.history new.log.gate s.journal (unwrap_or o old.kept)
  holds_read s None adds leaves keeps = subst (λ (l : LogView). HoldsJournal l.history l.gate s.journal old.kept) (sym adds) keeps.disk
  holds_read s (Some later) adds leaves keeps =
      holds_moment old.log.history new.log.history old.log.gate new.log.gate s.journal old.kept later (none_stays old.log new.log (Moment later) leaves) adds.0 adds.1 keeps.disk

  -- the kept moment is above the clocks of the copies so far
  reads_later : (copies : List IssuedCopy) → old.kept ≤ new.kept → All (λ r. r.clock < old.kept) copies → All (λ r. r.clock < new.kept) copies
  reads_later copies rises all = λ k d low. (let below = all k d low in omega (arith, rises, below))

  pub later-read : new.kept ≡ kept_behind clock old.kept → max old.hub.clock moment < new.kept
  later-read kept = (let above = behind_above clock old.kept in omega (arith, above, kept, clock_is))

  pub least-read : new.kept ≡ kept_behind clock old.kept → old.kept ≤ new.kept
  least-read kept = (let least = behind_least clock old.kept in omega (arith, least, kept))

  pub stores-read : AddsMoment old.log new.log (moment_to_keep clock old.kept) → new.kept ≡ kept_behind clock old.kept → StoresRead old new moment
  stores-read adds kept = record {
    log = subst (λ (n : ℕ). AddsMoment old.log new.log (moment_to_keep n old.kept)) clock_is adds;
    kept = kept ∙ ap (λ (n : ℕ). kept_behind n old.kept) clock_is;
  }

  pub goes-read : (key : KeyShape) (tags : Tags) (at : ℕ) → ((s : State) → IsAt old.hub s → IsAt new.hub (after old.hub.setting s (Read moment key tags at))) → AddsMoment old.log new.log (moment_to_keep clock old.kept)
      → LeavesMoment old.log new.log (moment_to_keep clock old.kept) → new.kept ≡ kept_behind clock old.kept → new.broken ≡ false → GoesBy old new (Read moment key tags at)
  goes-read key tags at hub adds leaves kept broken = λ s keeps.
      let copy : IssuedCopy = copy_of_read old.hub.setting (at_moment s moment) key at in
      let time = keeps.hub.time.clock in
      let later = later-read kept in
      let below : max s.clock moment < new.kept = omega (arith, time, later) in
      record {
        sound = broken;
        hub = hub s keeps.hub;
        disk = subst (λ (n : ℕ). HoldsJournal new.log.history new.log.gate s.journal n) (sym kept) (holds_read s (moment_to_keep clock old.kept) adds leaves keeps);
        reads = All-append (λ (r : IssuedCopy). r.clock < new.kept) s.copies (copy ∷ []) (reads_later s.copies (least-read kept) keeps.reads)
            (All-cons (λ (r : IssuedCopy). r.clock < new.kept) copy [] below (All-nil (λ (r : IssuedCopy). r.clock < new.kept)));
        whole = keeps.whole;
      }

  -- nothing was written to the disk
  leaves_unkept : new.log ≡ old.log → LeavesRead old new
  leaves_unkept log = λ s keeps.
      subst (λ (l : LogView). Leaves old.log.history l.history (IsInRead s.journal old.kept)) (sym log)
      (leaves-weaken old.log.history old.log.history (IsBefore s.journal old.kept) (IsInRead s.journal old.kept) (λ image before. inl before) (leaves-still old.log.history old.log.gate s.journal old.kept keeps.disk))

  pub leaves-read : LeavesMoment old.log new.log (moment_to_keep clock old.kept) → LeavesRead old new
  leaves-read leaves = by (moment_to_keep clock old.kept) (is_kept clock old.kept) leaves
    where
      by : (o : Option ℕ) → IsKept clock old.kept o → LeavesMoment old.log new.log o → LeavesRead old new
      by None below same = leaves_unkept same
      by (Some later) above (inl same) = leaves_unkept same
      by (Some later) above (inr some) = λ s keeps.
          leaves-moment old.log.history new.log.history old.log.gate s.journal old.kept later (frame_of (Moment later)) some.0 some.1 keeps.disk (omega (arith, above.0, above.1))

  -- memory ended behind the record, or behind none
  pub refuses-read : (stored : Bool) → stored ≡ is_some (moment_to_keep clock old.kept) → old.broken ≡ false → IsAsBefore old.hub new.hub → AddsMoment old.log new.log (moment_to_keep clock old.kept)
      → new.kept ≡ kept_behind clock old.kept → new.broken ≡ stored → RefusesCall old new (HasStoredMoment old new moment) Memory
  refuses-read stored told sound hub adds kept broken =
      by (moment_to_keep clock old.kept) (is_kept clock old.kept) told adds kept (stores-read adds kept)
    where
      by : (o : Option ℕ) → IsKept clock old.kept o → stored ≡ is_some o → AddsMoment old.log new.log o → new.kept ≡ unwrap_or o old.kept → StoresRead old new moment → RefusesCall old new (HasStoredMoment old new moment) Memory
      by None below told adds kept stores = (sound, hub, inl (record { log = adds; kept = kept; broken = broken ∙ told ∙ sym sound }))
      by (Some later) above told adds kept stores =
          let least : old.kept ≤ max old.hub.clock moment = omega (arith, above.0, clock_is) in
          (sound, hub, inr (broken ∙ told, (least, stores)))

-- of a broken store nothing is said
pub broken-read : (old new : KeptView) → old.broken ≡ true → LeavesRead old new
broken-read old new broken = λ s keeps. (let sound = keeps.sound in absurd cc)

-- ---- refusals

-- where the record is not stored
pub refuses-record : (old before : KeptView) (log : LogView) (kept : ℕ) (broken : Bool) (IsStored : Type 0) (e : KeptRefusal) → before ≡ old → before.broken ≡ false → kept ≡ before.kept → RefusesRecord before.log log before.broken broken e
    → RefusesCall old (record before { log = log; kept = kept; broken = broken }) IsStored e
refuses-record old before log kept broken IsStored e same sound stays why =
    subst (λ (n : ℕ). RefusesCall old (record before { log = log; kept = n; broken = broken }) IsStored e) (sym stays)
    (subst (λ (k : KeptView). RefusesCall k (record before { log = log; broken = broken }) IsStored e) same (by e why))
  where
    by : (e : KeptRefusal) → RefusesRecord before.log log before.broken broken e → RefusesCall before (record before { log = log; broken = broken }) IsStored e
    by DiskFault why = (sound, why.1, ap (λ (b : Bool). record before { log = log; broken = b }) why.0)
    by Reopen why = absurd why
    by Memory why = (sound, record { rest = refl; sets = record { begun = refl; seen = λ n seen. seen } }, inl (record { log = why.0; kept = refl; broken = why.1 }))

-- at the exit of a `?`
pub at-exit : {T : Type 0} (told : Result T KeptRefusal) (Why : KeptRefusal → Type 0) (e : KeptRefusal) → IsErrAnd told (λ y. y ≡ e) → Why e → IfErr told Why
at-exit (Ok done) Why e is why = absurd is
at-exit (Err y) Why e is why = subst (λ (k : KeptRefusal). Why k) (sym is) why

-- ---- a page

-- the page in a buffer, as a store with a guard tells it
pub covers : (guard : ℕ) (before after : PageRoomView) (page : Page) → after ≡ record before { page = option_map (guarded guard) before.page } → before.page ≡ Some page → after.page ≡ Some (guarded guard page)
covers guard before after page is some = ap (λ (r : PageRoomView). r.page) is ∙ ap (option_map (guarded guard)) some

-- below the guard every bit is set
pub covers-below : (guard : ℕ) (room : PageRoomView) → moment_in room < guard → option_map all_set room.page ≡ option_map (guarded guard) room.page
covers-below guard room below = by room.page below
  where
    at_most : (m n : ℕ) → m < n → nat_lt m n ≡ true
    at_most m n h = grind (arith, h)

    by : (o : Option Page) → unwrap_or (option_map (λ (page : Page). page.moment) o) 0 < guard → option_map all_set o ≡ option_map (guarded guard) o
    by None below = refl
    by (Some page) below = sym (ap (λ (b : Bool). Some (if b then all_set page else page)) (at_most page.moment guard below))

-- and from it on none is
pub covers-above : (guard : ℕ) (room : PageRoomView) → guard ≤ moment_in room → room.page ≡ option_map (guarded guard) room.page
covers-above guard room above = by room.page above
  where
    not_below : (m n : ℕ) → n ≤ m → nat_lt m n ≡ false
    not_below m n h = grind (arith, h)

    by : (o : Option Page) → guard ≤ unwrap_or (option_map (λ (page : Page). page.moment) o) 0 → o ≡ option_map (guarded guard) o
    by None above = refl
    by (Some page) above = sym (ap (λ (b : Bool). Some (if b then all_set page else page)) (not_below page.moment guard above))
