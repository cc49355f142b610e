-- What the images of a store stand for while a record is added to its log.
use Rattle.std.proofs.Common.{◌≡◌, ℕ, ◌≤◌, List, [], ◌∷◌, ◌++◌, length, Option, Some, None, refl, sym, ap, ◌∙◌, subst, inl, inr, arith}
use Rattle.commit_book.specs.declared.change.Change.{Change}
use Rattle.std.proofs.lemmas.List.{ext_get_or}
use Rattle.disks.specs.Devices.{Device, MayLeave, at_rest}
use Rattle.disks.specs.Histories.{History, device_of}
use Rattle.disks.specs.Moments.{EachImage, Leaves}
use Rattle.disks.proofs.Chain.{each_weaken}
use Rattle.record_log.specs.declared.log_record.LogRecord.{LogRecord}
use Rattle.record_log.specs.declared.log_record.LogRecord.TheVariants.{Commit, Moment}
use Rattle.record_log.specs.Batches.{IsFrameOf}
use Rattle.record_log.specs.Frames.{Frame, closed_gate, front_of}
use Rattle.record_log.specs.Images.{StandsFor, IsBeforeOrAfter, IsLog}
use Rattle.record_log.specs.Opened.{Say}
use Rattle.durable_book.specs.Images.{IsImageOf, IsBefore, IsInRead, IsInWrite}
use Rattle.durable_book.specs.Journals.{journal_of, last_kept, costs_of}
use Rattle.durable_book.specs.KeptHub.{HoldsJournal}
use Rattle.durable_book.proofs.JournalLemmas.{journal-commit, journal-moment, kept-commit, kept-moment, say-append}

-- an image that stands for frames stands for the journal of their records
stands : (image : List ℕ) (fs behind : List Frame) (rs waiting : List LogRecord) (journal : List Change) (kept : ℕ) → StandsFor image fs behind → Say fs rs → Say behind waiting → journal_of rs ≡ journal → last_kept rs ≡ kept → IsImageOf image journal kept waiting
stands image fs behind rs waiting journal kept stand says waits journal_is kept_is = record {
  frames = fs;
  behind = behind;
  records = rs;
  image_is = inl stand;
  says = says;
  waits = waits;
  journal_is = journal_is;
  kept_is = kept_is;
}

-- what follows from a property of images holds at any moment where the property does
pub leaves-weaken : (before after : Option History) (P Q : List ℕ → Type 0) → ((image : List ℕ) → P image → Q image) → Leaves before after P → Leaves before after Q
leaves-weaken None after P Q w l = l
leaves-weaken (Some h) after P Q w l = (l.0, l.1, each_weaken h.start h.calls l.0 P Q w l.2)

-- while a commit is added
commit_image : (capacity : ℕ) (image : List ℕ) (fs : List Frame) (f : Frame) (rs : List LogRecord) (journal : List Change) (kept clock : ℕ) (change : Change) → Say fs rs → IsFrameOf f (Commit clock change) → journal_of rs ≡ journal → last_kept rs ≡ kept
    → costs_of (journal ++ change ∷ []) ≤ capacity → IsBeforeOrAfter fs (f ∷ []) image → IsInWrite capacity journal kept change image
commit_image capacity image fs f rs journal kept clock change says frame journal_is kept_is fits (inl before) = inl (stands image fs [] rs [] journal kept before says tt journal_is kept_is)
commit_image capacity image fs f rs journal kept clock change says frame journal_is kept_is fits (inr (inl waits)) =
    inr (inl (clock, stands image fs (f ∷ []) rs (Commit clock change ∷ []) journal kept waits says (frame.fits, frame.says, tt) journal_is kept_is, fits))
commit_image capacity image fs f rs journal kept clock change says frame journal_is kept_is fits (inr (inr after)) =
    inr (inr (stands image (fs ++ f ∷ []) [] (rs ++ Commit clock change ∷ []) [] (journal ++ change ∷ []) kept after (say-append fs (f ∷ []) rs (Commit clock change ∷ []) says (frame.fits, frame.says, tt)) tt
    (journal-commit rs clock change ∙ ap (λ (xs : List Change). xs ++ change ∷ []) journal_is) (kept-commit rs clock change ∙ kept_is)))

-- while a moment is added
moment_image : (image : List ℕ) (fs : List Frame) (f : Frame) (rs : List LogRecord) (journal : List Change) (kept later : ℕ) → Say fs rs → IsFrameOf f (Moment later) → journal_of rs ≡ journal → last_kept rs ≡ kept
    → kept ≤ later → IsBeforeOrAfter fs (f ∷ []) image → IsInRead journal kept image
moment_image image fs f rs journal kept later says frame journal_is kept_is above (inl before) = inl (stands image fs [] rs [] journal kept before says tt journal_is kept_is)
moment_image image fs f rs journal kept later says frame journal_is kept_is above (inr (inl waits)) =
    inr (inl (later, above, stands image fs (f ∷ []) rs (Moment later ∷ []) journal kept waits says (frame.fits, frame.says, tt) journal_is kept_is))
moment_image image fs f rs journal kept later says frame journal_is kept_is above (inr (inr after)) =
    inr (inr (
      later,
      above,
      stands image (fs ++ f ∷ []) [] (rs ++ Moment later ∷ []) [] journal later after (say-append fs (f ∷ []) rs (Moment later ∷ []) says (frame.fits, frame.says, tt)) tt
          (journal-moment rs later ∙ journal_is) (kept-moment rs later),
    ))

-- a log that adds a batch of one frame
abbrev pub AddsOne : Option History → ℕ → Option History → ℕ → Frame → Type 0
AddsOne before gate after next f = (fs : List Frame) → IsLog before gate fs → IsLog after next (fs ++ f ∷ [])

abbrev pub LeavesOne : Option History → ℕ → Option History → Frame → Type 0
LeavesOne before gate after f = (fs : List Frame) → IsLog before gate fs → Leaves before after (IsBeforeOrAfter fs (f ∷ []))

-- a commit more is held
pub holds-commit : (before after : Option History) (gate next : ℕ) (journal : List Change) (kept clock : ℕ) (change : Change) (f : Frame) → LeavesOne before gate after f → IsFrameOf f (Commit clock change) → AddsOne before gate after next f → HoldsJournal before gate journal kept
    → HoldsJournal after next (journal ++ change ∷ []) kept
holds-commit None after gate next journal kept clock change f leaves frame adds holds =
    subst (λ (o : Option History). HoldsJournal o next (journal ++ change ∷ []) kept) (sym (leaves [] tt)) tt
holds-commit (Some h) None gate next journal kept clock change f leaves frame adds holds = tt
holds-commit (Some h) (Some k) gate next journal kept clock change f leaves frame adds holds = (
  holds.0 ++ f ∷ [],
  holds.1 ++ Commit clock change ∷ [],
  adds holds.0 holds.2,
  say-append holds.0 (f ∷ []) holds.1 (Commit clock change ∷ []) holds.3 (frame.fits, frame.says, tt),
  journal-commit holds.1 clock change ∙ ap (λ (xs : List Change). xs ++ change ∷ []) holds.4,
  kept-commit holds.1 clock change ∙ holds.5,
)

-- a moment more is held
pub holds-moment : (before after : Option History) (gate next : ℕ) (journal : List Change) (kept later : ℕ) (f : Frame) → LeavesOne before gate after f → IsFrameOf f (Moment later) → AddsOne before gate after next f → HoldsJournal before gate journal kept
    → HoldsJournal after next journal later
holds-moment None after gate next journal kept later f leaves frame adds holds =
    subst (λ (o : Option History). HoldsJournal o next journal later) (sym (leaves [] tt)) tt
holds-moment (Some h) None gate next journal kept later f leaves frame adds holds = tt
holds-moment (Some h) (Some k) gate next journal kept later f leaves frame adds holds = (
  holds.0 ++ f ∷ [],
  holds.1 ++ Moment later ∷ [],
  adds holds.0 holds.2,
  say-append holds.0 (f ∷ []) holds.1 (Moment later ∷ []) holds.3 (frame.fits, frame.says, tt),
  journal-moment holds.1 later ∙ holds.4,
  kept-moment holds.1 later,
)

-- at any moment of a commit's addition
pub leaves-commit : (capacity : ℕ) (before after : Option History) (gate : ℕ) (journal : List Change) (kept clock : ℕ) (change : Change) (f : Frame) → IsFrameOf f (Commit clock change) → LeavesOne before gate after f → HoldsJournal before gate journal kept
    → costs_of (journal ++ change ∷ []) ≤ capacity → Leaves before after (IsInWrite capacity journal kept change)
leaves-commit capacity None after gate journal kept clock change f frame leaves holds fits = leaves [] tt
leaves-commit capacity (Some h) after gate journal kept clock change f frame leaves holds fits =
    leaves-weaken (Some h) after (IsBeforeOrAfter holds.0 (f ∷ [])) (IsInWrite capacity journal kept change)
    (λ image before_or_after. commit_image capacity image holds.0 f holds.1 journal kept clock change holds.3 frame holds.4 holds.5 fits before_or_after)
    (leaves holds.0 holds.2)

-- at any moment of a moment's addition
pub leaves-moment : (before after : Option History) (gate : ℕ) (journal : List Change) (kept later : ℕ) (f : Frame) → IsFrameOf f (Moment later) → LeavesOne before gate after f → HoldsJournal before gate journal kept
    → kept ≤ later → Leaves before after (IsInRead journal kept)
leaves-moment None after gate journal kept later f frame leaves holds above = leaves [] tt
leaves-moment (Some h) after gate journal kept later f frame leaves holds above =
    leaves-weaken (Some h) after (IsBeforeOrAfter holds.0 (f ∷ [])) (IsInRead journal kept)
    (λ image before_or_after. moment_image image holds.0 f holds.1 journal kept later holds.3 frame holds.4 holds.5 above before_or_after)
    (leaves holds.0 holds.2)

-- ---- where nothing is written

-- a disk at rest leaves what reads give
rest-image : (bytes image : List ℕ) → MayLeave (at_rest bytes) image → image ≡ bytes
rest-image bytes image may =
    let size : length image ≡ length bytes = omega (arith, may.no_shorter, may.no_longer) in
    ext_get_or 0 image bytes size (λ i low. may.same i (omega (arith, low, size)) refl)

-- a log with a closed gate stands for its journal
rest-before : (h : History) (gate : ℕ) (journal : List Change) (kept : ℕ) → HoldsJournal (Some h) gate journal kept → EachImage (device_of h) (IsBefore journal kept)
rest-before h gate journal kept holds =
    let log : IsLog (Some h) gate holds.0 = holds.2 in
    let P : Device → Type 0 = λ d. EachImage d (IsBefore journal kept) in
    subst P (sym log.1) (λ image may.
    stands image holds.0 [] holds.1 [] journal kept
    (record { gate = closed_gate; behind = log.0; is = rest-image (front_of holds.0 ++ closed_gate ∷ log.0) image may; shut = omega arith; waits = inl (refl, refl) })
    holds.3 tt holds.4 holds.5)

-- so does one at any moment of a call that writes nothing
pub leaves-still : (history : Option History) (gate : ℕ) (journal : List Change) (kept : ℕ) → HoldsJournal history gate journal kept → Leaves history history (IsBefore journal kept)
leaves-still None gate journal kept holds = refl
leaves-still (Some h) gate journal kept holds = ([], refl, rest-before h gate journal kept holds)
