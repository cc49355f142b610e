-- Opening a log, from step to step.
use Rattle.std.proofs.Common.{◌≡◌, ◌⊎◌, ℕ, ◌+◌, ◌<◌, ◌≤◌, List, [], ◌∷◌, ◌++◌, length, get_or, Option, Some, None, Result, Ok, Err, refl, ap, sym, ◌∙◌, subst, inl, inr, append_assoc, arith, length-append}
use Rattle.std.proofs.lemmas.List.{append-nil}
use Rattle.disks.specs.Devices.{Synced, at_rest}
use Rattle.disks.specs.Histories.{History, DiskView, device_of}
use Rattle.disks.proofs.Chain.{leaves_both, each_weaken}
use Rattle.record_log.specs.declared.log_record.LogRecord.{LogRecord}
use Rattle.record_log.specs.declared.refusal.LogRefusal.{LogRefusal}
use Rattle.record_log.specs.declared.refusal.LogRefusal.TheVariants.{BadMark, BadRecord, DiskFault, Memory}
use Rattle.record_log.specs.Frames.{Frame, Fits, closed_gate, opened, front_of}
use Rattle.record_log.specs.Images.{IsReady, new_log}
use Rattle.record_log.specs.Logs.{LogView}
use Rattle.record_log.specs.Opened.{Say, HaveFrames, HasOpened, HasBadRecord, RefusesLog, IsRepair, LeavesOpening}
use Rattle.record_log.specs.Openings.{IsReading, IsStart, LeavesBegun, LeavesStart, IsClosing, LeavesClosing, HasBegun, HasBadMark, Finds, synced}
use Rattle.record_log.specs.Records.{record_of}
use Rattle.record_log.proofs.StandsLemmas.{front_append}

-- these records were read so far
abbrev pub IsOpening : Option History → Option History → ℕ → List LogRecord → Type 0
IsOpening None after place rs = after ≡ None
IsOpening (Some h) after place rs = (fs : List Frame) × (rest : List ℕ) × Say fs rs × HaveFrames (device_of h).seen fs rest × IsReading after place fs rest

-- a step of reading, whatever stands there
abbrev pub Steps : (old new : LogView) → Result (Option LogRecord) LogRefusal → Type 0
Steps old new result = (fs : List Frame) (rest : List ℕ) → IsReading old.history old.gate fs rest → Finds old new fs rest result

-- and what it leaves
abbrev pub StepLeaves : (old new : LogView) → Type 0
StepLeaves old new = (fs : List Frame) (rest : List ℕ) → IsReading old.history old.gate fs rest → LeavesClosing old.history new.history fs rest

-- no record was read yet
pub open_none : (before after : Option History) (place : ℕ) → HasBegun before after place → IsOpening before after place []
open_none None after place b = b
open_none (Some h) after place b = ([], b.0, tt, b.2, b.1)

-- a log with one frame more
front_more : (fs : List Frame) (f : Frame) (more : List ℕ) → front_of fs ++ (opened f ++ more) ≡ front_of (fs ++ f ∷ []) ++ more
front_more fs f more =
    sym (append_assoc (front_of fs) (opened f) more)
    ∙ ap (λ (x : List ℕ). x ++ more) (ap (λ (x : List ℕ). front_of fs ++ x) (sym (append-nil (opened f))) ∙ sym (front_append fs (f ∷ [])))

-- the records of frames, with one more
say_more : (fs : List Frame) (rs : List LogRecord) (f : Frame) (r : LogRecord) → Fits f → record_of f ≡ Some r → Say fs rs → Say (fs ++ f ∷ []) (rs ++ r ∷ [])
say_more [] [] f r fits says s = (fits, says, tt)
say_more [] (q ∷ rs) f r fits says s = absurd s
say_more (e ∷ fs) [] f r fits says s = absurd s
say_more (e ∷ fs) (q ∷ rs) f r fits says s = (s.0, s.1, say_more fs rs f r fits says s.2)

-- the next place is behind the record
reading_more : (o : Option History) (place next : ℕ) (fs : List Frame) (rest more : List ℕ) (f : Frame) → IsReading o place fs rest → rest ≡ opened f ++ more → next ≡ place + length (opened f) → IsReading o next (fs ++ f ∷ []) more
reading_more None place next fs rest more f r e n = absurd r
reading_more (Some h) place next fs rest more f r e n =
    let size : length (front_of (fs ++ f ∷ []) ++ more) ≡ length (front_of fs ++ (opened f ++ more)) = ap (λ (x : List ℕ). length x) (sym (front_more fs f more)) in (
      r.0 ∙ ap (λ (x : List ℕ). at_rest (front_of fs ++ x)) e ∙ ap at_rest (front_more fs f more),
      omega (arith, n, r.1, size, length-append (front_of (fs ++ f ∷ [])) more, length-append (front_of fs) (opened f ++ more), length-append (opened f) more),
    )

-- the frames that were there, with one more read
frames_more : (bytes : List ℕ) (fs : List Frame) (f : Frame) (rest more : List ℕ) → rest ≡ opened f ++ more → HaveFrames bytes fs rest → HaveFrames bytes (fs ++ f ∷ []) more
frames_more bytes fs f rest more e (inl is) = inl (is.0 ∙ ap (λ (x : List ℕ). front_of fs ++ x) e ∙ front_more fs f more, is.1)
frames_more bytes fs f rest more e (inr new) = inr (new.0, sym (front_more fs f more) ∙ ap (λ (x : List ℕ). front_of fs ++ x) (sym e) ∙ new.1)

-- one record more was read
pub open_more : (before : Option History) (old new : LogView) (rs : List LogRecord) (r : LogRecord) → IsOpening before old.history old.gate rs → Steps old new (Ok (Some r)) → (old.history ≡ None → new.history ≡ None)
    → IsOpening before new.history new.gate (rs ++ r ∷ [])
open_more None old new rs r o s n = n o
open_more (Some h) old new rs r o s n =
    let found = s o.0 o.1 o.4 in
    let P : Option History → Type 0 = λ m. IsReading m new.gate (o.0 ++ found.0 ∷ []) found.1 in (
      o.0 ++ found.0 ∷ [],
      found.1,
      say_more o.0 rs found.0 r found.2 found.3 o.2,
      frames_more (device_of h).seen o.0 found.0 o.1 found.1 found.4 o.3,
      subst P (sym found.5) (reading_more old.history old.gate new.gate o.0 o.1 found.1 found.0 o.4 found.4 found.6),
    )

-- and a crash leaves what it left before
pub start_more : (before : Option History) (old new : LogView) (rs : List LogRecord) (r : LogRecord) → IsOpening before old.history old.gate rs → Steps old new (Ok (Some r)) → (old.history ≡ None → new.history ≡ None)
    → LeavesBegun before old.history → LeavesBegun before new.history
start_more None old new rs r o s n l = n l
start_more (Some h) old new rs r o s n l =
    let found = s o.0 o.1 o.4 in
    let P : Option History → Type 0 = λ m. LeavesBegun (Some h) m in subst P (sym found.5) l

-- the log is read to its end
pub open_end : (before : Option History) (old new : LogView) (rs : List LogRecord) → IsOpening before old.history old.gate rs → Steps old new (Ok None) → (old.history ≡ None → new.history ≡ None) → HasOpened before new rs
open_end None old new rs o s n = n o
open_end (Some h) old new rs o s n =
    let found = s o.0 o.1 o.4 in
    let P : List ℕ → Type 0 = λ x. HaveFrames (device_of h).seen o.0 x in
    (o.0, found.0, found.1, o.2, subst P found.2 o.3, found.3, found.4)

pub ready_end : (before : Option History) (old new : LogView) (rs : List LogRecord) → IsOpening before old.history old.gate rs → Steps old new (Ok None) → (old.history ≡ None → new.history ≡ None) → IsReady new.history new.gate
ready_end None old new rs o s n = let P : Option History → Type 0 = λ m. IsReady m new.gate in subst P (sym (n o)) ([], tt)
ready_end (Some h) old new rs o s n = let found = s o.0 o.1 o.4 in (o.0, found.4)

-- bytes at a gate of a new log: it is closed
new_closed : (fs : List Frame) (gate : ℕ) (behind : List ℕ) → front_of fs ++ gate ∷ behind ≡ new_log → gate ≡ closed_gate
new_closed [] gate behind e = ap (λ (x : List ℕ). get_or x 4 0) e
new_closed (f ∷ fs) gate behind e = absurd (let k : 1 ≡ 0 = ap (λ (x : List ℕ). get_or x 4 0) e in omega (arith, k))

-- what a gate that is closed may be is what was there, or a repair
closing_is : (h : History) (fs : List Frame) (rs : List LogRecord) (rest image : List ℕ) → Say fs rs → HaveFrames (device_of h).seen fs rest → IsClosing fs rest image → IsStart h image ⊎ IsRepair h image
closing_is h fs rs rest image s (inl is) (inl same) = inl (inl (same ∙ sym is.0))
closing_is h fs rs rest image s (inr new) (inl same) =
    inl (inr (new.0, (let k : length image ≡ 5 = ap (λ (x : List ℕ). length x) (same ∙ new.1) in omega (arith, k))))
closing_is h fs rs rest image s (inl is) (inr c) =
    inr (fs, rs, c.0, c.1, c.2, c.3, s, is.0 ∙ ap (λ (x : List ℕ). front_of fs ++ x) c.4, c.5, c.6, c.7, is.1)
closing_is h fs rs rest image s (inr new) (inr c) =
    absurd (c.6 (new_closed fs c.0 c.2 (ap (λ (x : List ℕ). front_of fs ++ x) (sym c.4) ∙ new.1)))

-- what a crash leaves while a log is opened, a step on
pub leaves_more : (before : Option History) (old new : LogView) (rs : List LogRecord) → IsOpening before old.history old.gate rs → StepLeaves old new → (old.history ≡ None → new.history ≡ None) → LeavesBegun before old.history → LeavesOpening before new.history
leaves_more None old new rs o s n l = n o
leaves_more (Some h) old new rs o s n l =
    inr (leaves_both (Some (synced h)) old.history new.history (IsStart h) (IsClosing o.0 o.1) (λ image. IsStart h image ⊎ IsRepair h image)
    (λ image p. inl p) (λ image c. closing_is h o.0 rs o.1 image o.2 o.3 c) l (s o.0 o.1 o.4))

-- nothing but the beginning came
pub leaves_begun : (before after : Option History) → LeavesBegun before after → LeavesOpening before after
leaves_begun None after l = l
leaves_begun (Some h) after l =
    inr (l.0, l.1, each_weaken h.start (Synced ∷ h.calls) l.0 (IsStart h) (λ image. IsStart h image ⊎ IsRepair h image) (λ image p. inl p) l.2)

-- nor that
pub leaves_start : (before after : Option History) → LeavesStart before after → LeavesOpening before after
leaves_start None after l = l
leaves_start (Some h) after (inl same) = inl same
leaves_start (Some h) after (inr l) = leaves_begun (Some h) after l

-- where reading has come to
place_is : (o : Option History) (place : ℕ) (fs : List Frame) (rest : List ℕ) → IsReading o place fs rest → place ≡ length (front_of fs)
place_is None place fs rest r = absurd r
place_is (Some h) place fs rest r = r.1

-- a gate that is missing, or a record that is none
pub open_bad : (before : Option History) (old new : LogView) (rs : List LogRecord) (place : ℕ) → IsOpening before old.history old.gate rs → Steps old new (Err (BadRecord place)) → HasBadRecord before place
open_bad None old new rs place o s = tt
open_bad (Some h) old new rs place o s =
    let found = s o.0 o.1 o.4 in
    (o.0, rs, o.1, o.2, o.3, found.0 ∙ place_is old.history old.gate o.0 o.1 o.4, found.1)

-- the mark is not looked for again
bad_mark_next : (before : Option History) (old new : LogView) (rs : List LogRecord) → IsOpening before old.history old.gate rs → Steps old new (Err BadMark) → HasBadMark before
bad_mark_next None old new rs o s = tt
bad_mark_next (Some h) old new rs o s = absurd (s o.0 o.1 o.4)

-- why a step of reading refuses the log
pub refused_next : (before after : DiskView) (old new : LogView) (rs : List LogRecord) (refusal : LogRefusal) → IsOpening before.history old.history old.gate rs → Steps old new (Err refusal)
    → (refusal ≡ DiskFault → old.faults < new.faults) → before.faults ≤ old.faults → after.faults ≡ new.faults → RefusesLog before after refusal
refused_next before after old new rs BadMark o s f low same = bad_mark_next before.history old new rs o s
refused_next before after old new rs (BadRecord place) o s f low same = open_bad before.history old new rs place o s
refused_next before after old new rs DiskFault o s f low same = omega (arith, f refl, low, same)
refused_next before after old new rs Memory o s f low same = tt
