-- An image stands for one list of frames, and one sync may serve two batches.
use Rattle.std.proofs.Common.{◌≡◌, ◌≢◌, ℕ, suc, ◌+◌, ◌<◌, ◌≤◌, false, List, [], ◌∷◌, ◌++◌, length, get_or, drop, Option, Some, None, refl, ap, sym, ◌∙◌, append_assoc, arith, length-append, inl, inr}
use Rattle.std.proofs.lemmas.List.{get_or_append_left, get_or-drop, get_or-append-add, length-drop, append_cancel_left}
use Rattle.std.proofs.lemmas.Bool.Decides.{nat_tests}
use Rattle.std.specs.List.{list_any}
use Rattle.disks.specs.Ranges.{is_in}
use Rattle.disks.specs.Devices.{MayLeave}
use Rattle.record_log.specs.declared.log_record.LogRecord.{LogRecord}
use Rattle.record_log.specs.Frames.{Frame, Fits, AllFit, mark, open_gate, closed_gate, head_text, opened, all_opened, front_of, batch_of}
use Rattle.record_log.specs.Images.{StandsFor, IsBeforeOrAfter}
use Rattle.record_log.specs.Opened.{Say}
use Rattle.record_log.specs.Openings.{IsBad}
use Rattle.record_log.specs.Records.{record_of}
use Rattle.record_log.proofs.HeadLemmas.{frame_is}
use Rattle.record_log.proofs.ImageLemmas.{begins_as, but_first}
use Rattle.record_log.proofs.StandsLemmas.{stands_any}

-- bytes that begin with a frame begin with no other
same_frame : (f other : Frame) (more other_more : List ℕ) → Fits f → Fits other → opened f ++ more ≡ opened other ++ other_more → (f ≡ other) × (more ≡ other_more)
same_frame f other more other_more fits other_fits e =
    let parts : opened f ++ more ≡ head_text open_gate other.kind other.clock (length other.body) ++ (other.body ++ other_more) =
    e ∙ append_assoc (head_text open_gate other.kind other.clock (length other.body)) other.body other_more in
    let same : f ≡ other = frame_is f more (opened f ++ more) other.body other_more other.kind other.clock fits other_fits.clock other_fits.size refl parts in
    (same, append_cancel_left (opened other) more other_more (ap (λ (x : Frame). opened x ++ more) (sym same) ∙ e))

-- two lists of frames with the same bytes are one
same_frames : (fs other_fs : List Frame) (gate other_gate : ℕ) (behind other_behind : List ℕ) → AllFit fs → AllFit other_fs → gate ≢ open_gate → other_gate ≢ open_gate
    → all_opened fs ++ gate ∷ behind ≡ all_opened other_fs ++ other_gate ∷ other_behind → fs ≡ other_fs
same_frames [] [] gate other_gate behind other_behind fit other_fit shut other_shut e = refl
same_frames [] (f ∷ other_fs) gate other_gate behind other_behind fit other_fit shut other_shut e = absurd (shut (ap (λ (x : List ℕ). get_or x 0 0) e))
same_frames (f ∷ fs) [] gate other_gate behind other_behind fit other_fit shut other_shut e = absurd (other_shut (ap (λ (x : List ℕ). get_or x 0 0) (sym e)))
same_frames (f ∷ fs) (other_f ∷ other_fs) gate other_gate behind other_behind fit other_fit shut other_shut e =
    let more : List ℕ = all_opened fs ++ gate ∷ behind in
    let other_more : List ℕ = all_opened other_fs ++ other_gate ∷ other_behind in
    let whole : opened f ++ more ≡ opened other_f ++ other_more =
    sym (append_assoc (opened f) (all_opened fs) (gate ∷ behind)) ∙ e ∙ append_assoc (opened other_f) (all_opened other_fs) (other_gate ∷ other_behind) in
    let both = same_frame f other_f more other_more fit.0 other_fit.0 whole in
    ap (λ (x : Frame). x ∷ fs) both.0 ∙ ap (λ (x : List Frame). other_f ∷ x) (same_frames fs other_fs gate other_gate behind other_behind fit.1 other_fit.1 shut other_shut both.1)

-- the bytes behind the mark
behind_mark : (fs others : List Frame) (rest other_rest : List ℕ) → front_of fs ++ rest ≡ front_of others ++ other_rest → all_opened fs ++ rest ≡ all_opened others ++ other_rest
behind_mark fs others rest other_rest e =
    append_cancel_left mark (all_opened fs ++ rest) (all_opened others ++ other_rest)
    (sym (append_assoc mark (all_opened fs) rest) ∙ e ∙ append_assoc mark (all_opened others) other_rest)

-- bytes have one list of frames before a gate that is not open
pub one_front : (fs others : List Frame) (gate other_gate : ℕ) (behind other_behind : List ℕ) → AllFit fs → AllFit others → gate ≢ open_gate → other_gate ≢ open_gate
    → front_of fs ++ gate ∷ behind ≡ front_of others ++ other_gate ∷ other_behind → (fs ≡ others) × (gate ≡ other_gate) × (behind ≡ other_behind)
one_front fs others gate other_gate behind other_behind fit other_fit shut other_shut e =
    let same : fs ≡ others = same_frames fs others gate other_gate behind other_behind fit other_fit shut other_shut (behind_mark fs others (gate ∷ behind) (other_gate ∷ other_behind) e) in
    let rest : gate ∷ behind ≡ other_gate ∷ other_behind = append_cancel_left (front_of others) (gate ∷ behind) (other_gate ∷ other_behind) (ap (λ (x : List Frame). front_of x ++ gate ∷ behind) (sym same) ∙ e) in
    (same, ap (λ (x : List ℕ). get_or x 0 0) rest, ap (λ (x : List ℕ). drop 1 x) rest)

-- no gate is missing or without a record where bytes have the frames of records up to one that is not open
never_bad : (fs others : List Frame) (rs records : List LogRecord) (rest behind : List ℕ) (gate : ℕ) → Say fs rs → Say others records → gate ≢ open_gate → all_opened fs ++ rest ≡ all_opened others ++ gate ∷ behind → IsBad rest → ⊥
never_bad [] [] rs records rest behind gate says other_says shut e (inl none) =
    let size : 0 ≡ suc (length behind) = ap (λ (x : List ℕ). length x) (sym none ∙ e) in omega (arith, size)
never_bad [] [] rs records rest behind gate says other_says shut e (inr bad) = shut (sym (ap (λ (x : List ℕ). get_or x 0 0) e) ∙ bad.0)
never_bad [] (f ∷ others) rs [] rest behind gate says other_says shut e bad = other_says
never_bad [] (f ∷ others) rs (r ∷ records) rest behind gate says other_says shut e (inl none) =
    let open_is : 0 ≡ open_gate = ap (λ (x : List ℕ). get_or x 0 0) (sym none ∙ e) in omega (arith, open_is)
never_bad [] (f ∷ others) rs (r ∷ records) rest behind gate says other_says shut e (inr bad) =
    let none : record_of f ≡ None = bad.1 f (all_opened others ++ gate ∷ behind) other_says.0 (e ∙ append_assoc (opened f) (all_opened others) (gate ∷ behind)) in
    let some : ◌≡◌ {A = Option LogRecord} (Some r) None = sym other_says.1 ∙ none in absurd cc
never_bad (f ∷ fs) others [] records rest behind gate says other_says shut e bad = says
never_bad (f ∷ fs) [] (q ∷ rs) records rest behind gate says other_says shut e bad = shut (ap (λ (x : List ℕ). get_or x 0 0) (sym e))
never_bad (f ∷ fs) (g ∷ others) (q ∷ rs) [] rest behind gate says other_says shut e bad = other_says
never_bad (f ∷ fs) (g ∷ others) (q ∷ rs) (r ∷ records) rest behind gate says other_says shut e bad =
    let both = same_frame f g (all_opened fs ++ rest) (all_opened others ++ gate ∷ behind) says.0 other_says.0
    (sym (append_assoc (opened f) (all_opened fs) rest) ∙ e ∙ append_assoc (opened g) (all_opened others) (gate ∷ behind)) in
    never_bad fs others rs records rest behind gate says.2 other_says.2 shut both.1 bad

pub not_refused : (fs others : List Frame) (rs records : List LogRecord) (rest behind : List ℕ) (gate : ℕ) → Say fs rs → Say others records → gate ≢ open_gate → front_of fs ++ rest ≡ front_of others ++ gate ∷ behind → IsBad rest → ⊥
not_refused fs others rs records rest behind gate says other_says shut e bad =
    never_bad fs others rs records rest behind gate says other_says shut (behind_mark fs others rest (gate ∷ behind) e) bad

-- an image stands for no other frames
pub stands_once : (image : List ℕ) (fs others waiting behind : List Frame) → AllFit fs → AllFit others → StandsFor image fs waiting → StandsFor image others behind → fs ≡ others
stands_once image fs others waiting behind fit other_fit s t =
    (one_front fs others s.gate t.gate s.behind t.behind fit other_fit s.shut t.shut (sym s.is ∙ t.is)).0

-- a place before two ranges
before_both : (i size start : ℕ) (one : ℕ) → i < start → list_any (is_in i) (record { start = start + one + 1; size = size } ∷ record { start = start; size = 1 } ∷ []) ≡ false
before_both i size start one h = grind (arith, nat_tests)

-- a place between two ranges
between_both : (i size start : ℕ) (one : ℕ) → start + 1 ≤ i → i < start + one + 1 → list_any (is_in i) (record { start = start + one + 1; size = size } ∷ record { start = start; size = 1 } ∷ []) ≡ false
between_both i size start one h k = grind (arith, nat_tests)

-- a write of one byte and one behind a text leave the text
two_image : (front text tail seen : List ℕ) (old size limit : ℕ) (image : List ℕ)
    → MayLeave (record { seen = seen; synced = front ++ old ∷ (text ++ tail); ranges = record { start = length front + length text + 1; size = size } ∷ record { start = length front; size = 1 } ∷ []; limit = limit }) image
    → (byte : ℕ) × (rest : List ℕ) × (image ≡ front ++ byte ∷ (text ++ rest))
two_image front text tail seen old size limit image m =
    let whole : length (front ++ old ∷ (text ++ tail)) ≡ length front + suc (length (text ++ tail)) = length-append front (old ∷ (text ++ tail)) in
    let both : length (text ++ tail) ≡ length text + length tail = length-append text tail in
    let long : length front + suc (length text) ≤ length image = omega (arith, m.no_shorter, whole, both) in
    let rest : length (drop (length front) image) + length front ≡ length image = omega (arith, length-drop (length front) image, long) in
    let begins : image ≡ front ++ drop (length front) image = begins_as front image (omega (arith, long))
    (λ i h. m.same i (omega (arith, h, whole)) (before_both i size (length front) (length text) h) ∙ get_or_append_left front (old ∷ (text ++ tail)) 0 i h) in
    let found = but_first text (drop (length front) image) (omega (arith, rest, long))
    (λ i h. get_or-drop (length front) image (suc i) 0
    ∙ m.same (length front + suc i) (omega (arith, h, whole, both)) (between_both (length front + suc i) size (length front) (length text) (omega (arith, h)) (omega (arith, h)))
    ∙ get_or-append-add front (old ∷ (text ++ tail)) (suc i) 0
    ∙ get_or_append_left text tail 0 i h) in
    (found.0, found.1, begins ∙ ap (λ (x : List ℕ). front ++ x) found.2)

-- one sync may serve two batches
pub two_batches : (fs more : List Frame) (text tail seen : List ℕ) (size limit : ℕ) (image : List ℕ) → open_gate ∷ text ≡ batch_of more
    → MayLeave (record { seen = seen; synced = front_of fs ++ closed_gate ∷ (text ++ tail); ranges = record { start = length (front_of fs) + length text + 1; size = size } ∷ record { start = length (front_of fs); size = 1 } ∷ []; limit = limit }) image
    → IsBeforeOrAfter fs more image
two_batches fs more text tail seen size limit image b m =
    let found = two_image (front_of fs) text tail seen closed_gate size limit image m in
    stands_any fs more text found.1 image found.0 b found.2
