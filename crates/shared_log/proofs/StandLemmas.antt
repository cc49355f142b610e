-- What the value of a shared log stands for, after each of its calls.
use Rattle.std.proofs.Common.{◌≡◌, ℕ, ◌+◌, ◌-◌, ◌^◌, ◌≤◌, ◌<◌, ◌++◌, true, false, List, [], ◌∷◌, length, take, drop, min, max, Option, Some, None, inl, inr, refl, sym, ap, ◌∙◌, subst, arith, append_assoc, append-nil, length-append}
use Rattle.std.proofs.lemmas.List.{take-append-le, drop-append-le, take-append-drop, take-take, take_all, length-drop}
use Rattle.std.proofs.lemmas.Bool.{cases_lt}
use mathlib.Core.List.{IsPrefix}
use Rattle.disks.specs.Devices.{Device, MayLeave}
use Rattle.disks.specs.Histories.{History}
use Rattle.disks.specs.Moments.{Leaves}
use Rattle.disks.proofs.Chain.{each_weaken, leaves_both}
use Rattle.record_log.specs.Batches.{AddsFrame}
use Rattle.record_log.specs.Frames.{Frame, batch_of, front_of, closed_gate}
use Rattle.record_log.specs.Images.{IsLog, IsReady, IsBeforeOrAfter, StandsFor as HasFrames}
use Rattle.std.specs.Prelude.{Result, Ok, Err, OnOk}
use Rattle.q_outside.specs.declared.environment.Failed.{Failed}
use Rattle.record_log.specs.Logs.{LogView, HasAppended, LeavesAppended}
use Rattle.record_log.specs.Records.{frame_of}
use Rattle.record_log.specs.declared.log_record.LogRecord.TheVariants.{Moment}
use Rattle.record_log.proofs.ImageLemmas.{rest_image}
use Rattle.record_log.proofs.StandsLemmas.{stands_closed}
use Rattle.atomic_table.specs.declared.shared.Seat.{Seat}
use Rattle.turnstile.specs.declared.gate.Turnstile.{Turnstile}
use Rattle.turnstile.specs.declared.view.View.{View}
use Rattle.turnstile.specs.Seats.{seen, setting_of}
use Rattle.shared_log.specs.LogValues.{Mark, mark_of, opened_of, LogValueView, IsAt, HasStored, IsInHand, IsThere, HasQueued, IsTaken, IsPutBack, IsPutLost, HoldsWork, HoldsStored, HoldsLost, StandsFor}
use Rattle.shared_log.specs.Notes.{LogNote, Queued, Stored, Opened, IsQueuedAs, HasFirst, Rises, StaysFrom, StayStored, queued, stored, commits_in, moment_in, commits_stored, moment_stored}
use Rattle.shared_log.specs.declared.mark.Mark.{Mark as AMark}
use Rattle.shared_log.specs.declared.steps.Found.{Found}
use Rattle.shared_log.specs.Shared.{AreStored, Finds, FindsIn, HasDoneIn}
use Rattle.shared_log.proofs.NoteLemmas.{queued-append, commits-append, moment-append, few_queued, queued_more, queued_same, stored_same, stored_more, rises_queued, rises_stored, SayNothing, none_since}

-- a mark stays where it is as more is queued
at_more : (o : Opened) (fs more : List Frame) (m : Mark) → IsAt o fs m → IsAt o (fs ++ more) m
at_more o fs more m at =
    let same = take-append-le m.frames fs more at.0 in (
      omega (arith, at.0, length-append fs more),
      at.1 ∙ ap (λ (l : List Frame). o.commits + commits_in l) (sym same),
      at.2 ∙ ap (λ (l : List Frame). moment_in o.moment l) (sym same),
    )

-- a mark at the end of some frames
at_end : (o : Opened) (fs : List Frame) (m : Mark) → m.frames ≡ length fs → m.commits ≡ o.commits + commits_in fs → m.moment ≡ moment_in o.moment fs → IsAt o fs m
at_end o fs m n c k =
    let all = take_all m.frames fs (omega (arith, n)) in (
      omega (arith, n),
      c ∙ ap (λ (l : List Frame). o.commits + commits_in l) (sym all),
      k ∙ ap (λ (l : List Frame). moment_in o.moment l) (sym all),
    )

-- and what it says
end_commits : (o : Opened) (fs : List Frame) (m : Mark) → m.frames ≡ length fs → IsAt o fs m → m.commits ≡ o.commits + commits_in fs
end_commits o fs m n at = at.1 ∙ ap (λ (l : List Frame). o.commits + commits_in l) (take_all m.frames fs (omega (arith, n)))

end_moment : (o : Opened) (fs : List Frame) (m : Mark) → m.frames ≡ length fs → IsAt o fs m → m.moment ≡ moment_in o.moment fs
end_moment o fs m n at = at.2 ∙ ap (λ (l : List Frame). moment_in o.moment l) (take_all m.frames fs (omega (arith, n)))

-- an image that has the first of some frames has them where others are queued behind those
first_more : (fs queue more : List Frame) (count : ℕ) (image : List ℕ) → HasFirst fs queue count image → HasFirst fs (queue ++ more) count image
first_more fs queue more count image h =
    (h.0, h.1, h.2, omega (arith, h.3, length-append queue more), subst (λ (l : List Frame). HasFrames image (fs ++ l) h.1) (sym (take-append-le h.0 queue more h.3)) h.4)

-- what follows from a property is left where the property is
leaves_weaken : (before after : Option History) (P Q : List ℕ → Type 0) → ((image : List ℕ) → P image → Q image) → Leaves before after P → Leaves before after Q
leaves_weaken None after P Q w l = l
leaves_weaken (Some h) after P Q w l = (l.0, l.1, each_weaken h.start h.calls l.0 P Q w l.2)

-- a log at rest is left as it is
leaves_rest : (now : Option History) (gate : ℕ) (fs : List Frame) (P : List ℕ → Type 0) → IsLog now gate fs → ((image : List ℕ) → HasFrames image fs [] → P image) → Leaves now now P
leaves_rest None gate fs P l w = refl
leaves_rest (Some h) gate fs P l w =
    let Q : Device → Type 0 = λ d. (image : List ℕ) → MayLeave d image → P image in
    ([], refl, subst Q (sym l.1) (λ image m. w image (stands_closed fs image l.0 (rest_image (front_of fs ++ closed_gate ∷ l.0) image m))))

-- what stays stored stays so with more notes
stays_more : (o : Opened) (notes later : List LogNote) (more : List Frame) (n : ℕ) (log : LogView) (now : Option History) → queued later ≡ queued notes ++ more → StaysFrom o notes n log now → StaysFrom o later n log now
stays_more o notes later more n log now is stays = λ fs opened.
    leaves_weaken log.history now (HasFirst fs (queued notes) n) (HasFirst fs (queued later) n)
    (λ image h. subst (λ (l : List Frame). HasFirst fs l n image) (sym is) (first_more fs (queued notes) more n image h))
    (stays fs opened)

stay_more : (o : Opened) (notes later before : List LogNote) (more : List Frame) (now : Option History) → queued later ≡ queued notes ++ more → StayStored o notes before now → StayStored o later before now
stay_more o notes later [] more now is stay = stays_more o notes later more 0 o.log now is stay
stay_more o notes later (Queued f ∷ before) more now is stay = stay_more o notes later before more now is stay
stay_more o notes later (Stored n log ∷ before) more now is stay = (stays_more o notes later more n log now is stay.0, stay_more o notes later before more now is stay.1)

-- notes that say nothing are no matter
stay_behind : (o : Opened) (notes before more : List LogNote) (now : Option History) → SayNothing more → StayStored o notes before now → StayStored o notes (before ++ more) now
stay_behind o notes [] [] now none stay = stay
stay_behind o notes [] (Queued f ∷ more) now none stay = stay_behind o notes [] more now none stay
stay_behind o notes [] (Stored n log ∷ more) now none stay = absurd none
stay_behind o notes (Queued f ∷ before) more now none stay = stay_behind o notes before more now none stay
stay_behind o notes (Stored n log ∷ before) more now none stay = (stay.0, stay_behind o notes before more now none stay.1)

-- one more that says what is stored now
stay_said : (o : Opened) (notes before : List LogNote) (n : ℕ) (log : LogView) (now : Option History) → StaysFrom o notes n log now → StayStored o notes before now → StayStored o notes (before ++ Stored n log ∷ []) now
stay_said o notes [] n log now last stay = (last, stay)
stay_said o notes (Queued f ∷ before) n log now last stay = stay_said o notes before n log now last stay
stay_said o notes (Stored m l ∷ before) n log now last stay = (stay.0, stay_said o notes before n log now last stay.1)

-- of a log that is there, with one frame more in the queue
there_queued : (v : LogValueView) (pending : List ℕ) (q : Mark) (count : ℕ) (notes : List LogNote) (f : Frame) (log : Option LogView) → v.stored.frames ≤ length (queued notes)
    → IsThere v notes log → IsThere (record v { pending = pending; queued = q; count = count }) (notes ++ Queued f ∷ []) log
there_queued v pending q count notes f None le there = there
there_queued v pending q count notes f (Some log) le there =
    let qn = queued_more notes f in (
      stay_more v.opened notes (notes ++ Queued f ∷ []) (notes ++ Queued f ∷ []) (f ∷ []) log.history qn (stay_behind v.opened notes notes (Queued f ∷ []) log.history tt there.0),
      λ whole. let h = there.1 whole in record {
        all = h.all;
        ready = h.ready;
        has = λ first opened. subst (λ (l : List Frame). IsLog log.history log.gate (first ++ l)) (sym (ap (λ (l : List Frame). take v.stored.frames l) qn ∙ take-append-le v.stored.frames (queued notes) (f ∷ []) le)) (h.has first opened);
      },
    )

-- the value with one frame more in its queue
pub queues : (v w : LogValueView) (notes : List LogNote) (f : Frame) (pending : List ℕ) (q : Mark) (count : ℕ) → w ≡ record v { pending = pending; queued = q; count = count } → StandsFor v notes
    → count ≡ v.count + 1 → v.count + 1 < 2 ^ 64 → q.frames ≡ min (v.queued.frames + 1) (2 ^ 64 - 1)
    → q.commits ≡ v.queued.commits + commits_in (f ∷ []) → q.moment ≡ moment_in v.queued.moment (f ∷ []) → AddsFrame v.pending pending f → StandsFor w (notes ++ Queued f ∷ [])
queues v w notes f pending q count is stands count_is few frames commits moment adds =
    let o = v.opened in
    let qs = queued notes in
    let qn : queued (notes ++ Queued f ∷ []) ≡ qs ++ f ∷ [] = queued_more notes f in
    let was : v.queued.frames ≡ length qs = stands.queued_is.0 in
    let few_frames : length qs ≤ length notes = few_queued notes in
    let counted : v.count ≡ length notes = stands.counted in
    let long : length (qs ++ f ∷ []) ≡ length qs + 1 = length-append qs (f ∷ []) in
    let frames_are : q.frames ≡ length (qs ++ f ∷ []) = omega (arith, frames, was, few_frames, counted, few, long) in
    let commits_are : q.commits ≡ o.commits + commits_in (qs ++ f ∷ []) = omega (arith, commits, end_commits o qs v.queued was stands.queued_is.1, commits-append qs (f ∷ [])) in
    let moment_is : q.moment ≡ moment_in o.moment (qs ++ f ∷ []) = moment ∙ ap (λ (k : ℕ). moment_in k (f ∷ [])) (end_moment o qs v.queued was stands.queued_is.1) ∙ sym (moment-append qs (f ∷ []) o.moment) in
    let back : (m : Mark) → IsAt o (qs ++ f ∷ []) m → IsAt o (queued (notes ++ Queued f ∷ [])) m = λ m at. subst (λ (l : List Frame). IsAt o l m) (sym qn) at in
    let x : LogValueView = record v { pending = pending; queued = q; count = count } in
    let made : StandsFor x (notes ++ Queued f ∷ []) = record {
      counted = omega (arith, count_is, counted, length-append notes (Queued f ∷ []));
      small = omega (arith, count_is, few);
      ready = stands.ready;
      rises = rises_queued notes 0 f stands.rises;
      queued_is = (frames_are ∙ ap (λ (l : List Frame). length l) (sym qn), back q (at_end o (qs ++ f ∷ []) q frames_are commits_are moment_is));
      taken_is = back v.taken (at_more o qs (f ∷ []) v.taken stands.taken_is);
      stored_is = (stands.stored_is.0 ∙ sym (stored_same notes f), back v.stored (at_more o qs (f ∷ []) v.stored stands.stored_is.1));
      pending = adds (drop v.taken.frames qs) stands.pending
          ∙ ap (λ (l : List Frame). batch_of l) (sym (drop-append-le v.taken.frames qs (f ∷ []) stands.taken_is.0) ∙ ap (λ (l : List Frame). drop v.taken.frames l) (sym qn));
      there = there_queued v pending q count notes f v.log stands.stored_is.1.0 stands.there;
    } in
    subst (λ (y : LogValueView). StandsFor y (notes ++ Queued f ∷ [])) (sym is) made

-- the record of the next commit is queued as that
pub queued_as : (o : Opened) (v : LogValueView) (notes all : List LogNote) (commit clock : ℕ) (body slice : List ℕ) → v.opened ≡ o → slice ≡ body → all ≡ notes ++ Queued (record { kind = 1; clock = clock; body = slice }) ∷ []
    → StandsFor v notes → commit ≡ v.queued.commits + 1 → IsQueuedAs o all commit (record { kind = 1; clock = clock; body = body })
queued_as o v notes all commit clock body slice same slice_is all_is stands next =
    let f : List ℕ → Frame = λ b. record { kind = 1; clock = clock; body = b } in
    let was : v.queued.commits ≡ v.opened.commits + commits_in (queued notes) = end_commits v.opened (queued notes) v.queued stands.queued_is.0 stands.queued_is.1 in
    let made : IsQueuedAs v.opened (notes ++ Queued (f slice) ∷ []) commit (f slice) = record {
      among = record {
        before = queued notes;
        behind = [];
        is = queued_more notes (f slice);
        kind = refl;
        number = omega (arith, next, was);
      };
    } in
    subst (λ (x : Opened). IsQueuedAs x all commit (f body)) same
    (subst (λ (b : List ℕ). IsQueuedAs v.opened all commit (f b)) slice_is (subst (λ (l : List LogNote). IsQueuedAs v.opened l commit (f slice)) (sym all_is) made))

-- the frame of a kept moment has no body
pub moment_frame : (old new : List ℕ) (clock : ℕ) → AddsFrame old new (frame_of (Moment clock)) → AddsFrame old new (record { kind = 2; clock = clock; body = [] })
unfolding frame_of
moment_frame old new clock adds = adds

-- no frame
none_of : (fs : List Frame) → length fs ≡ 0 → fs ≡ []
none_of [] e = refl
none_of (f ∷ fs) e = absurd (omega (arith, e))

-- what is behind all is nothing
drop_end : (n : ℕ) (fs : List Frame) → length fs ≤ n → drop n fs ≡ []
drop_end n fs le = none_of (drop n fs) (omega (arith, length-drop n fs, le))

-- where something is pending, less is stored than queued
longer_than : (v : LogValueView) (notes : List LogNote) → (v.pending ≡ batch_of [] → ⊥) → StandsFor v notes → v.taken.frames ≡ v.stored.frames → v.stored.frames < v.queued.frames
longer_than v notes some stands same = elim (cases_lt v.taken.frames (length (queued notes))) [
  | inl lt ↦ omega (arith, lt, same, stands.queued_is.0)
  | inr le ↦ absurd (some (stands.pending ∙ ap (λ (l : List Frame). batch_of l) (drop_end v.taken.frames (queued notes) le)))
]

-- the value without its log and what was queued, which one who stores has now
pub takes : (v w : LogValueView) (notes : List LogNote) (log : LogView) → w ≡ record v { log = None; pending = batch_of []; taken = v.queued } → v.log ≡ Some log → v.broken ≡ false → (v.pending ≡ batch_of [] → ⊥)
    → StandsFor v notes → StandsFor w notes × HoldsWork v.opened notes log v.pending v.stored v.queued
takes v w notes log is log_is whole some stands =
    let o = v.opened in
    let qs = queued notes in
    let there : IsThere v notes (Some log) = subst (λ (l : Option LogView). IsThere v notes l) log_is stands.there in
    let h : IsInHand v notes log = there.1 whole in
    let taken_is : v.taken.frames ≡ v.stored.frames = ap (λ (m : Mark). m.frames) h.all in
    let end : length qs ≤ v.queued.frames = omega (arith, stands.queued_is.0) in
    let more : v.stored.frames < v.queued.frames = longer_than v notes some stands taken_is in
    let x : LogValueView = record v { log = None; pending = batch_of []; taken = v.queued } in
    let made : StandsFor x notes = record {
      counted = stands.counted;
      small = stands.small;
      ready = stands.ready;
      rises = stands.rises;
      queued_is = stands.queued_is;
      taken_is = stands.queued_is.1;
      stored_is = stands.stored_is;
      pending = ap (λ (l : List Frame). batch_of l) (sym (drop_end v.queued.frames qs end));
      there = tt;
    } in (
      subst (λ (y : LogValueView). StandsFor y notes) (sym is) made,
      record {
        ready = h.ready;
        has = h.has;
        stay = there.0;
        from_is = stands.stored_is.0;
        some = more;
        to_is = stands.queued_is.1;
        batch_is = stands.pending ∙ ap (λ (n : ℕ). batch_of (drop n qs)) taken_is ∙ ap (λ (l : List Frame). batch_of (drop v.stored.frames l)) (sym (take_all v.queued.frames qs end));
      },
    )

-- the first of the first
take_within : (from to : ℕ) (qs : List Frame) → from ≤ to → take from (take to qs) ≡ take from qs
take_within from to qs lt = take-take from to qs lt

-- the first frames and those behind them, up to a place, are the first up to there
all_of : (fs qs : List Frame) (from to : ℕ) → from ≤ to → (fs ++ take from qs) ++ drop from (take to qs) ≡ fs ++ take to qs
all_of fs qs from to lt =
    append_assoc fs (take from qs) (drop from (take to qs))
    ∙ ap (λ (l : List Frame). fs ++ l) (ap (λ (l : List Frame). l ++ drop from (take to qs)) (sym (take_within from to qs lt)) ∙ take-append-drop from (take to qs))

-- an image of a log to which the frames behind the first are added has the first
first_or_all : (fs qs : List Frame) (from to n : ℕ) → n ≤ from → from ≤ to → to ≤ length qs → (image : List ℕ) → IsBeforeOrAfter (fs ++ take from qs) (drop from (take to qs)) image → HasFirst fs qs n image
first_or_all fs qs from to n le lt within image (inl before) = (from, [], le, omega (arith, lt, within), before)
first_or_all fs qs from to n le lt within image (inr (inl waits)) = (from, drop from (take to qs), le, omega (arith, lt, within), waits)
first_or_all fs qs from to n le lt within image (inr (inr after)) = (to, [], omega (arith, le, lt), within, subst (λ (l : List Frame). HasFrames image l []) (all_of fs qs from to lt) after)

-- what stays stored does so while the log grows
stays_grown : (o : Opened) (notes : List LogNote) (n : ℕ) (was log new : LogView) (batch : List ℕ) (from to : ℕ) → n ≤ from → from ≤ to → to ≤ length (queued notes) → HasStored o log (take from (queued notes))
    → batch ≡ batch_of (drop from (take to (queued notes))) → LeavesAppended log new batch → StaysFrom o notes n was log.history → StaysFrom o notes n was new.history
stays_grown o notes n was log new batch from to least lt within has is leaves stays = λ fs opened.
    leaves_both was.history log.history new.history (HasFirst fs (queued notes) n) (IsBeforeOrAfter (fs ++ take from (queued notes)) (drop from (take to (queued notes)))) (HasFirst fs (queued notes) n)
    (λ image h. h) (λ image h. first_or_all fs (queued notes) from to n least lt within image h)
    (stays fs opened) (leaves (fs ++ take from (queued notes)) (drop from (take to (queued notes))) (has fs opened) is)

stay_stored : (o : Opened) (notes before : List LogNote) (log new : LogView) (batch : List ℕ) (from to : ℕ) → stored before ≤ from → from ≤ to → to ≤ length (queued notes) → HasStored o log (take from (queued notes))
    → batch ≡ batch_of (drop from (take to (queued notes))) → LeavesAppended log new batch → StayStored o notes before log.history → StayStored o notes before new.history
stay_stored o notes [] log new batch from to least lt within has is leaves stay = stays_grown o notes 0 o.log log new batch from to (omega arith) lt within has is leaves stay
stay_stored o notes (Queued f ∷ before) log new batch from to least lt within has is leaves stay = stay_stored o notes before log new batch from to least lt within has is leaves stay
stay_stored o notes (Stored n l ∷ before) log new batch from to least lt within has is leaves stay = (
  stays_grown o notes n l log new batch from to (omega (arith, least)) lt within has is leaves stay.0,
  stay_stored o notes before log new batch from to (omega (arith, least)) lt within has is leaves stay.1,
)

-- one who stores has the log with all that it took
pub stores : (o : Opened) (notes : List LogNote) (log new : LogView) (batch : List ℕ) (from to : Mark) → HoldsWork o notes log batch from to → IsReady new.history new.gate → HasAppended log new batch → LeavesAppended log new batch → HoldsStored o notes new from to
stores o notes log new batch from to h ready appended leaves =
    let qs = queued notes in
    let lt : from.frames ≤ to.frames = omega (arith, h.some) in
    record {
      ready = ready;
      has = λ fs opened. subst (λ (l : List Frame). IsLog new.history new.gate l) (all_of fs qs from.frames to.frames lt) (appended (fs ++ take from.frames qs) (drop from.frames (take to.frames qs)) (h.has fs opened) h.batch_is);
      stay = stay_stored o notes notes log new batch from.frames to.frames (omega (arith, h.from_is)) lt h.to_is.0 h.has h.batch_is leaves h.stay;
      from_is = h.from_is;
      some = h.some;
      to_is = h.to_is;
    }

-- where it failed what was stored is so still
pub loses : (o : Opened) (notes : List LogNote) (log new : LogView) (batch : List ℕ) (from to : Mark) → HoldsWork o notes log batch from to → LeavesAppended log new batch → HoldsLost o notes new from
loses o notes log new batch from to h leaves = record {
  stay = stay_stored o notes notes log new batch from.frames to.frames (omega (arith, h.from_is)) (omega (arith, h.some)) h.to_is.0 h.has h.batch_is leaves h.stay;
  from_is = h.from_is;
}

-- what one has done who added a batch to the log, or failed to
pub has_done : (o : Opened) (notes : List LogNote) (log new : LogView) (batch : List ℕ) (from to : Mark) (stored : Result (Unit {0}) Failed)
    → HoldsWork o notes log batch from to → OnOk stored (IsReady new.history new.gate) → OnOk stored (HasAppended log new batch) → LeavesAppended log new batch → HasDoneIn o notes new from to stored
has_done o notes log new batch from to (Ok done) h ready appended leaves = stores o notes log new batch from to h ready appended leaves
has_done o notes log new batch from to (Err failed) h ready appended leaves = loses o notes log new batch from to h leaves

-- whatever came of it, what was stored is so still
pub done_lost : (o : Opened) (notes : List LogNote) (log : LogView) (from to : Mark) (stored : Result (Unit {0}) Failed) → HasDoneIn o notes log from to stored → HoldsLost o notes log from
done_lost o notes log from to (Ok done) h = record { stay = h.stay; from_is = h.from_is }
done_lost o notes log from to (Err failed) h = h

-- it was done
pub done_stored : (o : Opened) (notes : List LogNote) (log : LogView) (from to : Mark) (stored : Result (Unit {0}) Failed) → stored ≡ Ok tt → HasDoneIn o notes log from to stored → HoldsStored o notes log from to
done_stored o notes log from to stored done h = subst (λ (r : Result (Unit {0}) Failed). HasDoneIn o notes log from to r) done h

-- what stayed stored as one who stores saw the history stays so, where nothing was said to be stored since
stay_since : (o : Opened) (notes before : List LogNote) (log : LogView) → Rises 0 notes → IsPrefix before notes → stored notes ≡ stored before → StayStored o before before log.history → StayStored o notes notes log.history
stay_since o notes before log rises prefix same stay =
    let split : queued notes ≡ queued before ++ queued prefix.0 = ap (λ (l : List LogNote). queued l) (sym prefix.1) ∙ queued-append before prefix.0 in
    let none : SayNothing prefix.0 = none_since before prefix.0 0 (subst (λ (l : List LogNote). Rises 0 l) (sym prefix.1) rises) (ap (λ (l : List LogNote). max 0 (stored l)) prefix.1 ∙ ap (λ (n : ℕ). max 0 n) same) in
    stay_more o before notes notes (queued prefix.0) log.history split (subst (λ (l : List LogNote). StayStored o before l log.history) prefix.1 (stay_behind o before before prefix.0 log.history none stay))

-- the value has its log again, with what was taken stored, and an entry says so
pub puts_back : (v w : LogValueView) (notes before : List LogNote) (log : LogView) (from to : Mark) (count : ℕ) → w ≡ record v { log = Some log; stored = to; count = count } → v.stored ≡ from → v.taken ≡ to → count ≡ v.count + 1 → v.count + 1 < 2 ^ 64
    → StandsFor v notes → IsPrefix before notes → HoldsStored v.opened before log from to → StandsFor w (notes ++ Stored to.frames log ∷ [])
puts_back v w notes before log from to count is from_is to_is count_is few stands prefix h =
    let o = v.opened in
    let later : List LogNote = notes ++ Stored to.frames log ∷ [] in
    let qn : queued later ≡ queued notes = queued_same notes to.frames log in
    let same : stored notes ≡ stored before = sym stands.stored_is.0 ∙ ap (λ (m : Mark). m.frames) from_is ∙ h.from_is in
    let split : queued notes ≡ queued before ++ queued prefix.0 = ap (λ (l : List LogNote). queued l) (sym prefix.1) ∙ queued-append before prefix.0 in
    let least : stored notes < to.frames = omega (arith, same, h.from_is, h.some) in
    let back : (m : Mark) → IsAt o (queued notes) m → IsAt o (queued later) m = λ m at. subst (λ (l : List Frame). IsAt o l m) (sym qn) at in
    let to_at : IsAt o (queued notes) to = subst (λ (m : Mark). IsAt o (queued notes) m) to_is stands.taken_is in
    let has : HasStored o log (take to.frames (queued notes)) = λ fs opened.
    subst (λ (l : List Frame). IsLog log.history log.gate (fs ++ l)) (sym (ap (λ (l : List Frame). take to.frames l) split ∙ take-append-le to.frames (queued before) (queued prefix.0) h.to_is.0)) (h.has fs opened) in
    let stay : StayStored o notes notes log.history = stay_since o notes before log stands.rises prefix same h.stay in
    let last : StaysFrom o notes to.frames log log.history = λ fs opened.
    leaves_rest log.history log.gate (fs ++ take to.frames (queued notes)) (HasFirst fs (queued notes) to.frames) (has fs opened) (λ image s. (to.frames, [], omega arith, to_at.0, s)) in
    let x : LogValueView = record v { log = Some log; stored = to; count = count } in
    let made : StandsFor x later = record {
      counted = omega (arith, count_is, stands.counted, length-append notes (Stored to.frames log ∷ []));
      small = omega (arith, count_is, few);
      ready = stands.ready;
      rises = rises_stored notes 0 to.frames log (omega (arith, least)) stands.rises;
      queued_is = (stands.queued_is.0 ∙ ap (λ (l : List Frame). length l) (sym qn), back v.queued stands.queued_is.1);
      taken_is = back v.taken stands.taken_is;
      stored_is = (sym (stored_more notes to.frames log (omega (arith, least))), back to to_at);
      pending = stands.pending ∙ ap (λ (l : List Frame). batch_of (drop v.taken.frames l)) (sym qn);
      there = (
        stay_more o notes later later [] log.history (qn ∙ sym (append-nil (queued notes))) (stay_said o notes notes to.frames log log.history last stay),
        λ whole. record {
          all = to_is;
          ready = h.ready;
          has = λ fs opened. subst (λ (l : List Frame). IsLog log.history log.gate (fs ++ take to.frames l)) (sym qn) (has fs opened);
        },
      );
    } in
    subst (λ (y : LogValueView). StandsFor y later) (sym is) made

-- a value whose disk failed stands for what it stood for, with a log whose stored frames stay so
breaks_with : (v w : LogValueView) (notes : List LogNote) (log : Option LogView) → w ≡ record v { log = log; broken = true } → IsThere (record v { log = log; broken = true }) notes log → StandsFor v notes → StandsFor w notes
breaks_with v w notes log is there stands =
    let made : StandsFor (record v { log = log; broken = true }) notes = record {
      counted = stands.counted;
      small = stands.small;
      ready = stands.ready;
      rises = stands.rises;
      queued_is = stands.queued_is;
      taken_is = stands.taken_is;
      stored_is = stands.stored_is;
      pending = stands.pending;
      there = there;
    } in
    subst (λ (y : LogValueView). StandsFor y notes) (sym is) made

-- of a log that is there as before
there_broken : (v : LogValueView) (notes : List LogNote) (l : Option LogView) → IsThere v notes l → IsThere (record v { broken = true }) notes l
there_broken v notes None there = there
there_broken v notes (Some log) there = (there.0, λ whole. let no : true ≡ false = whole in absurd (cc))

-- the value is at its end, with its log as before
pub breaks : (v w : LogValueView) (notes : List LogNote) → w ≡ record v { broken = true } → StandsFor v notes → StandsFor w notes
breaks v w notes is stands = breaks_with v w notes v.log is (there_broken v notes v.log stands.there) stands

-- the log is put back once storing failed
puts_lost : (v w : LogValueView) (notes before : List LogNote) (log : LogView) (from : Mark) → w ≡ record v { log = Some log; broken = true } → v.stored ≡ from → StandsFor v notes → IsPrefix before notes → HoldsLost v.opened before log from → StandsFor w notes
puts_lost v w notes before log from is from_is stands prefix h =
    let same : stored notes ≡ stored before = sym stands.stored_is.0 ∙ ap (λ (m : Mark). m.frames) from_is ∙ h.from_is in
    breaks_with v w notes (Some log) is (stay_since v.opened notes before log stands.rises prefix same h.stay, λ whole. let no : true ≡ false = whole in absurd (cc)) stands

-- what queueing does to a value, which is seen from outside as `v`
pub queue_done : (x v w : LogValueView) (f : Frame) (pending : List ℕ) (q : Mark) (count : ℕ) → x ≡ v → w ≡ record x { pending = pending; queued = q; count = count } → count ≡ x.count + 1 → v.count + 1 < 2 ^ 64 → q.frames ≡ min (x.queued.frames + 1) (2 ^ 64 - 1)
    → q.commits ≡ x.queued.commits + commits_in (f ∷ []) → q.moment ≡ moment_in x.queued.moment (f ∷ []) → AddsFrame x.pending pending f → HasQueued v w f
queue_done x v w f pending q count view_is is count_is few frames commits moment adds =
    let P : LogValueView → Type 0 = λ y. y.count + 1 < 2 ^ 64 → HasQueued y w f in
    subst P view_is (λ fewer. (ap (λ (y : LogValueView). y.opened) is, λ notes stands. queues x w notes f pending q count is stands count_is fewer frames commits moment adds)) few

-- what taking the log out does
pub take_done : (x v w : LogValueView) (log : LogView) (pending batch : List ℕ) → batch ≡ x.pending → x ≡ v → pending ≡ batch_of [] → w ≡ record x { log = None; pending = pending; taken = x.queued } → x.log ≡ Some log → x.broken ≡ false → (x.pending ≡ batch_of [] → ⊥)
    → IsTaken v w log batch x.stored x.queued
take_done x v w log pending batch same view_is empty is log_is whole some =
    let P : LogValueView → Type 0 = λ y. IsTaken y w log batch x.stored x.queued in
    let is' : w ≡ record x { log = None; pending = batch_of []; taken = x.queued } = subst (λ (l : List ℕ). w ≡ record x { log = None; pending = l; taken = x.queued }) empty is in
    subst P view_is (record {
      opened = ap (λ (y : LogValueView). y.opened) is;
      left = is';
      there = log_is;
      whole = whole;
      batch_is = same;
      from_is = refl;
      to_is = refl;
      stands = λ notes stands. subst (λ (l : List ℕ). StandsFor w notes × HoldsWork x.opened notes log l x.stored x.queued) (sym same) (takes x w notes log is' log_is whole some stands);
    })

-- what putting it back does
pub put_done : (x v w : LogValueView) (log : LogView) (from to : Mark) (count : ℕ) → x ≡ v → w ≡ record x { log = Some log; stored = to; count = count } → x.stored ≡ from → x.taken ≡ to → count ≡ x.count + 1 → v.count + 1 < 2 ^ 64 → IsPutBack v w log from to
put_done x v w log from to count view_is is from_is to_is count_is few =
    let P : LogValueView → Type 0 = λ y. y.count + 1 < 2 ^ 64 → IsPutBack y w log from to in
    let exact : w ≡ record x { log = Some log; stored = to; count = x.count + 1 } = is ∙ ap (λ (n : ℕ). record x { log = Some log; stored = to; count = n }) count_is in
    subst P view_is (λ fewer. (ap (λ (y : LogValueView). y.opened) is, exact, λ notes before stands prefix h. puts_back x w notes before log from to count is from_is to_is count_is fewer stands prefix h)) few

-- what it does once storing failed
pub put_lost : (x v w : LogValueView) (log : LogView) (from : Mark) → x ≡ v → w ≡ record x { log = Some log; broken = true } → x.stored ≡ from → IsPutLost v w log from
put_lost x v w log from view_is is from_is =
    let P : LogValueView → Type 0 = λ y. IsPutLost y w log from in
    subst P view_is (ap (λ (y : LogValueView). y.opened) is, ap (λ (y : LogValueView). y.broken) is, λ notes before stands prefix h. puts_lost x w notes before log from is from_is stands prefix h)

-- and where it is not what was taken last
pub put_other : (x v w : LogValueView) (log : LogView) (from : Mark) → x ≡ v → w ≡ record x { broken = true } → IsPutLost v w log from
put_other x v w log from view_is is =
    let P : LogValueView → Type 0 = λ y. IsPutLost y w log from in
    subst P view_is (ap (λ (y : LogValueView). y.opened) is, ap (λ (y : LogValueView). y.broken) is, λ notes before stands prefix h. breaks x w notes is stands)

-- what a value says is stored is so in its history
pub are_stored : (v : LogValueView) (notes : List LogNote) → StandsFor v notes → AreStored v.opened notes v.stored.commits v.stored.moment
are_stored v notes stands =
    let n : v.stored.frames ≡ stored notes = stands.stored_is.0 in
    let c : v.stored.commits ≡ commits_stored v.opened notes = stands.stored_is.1.1 ∙ ap (λ (k : ℕ). v.opened.commits + commits_in (take k (queued notes))) n in
    let m : v.stored.moment ≡ moment_stored v.opened notes = stands.stored_is.1.2 ∙ ap (λ (k : ℕ). moment_in v.opened.moment (take k (queued notes))) n in
    (omega (arith, c), omega (arith, m))

-- the same of a mark of the code
pub found_stored : (v : LogValueView) (notes : List LogNote) (m : AMark) → mark_of m ≡ v.stored → StandsFor v notes → AreStored v.opened notes m.commits m.moment
found_stored v notes m is stands = subst (λ (k : Mark). AreStored v.opened notes k.commits k.moment) (sym is) (are_stored v notes stands)

-- what was found in a value is found by a seat that has seen its history
pub found_at : {K : Type 0} (t : Turnstile LogValueView LogNote Opened) (s : Seat (Option LogValueView) (View LogNote Opened)) (o : Opened) (notes : List LogNote) (commits moment : ℕ) (found : Found K)
    → o ≡ setting_of opened_of t → seen s ≡ notes → FindsIn o notes commits moment found → Finds t s commits moment found
found_at t s o notes commits moment found same all is = record {
  finds = subst (λ (l : List LogNote). FindsIn (setting_of opened_of t) l commits moment found) (sym all) (subst (λ (x : Opened). FindsIn x notes commits moment found) same is);
}

-- the value has its log back, with what was taken stored, as the seat of one who stored knows
pub put_stored : (o : Opened) (v w : LogValueView) (notes before : List LogNote) (log shown : LogView) (from to : Mark) (stored : Result (Unit {0}) Failed) → v.opened ≡ o → shown ≡ log → stored ≡ Ok tt → IsPutBack v w log from to
    → StandsFor v notes → IsPrefix before notes → HasDoneIn o before log from to stored → StandsFor w (notes ++ Stored to.frames shown ∷ [])
put_stored o v w notes before log shown from to stored same shown_is done put stands prefix has =
    subst (λ (l : LogView). StandsFor w (notes ++ Stored to.frames l ∷ [])) (sym shown_is)
    (put.2 notes before stands prefix (subst (λ (x : Opened). HoldsStored x before log from to) (sym same) (done_stored o before log from to stored done has)))

-- the same once storing failed
pub put_unstored : (o : Opened) (v w : LogValueView) (notes before : List LogNote) (log : LogView) (from to : Mark) (stored : Result (Unit {0}) Failed) → v.opened ≡ o → IsPutLost v w log from
    → StandsFor v notes → IsPrefix before notes → HasDoneIn o before log from to stored → StandsFor w notes
put_unstored o v w notes before log from to stored same put stands prefix has =
    put.2 notes before stands prefix (subst (λ (x : Opened). HoldsLost x before log from) (sym same) (done_lost o before log from to stored has))

-- a value of a log that was opened, with nothing queued
pub opens : (w : LogValueView) (shown log : LogView) (commits moment : ℕ) (pending : List ℕ) → shown ≡ log → pending ≡ batch_of [] → IsReady log.history log.gate
    → w ≡ record { opened = record { log = shown; commits = commits; moment = moment }; log = Some log; pending = pending; count = 0; queued = record { frames = 0; commits = commits; moment = moment }; taken = record { frames = 0; commits = commits; moment = moment }; stored = record { frames = 0; commits = commits; moment = moment }; broken = false }
    → StandsFor w []
opens w shown log commits moment pending same empty ready is =
    let m : Mark = record { frames = 0; commits = commits; moment = moment } in
    let value : LogView → List ℕ → LogValueView = λ l p. record { opened = record { log = l; commits = commits; moment = moment }; log = Some log; pending = p; count = 0; queued = m; taken = m; stored = m; broken = false } in
    let at : IsAt (record { log = log; commits = commits; moment = moment }) [] m = (omega arith, omega arith, refl) in
    let made : StandsFor (value log (batch_of [])) [] = record {
      counted = refl;
      small = omega arith;
      ready = ready;
      rises = tt;
      queued_is = (refl, at);
      taken_is = at;
      stored_is = (refl, at);
      pending = refl;
      there = (
        λ fs opened. leaves_rest log.history log.gate fs (HasFirst fs [] 0) opened (λ image s. (0, [], omega arith, omega arith, subst (λ (l : List Frame). HasFrames image l []) (sym (append-nil fs)) s)),
        λ whole. record {
          all = refl;
          ready = ready;
          has = λ first opened. subst (λ (l : List Frame). IsLog log.history log.gate l) (sym (append-nil first)) opened;
        },
      );
    } in
    subst (λ (y : LogValueView). StandsFor y []) (sym is) (subst (λ (l : LogView). StandsFor (value l pending) []) (sym same) (subst (λ (p : List ℕ). StandsFor (value log p) []) (sym empty) made))
