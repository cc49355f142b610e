-- Lists of notes and of frames.
use Rattle.std.proofs.Common.{◌≡◌, ℕ, zero, suc, ◌+◌, ◌≤◌, ◌<◌, ◌++◌, Bool, true, false, List, [], ◌∷◌, length, take, drop, max, refl, sym, ap, ◌∙◌, subst, arith, append-nil, append_assoc}
use Rattle.std.proofs.lemmas.List.{take-append-drop}
use Rattle.std.specs.Prelude.{nat_eq, if◌then◌else◌}
use mathlib.Core.List.{IsPrefix}
use Rattle.record_log.specs.Frames.{Frame}
use Rattle.record_log.specs.Logs.{LogView}
use Rattle.shared_log.specs.Notes.{LogNote, Opened, HasFirst, IsCommitIn, IsQueuedAs, KeepsStored, Rises, Queued, Stored, queued, stored, commits_in, moment_in, commits_stored, moment_stored}

pub queued-append : (xs ys : List LogNote) → queued (xs ++ ys) ≡ queued xs ++ queued ys
queued-append [] ys = refl
queued-append (Queued f ∷ xs) ys = ap (λ (l : List Frame). f ∷ l) (queued-append xs ys)
queued-append (Stored n l ∷ xs) ys = queued-append xs ys

pub stored-append : (xs ys : List LogNote) → stored (xs ++ ys) ≡ max (stored xs) (stored ys)
stored-append [] ys = omega arith
stored-append (Queued f ∷ xs) ys = stored-append xs ys
stored-append (Stored n l ∷ xs) ys = let rest = stored-append xs ys in omega (arith, rest)

pub commits-append : (xs ys : List Frame) → commits_in (xs ++ ys) ≡ commits_in xs + commits_in ys
commits-append [] ys = omega arith
commits-append (f ∷ xs) ys = let rest = commits-append xs ys in omega (arith, rest)

pub moment-append : (xs ys : List Frame) (kept : ℕ) → moment_in kept (xs ++ ys) ≡ moment_in (moment_in kept xs) ys
moment-append [] ys kept = refl
moment-append (f ∷ xs) ys kept = moment-append xs ys (if nat_eq f.kind 2 then max kept f.clock else kept)

-- no more frames were queued than there are notes
pub few_queued : (notes : List LogNote) → length (queued notes) ≤ length notes
few_queued [] = omega arith
few_queued (Queued f ∷ notes) = let rest = few_queued notes in omega (arith, rest)
few_queued (Stored n l ∷ notes) = let rest = few_queued notes in omega (arith, rest)

pub queued_more : (notes : List LogNote) (f : Frame) → queued (notes ++ Queued f ∷ []) ≡ queued notes ++ f ∷ []
queued_more notes f = queued-append notes (Queued f ∷ [])

pub queued_same : (notes : List LogNote) (n : ℕ) (log : LogView) → queued (notes ++ Stored n log ∷ []) ≡ queued notes
queued_same notes n log = queued-append notes (Stored n log ∷ []) ∙ append-nil (queued notes)

pub stored_same : (notes : List LogNote) (f : Frame) → stored (notes ++ Queued f ∷ []) ≡ stored notes
stored_same notes f = let whole = stored-append notes (Queued f ∷ []) in omega (arith, whole)

pub stored_more : (notes : List LogNote) (n : ℕ) (log : LogView) → stored notes ≤ n → stored (notes ++ Stored n log ∷ []) ≡ n
stored_more notes n log le = let whole = stored-append notes (Stored n log ∷ []) in omega (arith, whole, le)

-- what is said to be stored rises still where a frame is queued
pub rises_queued : (notes : List LogNote) (least : ℕ) (f : Frame) → Rises least notes → Rises least (notes ++ Queued f ∷ [])
rises_queued [] least f r = r
rises_queued (Queued g ∷ notes) least f r = rises_queued notes least f r
rises_queued (Stored n log ∷ notes) least f r = (r.0, rises_queued notes n f r.1)

-- and where more is said to be stored
pub rises_stored : (notes : List LogNote) (least n : ℕ) (log : LogView) → max least (stored notes) < n → Rises least notes → Rises least (notes ++ Stored n log ∷ [])
rises_stored [] least n log lt r = (omega (arith, lt), r)
rises_stored (Queued g ∷ notes) least n log lt r = rises_stored notes least n log lt r
rises_stored (Stored m l ∷ notes) least n log lt r = (r.0, rises_stored notes m n log (omega (arith, lt, r.0)) r.1)

-- none of the notes says that something is stored
abbrev pub SayNothing : List LogNote → Type 0
SayNothing [] = Unit {0}
SayNothing (Queued f ∷ notes) = SayNothing notes
SayNothing (Stored n log ∷ notes) = ⊥

-- where no more is stored than before, nothing was said since
none_at : (notes : List LogNote) (least : ℕ) → Rises least notes → max least (stored notes) ≡ least → SayNothing notes
none_at [] least r same = r
none_at (Queued f ∷ notes) least r same = none_at notes least r same
none_at (Stored n log ∷ notes) least r same = absurd (omega (arith, r.0, same))

pub none_since : (xs ys : List LogNote) (least : ℕ) → Rises least (xs ++ ys) → max least (stored (xs ++ ys)) ≡ max least (stored xs) → SayNothing ys
none_since [] ys least r same = none_at ys least r (omega (arith, same))
none_since (Queued f ∷ xs) ys least r same = none_since xs ys least r same
none_since (Stored n log ∷ xs) ys least r same = none_since xs ys n r.1 (omega (arith, r.0, same))

-- the first of some frames are the first of those and of others behind them
prefix_take : (n m : ℕ) (xs ys : List Frame) → n ≤ m → (rest : List Frame) × (take m (xs ++ ys) ≡ take n xs ++ rest)
prefix_take zero m xs ys le = (take m (xs ++ ys), refl)
prefix_take (suc n) zero xs ys le = absurd (omega (arith, le))
prefix_take (suc n) (suc m) [] ys le = (take (suc m) ys, refl)
prefix_take (suc n) (suc m) (x ∷ xs) ys le = let r = prefix_take n m xs ys (omega (arith, le)) in (r.0, ap (λ (l : List Frame). x ∷ l) r.1)

-- what is stored is the beginning of what is stored later
stored_take : (xs ys : List LogNote) → (rest : List Frame) × (take (stored (xs ++ ys)) (queued (xs ++ ys)) ≡ take (stored xs) (queued xs) ++ rest)
stored_take xs ys =
    let more : stored (xs ++ ys) ≡ max (stored xs) (stored ys) = stored-append xs ys in
    let r = prefix_take (stored xs) (stored (xs ++ ys)) (queued xs) (queued ys) (omega (arith, more)) in
    (r.0, ap (λ (l : List Frame). take (stored (xs ++ ys)) l) (queued-append xs ys) ∙ r.1)

-- a frame takes no moment back
moment_step : (is : Bool) (kept clock : ℕ) → kept ≤ (if is then max kept clock else kept)
moment_step true kept clock = omega arith
moment_step false kept clock = omega arith

moment_grows : (fs : List Frame) (kept : ℕ) → kept ≤ moment_in kept fs
moment_grows [] kept = omega arith
moment_grows (f ∷ fs) kept =
    let next : ℕ = if nat_eq f.kind 2 then max kept f.clock else kept in
    let here : kept ≤ next = moment_step (nat_eq f.kind 2) kept f.clock in
    let rest : next ≤ moment_in next fs = moment_grows fs next in
    omega (arith, here, rest)

-- what is said to be stored by the first notes is so by all
commits_on : (o : Opened) (xs ys : List LogNote) → commits_stored o xs ≤ commits_stored o (xs ++ ys)
commits_on o xs ys =
    let r = stored_take xs ys in
    let counted : commits_in (take (stored (xs ++ ys)) (queued (xs ++ ys))) ≡ commits_in (take (stored xs) (queued xs)) + commits_in r.0 =
    ap (λ (l : List Frame). commits_in l) r.1 ∙ commits-append (take (stored xs) (queued xs)) r.0 in
    omega (arith, counted)

moment_on : (o : Opened) (xs ys : List LogNote) → moment_stored o xs ≤ moment_stored o (xs ++ ys)
moment_on o xs ys =
    let r = stored_take xs ys in
    let same : moment_stored o (xs ++ ys) ≡ moment_in (moment_stored o xs) r.0 =
    ap (λ (l : List Frame). moment_in o.moment l) r.1 ∙ moment-append (take (stored xs) (queued xs)) r.0 o.moment in
    let more : moment_stored o xs ≤ moment_in (moment_stored o xs) r.0 = moment_grows r.0 (moment_stored o xs) in
    omega (arith, same, more)

-- what was queued as a commit is so by all
pub queued_on : (o : Opened) (xs ys : List LogNote) (commit : ℕ) (f : Frame) → IsPrefix xs ys → IsQueuedAs o xs commit f → IsQueuedAs o ys commit f
queued_on o xs ys commit f p was =
    let a = was.among in
    record {
      among = record {
        before = a.before;
        behind = a.behind ++ queued p.0;
        is = ap (λ (l : List LogNote). queued l) (sym p.1) ∙ queued-append xs p.0 ∙ ap (λ (l : List Frame). l ++ queued p.0) a.is ∙ append_assoc a.before (f ∷ a.behind) (queued p.0);
        kind = a.kind;
        number = a.number;
      };
    }

-- where the first of some frames have more commits than those before a frame, it is among them
take_past : (n : ℕ) (before behind : List Frame) (f : Frame) → commits_in before < commits_in (take n (before ++ f ∷ behind)) → (rest : List Frame) × (take n (before ++ f ∷ behind) ≡ before ++ f ∷ rest)
take_past zero before behind f lt = absurd (omega (arith, lt))
take_past (suc n) [] behind f lt = (take n behind, refl)
take_past (suc n) (g ∷ before) behind f lt = let r = take_past n before behind f (omega (arith, lt)) in (r.0, ap (λ (l : List Frame). g ∷ l) r.1)

-- a commit whose number is not above those of the first of some frames is among these
commit_in_first : (o : Opened) (fs : List Frame) (n commit : ℕ) (f : Frame) → commit ≤ o.commits + commits_in (take n fs) → IsCommitIn o fs commit f → IsCommitIn o (take n fs) commit f
commit_in_first o fs n commit f le was =
    let is : take n fs ≡ take n (was.before ++ f ∷ was.behind) = ap (λ (l : List Frame). take n l) was.is in
    let counted : commits_in (take n fs) ≡ commits_in (take n (was.before ++ f ∷ was.behind)) = ap (λ (l : List Frame). commits_in l) is in
    let r = take_past n was.before was.behind f (omega (arith, le, was.number, counted)) in
    record { before = was.before; behind = r.0; is = is ∙ r.1; kind = was.kind; number = was.number }

-- what is left where at least what is stored is left
pub keeps_stored : (o : Opened) (notes : List LogNote) (fs : List Frame) (image : List ℕ) → HasFirst fs (queued notes) (stored notes) image → KeepsStored o notes fs image
keeps_stored o notes fs image h =
    let qs = queued notes in
    let p = prefix_take (stored notes) h.0 qs [] h.2 in
    let is : take h.0 qs ≡ take (stored notes) qs ++ p.0 = ap (λ (l : List Frame). take h.0 l) (sym (append-nil qs)) ∙ p.1 in
    let counted : commits_in (take h.0 qs) ≡ commits_in (take (stored notes) qs) + commits_in p.0 = ap (λ (l : List Frame). commits_in l) is ∙ commits-append (take (stored notes) qs) p.0 in
    let kept : moment_in o.moment (take h.0 qs) ≡ moment_in (moment_stored o notes) p.0 = ap (λ (l : List Frame). moment_in o.moment l) is ∙ moment-append (take (stored notes) qs) p.0 o.moment in
    let later : moment_stored o notes ≤ moment_in (moment_stored o notes) p.0 = moment_grows p.0 (moment_stored o notes) in
    record {
      left = take h.0 qs;
      behind = drop h.0 qs;
      waiting = h.1;
      is = h.4;
      first = sym (take-append-drop h.0 qs);
      commits = omega (arith, counted);
      each = λ commit f le was. commit_in_first o qs h.0 commit f (omega (arith, le, counted)) was.among;
      moment = omega (arith, kept, later);
    }

pub knows_on : (o : Opened) (xs ys : List LogNote) → IsPrefix xs ys → (commits_stored o xs ≤ commits_stored o ys) × (moment_stored o xs ≤ moment_stored o ys)
knows_on o xs ys p =
    let P : List LogNote → Type 0 = λ l. (commits_stored o xs ≤ commits_stored o l) × (moment_stored o xs ≤ moment_stored o l) in
    subst P p.1 (commits_on o xs p.0, moment_on o xs p.0)
