-- What a disk is, and what a crash may leave of it, while it begins to be read.
use Rattle.std.proofs.Common.{◌≡◌, ℕ, ◌<◌, ◌≤◌, true, false, List, [], ◌∷◌, ◌++◌, length, Option, Some, None, Result, Ok, Err, refl, ap, sym, subst, inl, inr, arith}
use Rattle.std.proofs.lemmas.List.{drop_all}
use Rattle.disks.specs.Devices.{Wrote, Tore, Synced, at_rest, over}
use Rattle.disks.specs.Histories.{History, device_of, Goes, HasLength}
use Rattle.disks.proofs.Chain.{goes_on, goes_torn}
use Rattle.record_log.specs.Frames.{mark}
use Rattle.record_log.specs.Images.{new_log, empty_length}
use Rattle.record_log.specs.Openings.{IsReading, LeavesBegun, LeavesStart, HasBegun, HasBadMark}
use Rattle.record_log.specs.Starts.{MarkIs}
use Rattle.record_log.specs.Stores.{HasStored}
use Rattle.record_log.proofs.ImageLemmas.{rest_image}

-- the disk has no more bytes than a new log
abbrev pub IsShort : Option History → Type 0
IsShort None = Unit {0}
IsShort (Some h) = length (device_of h).seen ≤ empty_length

-- a length after the first sync is that before it
pub synced_short : (before mid : Option History) (size : ℕ) → Goes before mid (Synced ∷ []) → HasLength mid size → size ≤ 5 → IsShort before
synced_short None mid size g l h = tt
synced_short (Some b) mid size g l h =
    let P : Option History → Type 0 = λ m. HasLength m size → length (device_of b).seen ≤ empty_length in
    subst P (sym g) (λ k. let q : size ≡ length (device_of b).seen = k in omega (arith, q, h)) l

-- a new log over a disk that has no more bytes
over_new : (seen : List ℕ) → length seen ≤ empty_length → over seen 0 new_log ≡ new_log
over_new seen h = ap (λ (x : List ℕ). new_log ++ x) (drop_all 5 seen h)

-- what came behind the first sync came
pub begun_start : (before after : Option History) → LeavesBegun before after → LeavesStart before after
begun_start None after l = l
begun_start (Some h) after l = inr l

-- before the first sync
pub start_0 : (before after : Option History) → Goes before after [] → LeavesStart before after
start_0 None after g = g
start_0 (Some h) after g = inl g

-- after the first sync
begun_1 : (before after : Option History) → Goes before after (Synced ∷ []) → LeavesBegun before after
begun_1 None after g = g
begun_1 (Some h) after g = ([], g, λ image m. inl (rest_image (device_of h).seen image m))

-- after the write of a new log
begun_2 : (before after : Option History) → IsShort before → Goes before after (Wrote 0 new_log ∷ Synced ∷ []) → LeavesBegun before after
begun_2 None after short g = g
begun_2 (Some h) after short g =
    (Wrote 0 new_log ∷ [], g, (λ image m. inr (short, omega (arith, m.no_longer, short)), λ image m. inl (rest_image (device_of h).seen image m)))

-- after one that tore
begun_2_torn : (before after : Option History) (left : List ℕ) → IsShort before → Goes before after (Tore 0 new_log left ∷ Synced ∷ []) → LeavesBegun before after
begun_2_torn None after left short g = g
begun_2_torn (Some h) after left short g =
    (Tore 0 new_log left ∷ [], g, (λ image m. inr (short, omega (arith, m.no_longer, short)), λ image m. inl (rest_image (device_of h).seen image m)))

-- after the second sync
begun_3 : (before after : Option History) → IsShort before → Goes before after (Synced ∷ Wrote 0 new_log ∷ Synced ∷ []) → LeavesBegun before after
begun_3 None after short g = g
begun_3 (Some h) after short g =
    let size : length (over (device_of h).seen 0 new_log) ≡ 5 = ap (λ (x : List ℕ). length x) (over_new (device_of h).seen short) in (
      Synced ∷ Wrote 0 new_log ∷ [],
      g,
      (
        λ image m. inr (short, omega (arith, m.no_longer, size)),
        (λ image m. inr (short, omega (arith, m.no_longer, short)), λ image m. inl (rest_image (device_of h).seen image m)),
      ),
    )

-- a new log was written and synced
pub leaves_new : (before mid after : Option History) → IsShort before → Goes before mid (Synced ∷ []) → Goes mid after (Synced ∷ Wrote 0 new_log ∷ []) → LeavesBegun before after
leaves_new before mid after short g s = begun_3 before after short (goes_on before mid after (Synced ∷ []) (Synced ∷ Wrote 0 new_log ∷ []) g s)

-- whatever became of a new log
pub start_new : {E : Type 0} (before mid after : Option History) (r : Result (Unit {0}) E) → IsShort before → Goes before mid (Synced ∷ []) → HasStored mid after 0 new_log r → LeavesStart before after
start_new before mid after (Ok done) short g s = begun_start before after (leaves_new before mid after short g s)
start_new before mid after (Err failed) short g (inl h) =
    begun_start before after (begun_2 before after short (goes_on before mid after (Synced ∷ []) (Wrote 0 new_log ∷ []) g h))
start_new before mid after (Err failed) short g (inr t) =
    elim (goes_torn before mid after (Synced ∷ []) 0 new_log g t) [
      | inl same ↦ begun_start before after (begun_1 before after same)
      | inr torn ↦ begun_start before after (begun_2_torn before after torn.0 short torn.1)
    ]

-- a new log is at its gate
pub begun_new : (before mid after : Option History) → IsShort before → Goes before mid (Synced ∷ []) → Goes mid after (Synced ∷ Wrote 0 new_log ∷ []) → HasBegun before after 4
begun_new None mid after short g s = goes_on None mid after (Synced ∷ []) (Synced ∷ Wrote 0 new_log ∷ []) g s
begun_new (Some h) mid after short g s =
    let P : Option History → Type 0 = λ m. IsReading m 4 [] (0 ∷ []) in
    (0 ∷ [], subst P (sym (goes_on (Some h) mid after (Synced ∷ []) (Synced ∷ Wrote 0 new_log ∷ []) g s)) (ap at_rest (over_new (device_of h).seen short), refl), inr (short, refl))

-- a log that was there is at its first gate
pub begun_old : (before mid after : Option History) (size : ℕ) → Goes before mid (Synced ∷ []) → Goes mid after [] → HasLength mid size → 5 < size → MarkIs mid true → HasBegun before after 4
begun_old None mid after size g s l long m = goes_on None mid after (Synced ∷ []) [] g s
begun_old (Some h) mid after size g s l long m =
    let R : Option History → Type 0 = λ k. HasLength k size → empty_length < length (device_of h).seen in
    let more = subst R (sym g) (λ k. let q : size ≡ length (device_of h).seen = k in omega (arith, q, long)) l in
    let Q : Option History → Type 0 = λ k. MarkIs k true → (rest : List ℕ) × ((device_of h).seen ≡ mark ++ rest) in
    let found = subst Q (sym g) (λ k. k) m in
    let P : Option History → Type 0 = λ k. IsReading k 4 [] found.0 in
    (found.0, subst P (sym (goes_on (Some h) mid after (Synced ∷ []) [] g s)) (ap at_rest found.1, refl), inl (found.1, more))

-- a disk that is longer and has no mark
pub bad_mark : (before mid : Option History) (size : ℕ) → Goes before mid (Synced ∷ []) → HasLength mid size → 5 < size → MarkIs mid false → HasBadMark before
bad_mark None mid size g l h m = tt
bad_mark (Some b) mid size g l h m =
    let P : Option History → Type 0 = λ k. HasLength k size → MarkIs k false → HasBadMark (Some b) in
    subst P (sym g) (λ l m. (let q : size ≡ length (device_of b).seen = l in omega (arith, q, h), m)) l m

-- nothing but reads came behind the first sync
pub leaves_read : (before mid after : Option History) → Goes before mid (Synced ∷ []) → Goes mid after [] → LeavesBegun before after
leaves_read before mid after g s = begun_1 before after (goes_on before mid after (Synced ∷ []) [] g s)

pub start_read : (before mid after : Option History) → Goes before mid (Synced ∷ []) → Goes mid after [] → LeavesStart before after
start_read before mid after g s = begun_start before after (leaves_read before mid after g s)
