-- What a crash leaves now of a shared log.
use Rattle.std.proofs.Common.{◌≡◌, ℕ, ◌++◌, List, [], ◌∷◌, max, Option, Some, None, inl, inr, sym, subst, arith}
use Rattle.std.proofs.lemmas.Bool.{cases_lt}
use Rattle.disks.specs.Devices.{DiskCall, MayLeave, device}
use Rattle.disks.specs.Histories.{History, device_of}
use Rattle.disks.specs.Moments.{EachImage, EachSince, Leaves}
use Rattle.record_log.specs.Frames.{Frame}
use Rattle.record_log.specs.Images.{IsLog}
use Rattle.record_log.specs.Logs.{LogView}
use Rattle.shared_log.specs.LogValues.{LogValueView, IsThere, StandsFor}
use Rattle.shared_log.specs.Notes.{LogNote, Opened, Queued, Stored, HasFirst, StaysFrom, StayStored, queued, stored}

-- the last of the moments of some calls
each_last : (start : List ℕ) (earlier calls : List DiskCall) (P : List ℕ → Type 0) → EachSince start earlier calls P → EachImage (device start (calls ++ earlier)) P
each_last start earlier [] P each = each
each_last start earlier (call ∷ calls) P each = each.0

-- each image that a crash may leave now has the property, where there is a history
abbrev LeavesNow : Option History → (List ℕ → Type 0) → Type 0
LeavesNow None P = Unit {0}
LeavesNow (Some h) P = EachImage (device_of h) P

leaves_last : (before now : Option History) (P : List ℕ → Type 0) → Leaves before now P → LeavesNow now P
leaves_last None now P leaves = subst (λ (o : Option History). LeavesNow o P) (sym leaves) tt
leaves_last (Some h) now P leaves = subst (λ (o : Option History). LeavesNow o P) (sym leaves.1) (each_last h.start h.calls leaves.0 P leaves.2)

-- the most that was said to be stored is left
last_first : (o : Opened) (notes before : List LogNote) (now : Option History) (fs : List Frame) → IsLog o.log.history o.log.gate fs → StayStored o notes before now → LeavesNow now (HasFirst fs (queued notes) (stored before))
last_first o notes [] now fs opened stay = leaves_last o.log.history now (HasFirst fs (queued notes) 0) (stay fs opened)
last_first o notes (Queued f ∷ before) now fs opened stay = last_first o notes before now fs opened stay
last_first o notes (Stored n log ∷ before) now fs opened stay = elim (cases_lt (stored before) n) [
  | inl lt ↦ (let most : max n (stored before) ≡ n = omega (arith, lt) in
      subst (λ (k : ℕ). LeavesNow now (HasFirst fs (queued notes) k)) (sym most) (leaves_last log.history now (HasFirst fs (queued notes) n) (stay.0 fs opened)))
  | inr le ↦ (let most : max n (stored before) ≡ stored before = omega (arith, le) in
      subst (λ (k : ℕ). LeavesNow now (HasFirst fs (queued notes) k)) (sym most) (last_first o notes before now fs opened stay.1))
]

-- of a log that is there
there_stays : (v : LogValueView) (notes : List LogNote) (log : LogView) → StandsFor v notes → v.log ≡ Some log → StayStored v.opened notes notes log.history
there_stays v notes log stands log_is = let there : IsThere v notes (Some log) = subst (λ (l : Option LogView). IsThere v notes l) log_is stands.there in there.0

pub outlives : (v : LogValueView) (notes : List LogNote) (log : LogView) (h : History) (fs : List Frame) (image : List ℕ)
    → StandsFor v notes → v.log ≡ Some log → log.history ≡ Some h → IsLog v.opened.log.history v.opened.log.gate fs → MayLeave (device_of h) image → HasFirst fs (queued notes) (stored notes) image
outlives v notes log h fs image stands log_is history opened may =
    let now : LeavesNow (Some h) (HasFirst fs (queued notes) (stored notes)) =
    subst (λ (o : Option History). LeavesNow o (HasFirst fs (queued notes) (stored notes))) history (last_first v.opened notes notes log.history fs opened (there_stays v notes log stands log_is)) in
    now image may

-- what an entry said stays so since then
said_stays : (o : Opened) (notes before later : List LogNote) (n : ℕ) (shown : LogView) (now : Option History) → StayStored o notes (before ++ Stored n shown ∷ later) now → StaysFrom o notes n shown now
said_stays o notes [] later n shown now stay = stay.0
said_stays o notes (Queued f ∷ before) later n shown now stay = said_stays o notes before later n shown now stay
said_stays o notes (Stored m l ∷ before) later n shown now stay = said_stays o notes before later n shown now stay.1

-- and what the log had when it was opened since the opening
opening_stays : (o : Opened) (notes before : List LogNote) (now : Option History) → StayStored o notes before now → StaysFrom o notes 0 o.log now
opening_stays o notes [] now stay = stay
opening_stays o notes (Queued f ∷ before) now stay = opening_stays o notes before now stay
opening_stays o notes (Stored n log ∷ before) now stay = opening_stays o notes before now stay.1

pub outlives_since : (v : LogValueView) (notes before later : List LogNote) (count : ℕ) (shown log : LogView) (fs : List Frame)
    → StandsFor v notes → v.log ≡ Some log → IsLog v.opened.log.history v.opened.log.gate fs → notes ≡ before ++ Stored count shown ∷ later → Leaves shown.history log.history (HasFirst fs (queued notes) count)
outlives_since v notes before later count shown log fs stands log_is opened is =
    said_stays v.opened notes before later count shown log.history (subst (λ (l : List LogNote). StayStored v.opened notes l log.history) is (there_stays v notes log stands log_is)) fs opened

pub outlives_opening : (v : LogValueView) (notes : List LogNote) (log : LogView) (fs : List Frame)
    → StandsFor v notes → v.log ≡ Some log → IsLog v.opened.log.history v.opened.log.gate fs → Leaves v.opened.log.history log.history (HasFirst fs (queued notes) 0)
outlives_opening v notes log fs stands log_is opened = opening_stays v.opened notes notes log.history (there_stays v notes log stands log_is) fs opened
