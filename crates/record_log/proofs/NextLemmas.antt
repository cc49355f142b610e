-- What a step of reading finds, and what a crash may leave of a gate that is closed.
use Rattle.std.proofs.Common.{◌≡◌, ◌≢◌, ℕ, ◌+◌, ◌<◌, ◌≤◌, List, [], ◌∷◌, ◌++◌, length, drop, Option, Some, None, Result, Ok, Err, refl, ap, sym, ◌∙◌, subst, inl, inr, arith, length-drop}
use Rattle.std.proofs.lemmas.List.{append-nil, drop_at}
use Rattle.disks.specs.Devices.{Wrote, Tore, Synced, Device, at_rest, after_call, over}
use Rattle.disks.specs.Histories.{History, device_of, Goes, IsWithin}
use Rattle.disks.specs.Moments.{EachImage}
use Rattle.record_log.specs.declared.gate.Gate.TheVariants.{Open, Shut}
use Rattle.record_log.specs.declared.log_record.LogRecord.{LogRecord}
use Rattle.record_log.specs.declared.refusal.LogRefusal.{LogRefusal}
use Rattle.record_log.specs.declared.refusal.LogRefusal.TheVariants.{BadMark, BadRecord, DiskFault, Memory}
use Rattle.record_log.specs.Frames.{Frame, Fits, open_gate, closed_gate, opened, front_of}
use Rattle.record_log.specs.Gates.{HasGate}
use Rattle.record_log.specs.Images.{IsLog}
use Rattle.record_log.specs.Logs.{LogView}
use Rattle.record_log.specs.Openings.{IsReading, IsClosing, LeavesClosing, HasRecord, HasEnded, Finds, IsBad}
use Rattle.record_log.specs.Records.{record_of}
use Rattle.record_log.specs.Stores.{HasStored, HasClosed}
use Rattle.record_log.proofs.ImageLemmas.{rest_image, one_image, wrote_one}

-- what is next to read is what the disk has from the place on
reads_rest : (h : History) (place : ℕ) (fs : List Frame) (rest : List ℕ) → IsReading (Some h) place fs rest → drop place (device_of h).seen ≡ rest
reads_rest h place fs rest r = ap (λ (d : Device). drop place d.seen) r.0 ∙ drop_at (front_of fs) rest place (sym r.1)

-- a gate that was read is within the disk
pub gate_within : (before mid : Option History) (place gate : ℕ) → Goes before mid [] → HasGate before place (Ok (Shut gate)) → IsWithin mid place
gate_within None mid place gate g s = let P : Option History → Type 0 = λ m. IsWithin m place in subst P (sym g) tt
gate_within (Some h) mid place gate g s =
    let P : Option History → Type 0 = λ m. IsWithin m place in
    let some : length (drop place (device_of h).seen) ≡ 1 + length s.0 = ap (λ (x : List ℕ). length x) s.1 ∙ (let q : length (gate ∷ s.0) ≡ 1 + length s.0 = omega arith in q) in
    subst P (sym g) (let q : place ≤ length (device_of h).seen = omega (arith, some, length-drop place (device_of h).seen) in q)

-- nothing was written
pub leaves_same : (before after : Option History) (place : ℕ) (fs : List Frame) (rest : List ℕ) → Goes before after [] → IsReading before place fs rest → LeavesClosing before after fs rest
leaves_same None after place fs rest g r = absurd r
leaves_same (Some h) after place fs rest g r =
    let P : Device → Type 0 = λ d. EachImage d (IsClosing fs rest) in
    ([], g, subst P (sym r.0) (λ image m. inl (rest_image (front_of fs ++ rest) image m)))

-- The disk before a gate is closed.
record IsShutAt (h : History) (place gate : ℕ) (fs : List Frame) (rest : List ℕ) : Type 0 where
  behind : List ℕ
  bytes : rest ≡ gate ∷ behind
  shut : gate ≢ open_gate
  torn : gate ≢ closed_gate
  device : device_of h ≡ at_rest (front_of fs ++ gate ∷ behind)
  place_is : place ≡ length (front_of fs)

-- any byte at the gate
each_byte : (h : History) (place gate : ℕ) (fs : List Frame) (rest seen : List ℕ) (limit : ℕ) (s : IsShutAt h place gate fs rest)
    → EachImage (record { seen = seen; synced = front_of fs ++ gate ∷ s.behind; ranges = record { start = length (front_of fs); size = 1 } ∷ []; limit = limit }) (IsClosing fs rest)
each_byte h place gate fs rest seen limit s = λ image m.
    let found = one_image (front_of fs) s.behind seen gate limit image m in
    inr (gate, found.0, s.behind, found.1, s.bytes, s.shut, s.torn, found.2)

each_0 : (h : History) (place gate : ℕ) (fs : List Frame) (rest : List ℕ) → IsShutAt h place gate fs rest → EachImage (device_of h) (IsClosing fs rest)
each_0 h place gate fs rest s =
    let P : Device → Type 0 = λ d. EachImage d (IsClosing fs rest) in
    subst P (sym s.device) (λ image m. inl (rest_image (front_of fs ++ gate ∷ s.behind) image m ∙ ap (λ (x : List ℕ). front_of fs ++ x) (sym s.bytes)))

each_1 : (h : History) (place gate : ℕ) (fs : List Frame) (rest : List ℕ) → IsShutAt h place gate fs rest → EachImage (after_call (Wrote place (closed_gate ∷ [])) (device_of h)) (IsClosing fs rest)
each_1 h place gate fs rest s =
    let P : Device → Type 0 = λ d. EachImage (after_call (Wrote place (closed_gate ∷ [])) d) (IsClosing fs rest) in
    subst P (sym s.device) (
    let Q : ℕ → Type 0 = λ n. EachImage (after_call (Wrote n (closed_gate ∷ [])) (at_rest (front_of fs ++ gate ∷ s.behind))) (IsClosing fs rest) in
    subst Q (sym s.place_is) (each_byte h place gate fs rest _ _ s))

each_1_torn : (h : History) (place gate : ℕ) (fs : List Frame) (rest left : List ℕ) → IsShutAt h place gate fs rest → EachImage (after_call (Tore place (closed_gate ∷ []) left) (device_of h)) (IsClosing fs rest)
each_1_torn h place gate fs rest left s =
    let P : Device → Type 0 = λ d. EachImage (after_call (Tore place (closed_gate ∷ []) left) d) (IsClosing fs rest) in
    subst P (sym s.device) (
    let Q : ℕ → Type 0 = λ n. EachImage (after_call (Tore n (closed_gate ∷ []) left) (at_rest (front_of fs ++ gate ∷ s.behind))) (IsClosing fs rest) in
    subst Q (sym s.place_is) (each_byte h place gate fs rest left _ s))

-- the disk once the gate is closed
closed_is : (h : History) (place gate : ℕ) (fs : List Frame) (rest : List ℕ) (s : IsShutAt h place gate fs rest)
    → after_call Synced (after_call (Wrote place (closed_gate ∷ [])) (device_of h)) ≡ at_rest (front_of fs ++ closed_gate ∷ s.behind)
closed_is h place gate fs rest s =
    let P : Device → Type 0 = λ d. after_call Synced (after_call (Wrote place (closed_gate ∷ [])) d) ≡ at_rest (front_of fs ++ closed_gate ∷ s.behind) in
    subst P (sym s.device) (
    let Q : ℕ → Type 0 = λ n. at_rest (over (front_of fs ++ gate ∷ s.behind) n (closed_gate ∷ [])) ≡ at_rest (front_of fs ++ closed_gate ∷ s.behind) in
    subst Q (sym s.place_is) (ap at_rest (wrote_one (front_of fs) s.behind gate closed_gate)))

each_2 : (h : History) (place gate : ℕ) (fs : List Frame) (rest : List ℕ) → IsShutAt h place gate fs rest → EachImage (after_call Synced (after_call (Wrote place (closed_gate ∷ [])) (device_of h))) (IsClosing fs rest)
each_2 h place gate fs rest s =
    let P : Device → Type 0 = λ d. EachImage d (IsClosing fs rest) in
    subst P (sym (closed_is h place gate fs rest s)) (λ image m. inr (
      gate,
      closed_gate,
      s.behind,
      [],
      s.bytes,
      s.shut,
      s.torn,
      rest_image (front_of fs ++ closed_gate ∷ s.behind) image m ∙ ap (λ (x : List ℕ). front_of fs ++ closed_gate ∷ x) (sym (append-nil s.behind)),
    ))

-- a gate that was read, and is not closed
shut_at : (h : History) (place gate : ℕ) (fs : List Frame) (rest : List ℕ) → IsReading (Some h) place fs rest → HasGate (Some h) place (Ok (Shut gate)) → gate ≢ closed_gate → IsShutAt h place gate fs rest
shut_at h place gate fs rest r s torn =
    let bytes : rest ≡ gate ∷ s.0 = sym (reads_rest h place fs rest r) ∙ s.1 in
    record {
      behind = s.0;
      bytes = bytes;
      shut = s.2;
      torn = torn;
      device = r.0 ∙ ap (λ (x : List ℕ). at_rest (front_of fs ++ x)) bytes;
      place_is = r.1;
    }

-- what closing a gate leaves
leaves_stored : {E : Type 0} (h : History) (after : Option History) (place gate : ℕ) (fs : List Frame) (rest : List ℕ) (r : Result (Unit {0}) E) → IsShutAt h place gate fs rest
    → HasStored (Some h) after place (closed_gate ∷ []) r → LeavesClosing (Some h) after fs rest
leaves_stored h after place gate fs rest (Ok done) s g =
    (Synced ∷ Wrote place (closed_gate ∷ []) ∷ [], g, (each_2 h place gate fs rest s, (each_1 h place gate fs rest s, each_0 h place gate fs rest s)))
leaves_stored h after place gate fs rest (Err failed) s (inl g) = (Wrote place (closed_gate ∷ []) ∷ [], g, (each_1 h place gate fs rest s, each_0 h place gate fs rest s))
leaves_stored h after place gate fs rest (Err failed) s (inr (inl same)) = ([], same, each_0 h place gate fs rest s)
leaves_stored h after place gate fs rest (Err failed) s (inr (inr torn)) =
    (Tore place (closed_gate ∷ []) torn.0 ∷ [], torn.2, (each_1_torn h place gate fs rest torn.0 s, each_0 h place gate fs rest s))

-- a read changes no history
same_history : (h : History) (mid after : Option History) {E : Type 0} (place gate : ℕ) (r : Result (Unit {0}) E) → Goes (Some h) mid [] → HasClosed mid after place gate r → HasClosed (Some h) after place gate r
same_history h mid after {E} place gate r g c =
    let P : Option History → Type 0 = λ m. HasClosed m after place gate r → HasClosed (Some h) after place gate r in subst P (sym g) (λ k. k) c

pub leaves_closed : {E : Type 0} (before mid after : Option History) (place gate : ℕ) (fs : List Frame) (rest : List ℕ) (r : Result (Unit {0}) E) → Goes before mid [] → IsReading before place fs rest
    → HasGate before place (Ok (Shut gate)) → HasClosed mid after place gate r → LeavesClosing before after fs rest
leaves_closed None mid after place gate fs rest r g reading s c = absurd reading
leaves_closed (Some h) mid after place gate fs rest r g reading s c =
    elim (same_history h mid after place gate r g c) [
      | inl same ↦ leaves_same (Some h) after place fs rest same.1 reading
      | inr stored ↦ leaves_stored h after place gate fs rest r (shut_at h place gate fs rest reading s stored.0) stored.1
    ]

hidden_stored : {E : Type 0} (mid after : Option History) (place gate : ℕ) (r : Result (Unit {0}) E) → HasClosed mid after place gate r → mid ≡ None → after ≡ None
hidden_stored None after place gate r (inl c) none = c.1
hidden_stored None after place gate (Ok done) (inr c) none = c.1
hidden_stored None after place gate (Err failed) (inr c) none = elim c.1 [ inl g ↦ g | inr t ↦ t ]
hidden_stored (Some h) after place gate r c none = cc

-- a disk that shows no history still shows none
pub hidden_closed : {E : Type 0} (before mid after : Option History) (place gate : ℕ) (r : Result (Unit {0}) E) → Goes before mid [] → HasClosed mid after place gate r → before ≡ None → after ≡ None
hidden_closed before mid after place gate r g c none =
    let P : Option History → Type 0 = λ b. Goes b mid [] → mid ≡ None in
    let mid_none : mid ≡ None = subst P (sym none) (λ k. k) g in
    hidden_stored mid after place gate r c mid_none

-- the same of histories and places
ended_at : (E : Type 0) (before after mid : Option History) (place other_place gate : ℕ) (fs : List Frame) (rest : List ℕ) (done : Unit {0}) → Goes before mid [] → IsReading before place fs rest
    → HasGate before place (Ok (Shut gate)) → HasClosed {E = E} mid after place gate (Ok done) → other_place ≡ place
    → (g : ℕ) × (behind : List ℕ) × (rest ≡ g ∷ behind) × (g ≢ open_gate) × IsLog after other_place fs × (other_place ≡ place)
unfolding shut_at
ended_at E None after mid place other_place gate fs rest done g reading s c same = absurd reading
ended_at E (Some h) after mid place other_place gate fs rest done g reading s c same =
    let bytes : rest ≡ gate ∷ s.0 = sym (reads_rest h place fs rest reading) ∙ s.1 in
    let P : Option History → Type 0 = λ m. IsLog m other_place fs in
    let log : IsLog after other_place fs = elim (same_history h mid after {E = E} place gate (Ok done) g c) [
      | inl shut ↦ subst P (sym shut.1) (s.0, reading.0 ∙ ap (λ (x : List ℕ). at_rest (front_of fs ++ x)) (bytes ∙ ap (λ (b : ℕ). b ∷ s.0) shut.0), same ∙ reading.1)
      | inr stored ↦ subst P (sym stored.1) (s.0, closed_is h place gate fs rest (shut_at h place gate fs rest reading s stored.0), same ∙ reading.1)
    ] in
    (gate, s.0, bytes, s.2, log, same)

read_at : (before after : Option History) (place other_place : ℕ) (fs : List Frame) (rest : List ℕ) (says : LogRecord) (next : ℕ) → Goes before after [] → IsReading before place fs rest
    → HasGate before place (Ok (Open says next)) → other_place ≡ next
    → (f : Frame) × (more : List ℕ) × Fits f × (record_of f ≡ Some says) × (rest ≡ opened f ++ more) × (after ≡ before) × (other_place ≡ place + length (opened f))
read_at None after place other_place fs rest says next g reading s same = absurd reading
read_at (Some h) after place other_place fs rest says next g reading s same =
    (s.0, s.1, s.2, s.3, sym (reads_rest h place fs rest reading) ∙ s.4, g, same ∙ s.5)

bad_none : (before : Option History) (place : ℕ) (fs : List Frame) (rest : List ℕ) → IsReading before place fs rest → HasGate before place (Err BadMark) → ⊥
bad_none None place fs rest reading s = reading
bad_none (Some h) place fs rest reading s = s

bad_at : (before after : Option History) (place bad : ℕ) (fs : List Frame) (rest : List ℕ) → Goes before after [] → IsReading before place fs rest → HasGate before place (Err (BadRecord bad))
    → (bad ≡ place) × IsBad rest × (after ≡ before)
bad_at None after place bad fs rest g reading s = absurd reading
bad_at (Some h) after place bad fs rest g reading s =
    let P : List ℕ → Type 0 = λ x. IsBad x in
    (s.0, subst P (reads_rest h place fs rest reading) s.1, g)

same_at : (before after : Option History) (place : ℕ) (fs : List Frame) (rest : List ℕ) → Goes before after [] → IsReading before place fs rest → after ≡ before
same_at None after place fs rest g reading = absurd reading
same_at (Some h) after place fs rest g reading = g

-- the log that is read to its end
pub ended : (E : Type 0) (old new : LogView) (mid : Option History) (gate : ℕ) (fs : List Frame) (rest : List ℕ) (done : Unit {0}) → Goes old.history mid [] → IsReading old.history old.gate fs rest
    → HasGate old.history old.gate (Ok (Shut gate)) → HasClosed {E = E} mid new.history old.gate gate (Ok done) → new.gate ≡ old.gate → HasEnded old new fs rest
ended E old new mid gate fs rest done g reading s c same =
    ended_at E old.history new.history mid old.gate new.gate gate fs rest done g reading s c same

-- a record that was read
pub read_one : (old new : LogView) (fs : List Frame) (rest : List ℕ) (says : LogRecord) (next : ℕ) → Goes old.history new.history [] → IsReading old.history old.gate fs rest
    → HasGate old.history old.gate (Ok (Open says next)) → new.gate ≡ next → HasRecord old new fs rest says
read_one old new fs rest says next g reading s same = read_at old.history new.history old.gate new.gate fs rest says next g reading s same

-- bytes that are no record
pub read_bad : (old new : LogView) (fs : List Frame) (rest : List ℕ) (refusal : LogRefusal) → Goes old.history new.history [] → IsReading old.history old.gate fs rest
    → HasGate old.history old.gate (Err refusal) → (refusal ≡ DiskFault → old.faults < new.faults) → Finds old new fs rest (Err refusal)
read_bad old new fs rest BadMark g reading s f = bad_none old.history old.gate fs rest reading s
read_bad old new fs rest (BadRecord bad) g reading s f = bad_at old.history new.history old.gate bad fs rest g reading s
read_bad old new fs rest DiskFault g reading s f = f refl
read_bad old new fs rest Memory g reading s f = same_at old.history new.history old.gate fs rest g reading
