-- What is read at a gate, by what the disk gave.
use Rattle.std.proofs.Common.{◌≡◌, ◌≢◌, ℕ, ◌+◌, ◌-◌, ◌<◌, ◌≤◌, ◌^◌, min, Bool, true, false, eqb, List, ◌∷◌, ◌++◌, length, get_or, take, drop, Option, Some, None, Ok, Err, refl, ap, sym, ◌∙◌, subst, inl, inr, append_assoc, arith, length-append, length-take, length-drop, eq-eqb, ne_eqb}
use Rattle.std.specs.Int.{w32, w64, to_be_bytes}
use Rattle.std.proofs.lemmas.Bool.{cases_eq}
use Rattle.std.proofs.lemmas.List.{drop_all, drop-drop}
use Rattle.disks.specs.Histories.{History, device_of, HasLength, Reads}
use Rattle.record_log.specs.declared.gate.Gate.TheVariants.{Open as opens, Shut as shuts}
use Rattle.record_log.specs.declared.head.AtGate.TheVariants.{Missing, Shut, Short, Open}
use Rattle.record_log.specs.declared.log_record.LogRecord.{LogRecord}
use Rattle.record_log.specs.declared.refusal.LogRefusal.{LogRefusal}
use Rattle.record_log.specs.declared.refusal.LogRefusal.TheVariants.{BadMark, BadRecord, DiskFault, Memory}
use Rattle.record_log.specs.Frames.{Frame, open_gate, head_text, opened}
use Rattle.record_log.specs.Gates.{HasGate}
use Rattle.record_log.specs.Heads.{HasHead, HasBody}
use Rattle.record_log.specs.Records.{record_of}
use Rattle.record_log.proofs.HeadLemmas.{nothing_read, first_read, full_read, short_read, split_head, frame_head, frame_is}

-- the end is before the gate
pub missing_end : (h : Option History) (place size : ℕ) → HasLength h size → size < 2 ^ 64 → size ≤ place → HasHead h place Missing
missing_end None place size l w e = tt
missing_end (Some h) place size l w e = (drop_all place (device_of h).seen (omega (arith, l, e)), omega (arith, l, w))

-- no byte was read
pub missing_read : (h : Option History) (place size count : ℕ) (head : List ℕ) → HasLength h size → size < 2 ^ 64 → Reads h place head count → 0 < length head → count ≡ 0 → HasHead h place Missing
missing_read None place size count head l w r n z = tt
missing_read (Some h) place size count head l w r n z = (nothing_read (drop place (device_of h).seen) head count r.0 n z, omega (arith, l, w))

-- the gate is not open
pub shut_read : (h : Option History) (place size count : ℕ) (head : List ℕ) → HasLength h size → size < 2 ^ 64 → Reads h place head count → 0 < count → get_or head 0 0 ≢ open_gate
    → HasHead h place (Shut (get_or head 0 0))
shut_read None place size count head l w r n g = tt
shut_read (Some h) place size count head l w r n g =
    ((drop 1 (drop place (device_of h).seen), first_read (drop place (device_of h).seen) head count r.0 r.1 n, g), omega (arith, l, w))

-- the gate is open, and there is no head
pub open_short : (h : Option History) (place size count : ℕ) (head : List ℕ) → HasLength h size → size < 2 ^ 64 → Reads h place head count → length head ≡ 14 → 0 < count → get_or head 0 0 ≡ open_gate
    → count < 14 → HasHead h place Short
open_short None place size count head l w r n z g s = tt
open_short (Some h) place size count head l w r n z g s =
    let rest : List ℕ = drop place (device_of h).seen in
    let less : length rest < length head = short_read rest head count r.0 (omega (arith, n, s)) in
    ((drop 1 rest, first_read rest head count r.0 r.1 z ∙ ap (λ (b : ℕ). b ∷ drop 1 rest) g, omega (arith, n, less)), omega (arith, l, w))

-- the gate is open, and there is a head
pub open_read : (h : Option History) (place size count kind clock length_of : ℕ) (head : List ℕ) → HasLength h size → size < 2 ^ 64 → Reads h place head count → length head ≡ 14 → get_or head 0 0 ≡ open_gate
    → 14 ≤ count → kind ≡ get_or head 1 0 → to_be_bytes w64 clock ≡ take 8 (drop 2 head) → to_be_bytes w32 length_of ≡ take 4 (drop 10 head) → HasHead h place (Open kind clock length_of)
open_read None place size count kind clock length_of head l w r n g all k c s = tt
open_read (Some h) place size count kind clock length_of head l w r n g all k c s =
    let rest : List ℕ = drop place (device_of h).seen in
    let parts : head ≡ head_text open_gate kind clock length_of =
    split_head head n
    ∙ ap (λ (b : ℕ). b ∷ get_or head 1 0 ∷ (take 8 (drop 2 head) ++ take 4 (drop 10 head))) g
    ∙ ap (λ (b : ℕ). open_gate ∷ b ∷ (take 8 (drop 2 head) ++ take 4 (drop 10 head))) (sym k)
    ∙ ap (λ (x : List ℕ). open_gate ∷ kind ∷ (x ++ take 4 (drop 10 head))) (sym c)
    ∙ ap (λ (x : List ℕ). open_gate ∷ kind ∷ (to_be_bytes w64 clock ++ x)) (sym s) in
    ((drop (length head) rest, full_read rest head count r.1 (omega (arith, n, all)) ∙ ap (λ (x : List ℕ). x ++ drop (length head) rest) parts), omega (arith, l, w))

-- fewer bytes than a body
pub body_few : (h : Option History) (place size length_of : ℕ) (body : List ℕ) → HasLength h size → size - place < length_of → HasBody h place length_of body (Ok false)
body_few None place size length_of body l s = tt
body_few (Some h) place size length_of body l s = omega (arith, l, s, length-drop place (device_of h).seen)

-- a body was read, or there are fewer bytes
pub body_read : (h : Option History) (place length_of count : ℕ) (body : List ℕ) → length body ≡ length_of → Reads h place body count → HasBody h place length_of body (Ok (eqb count length_of))
body_read None place length_of count body n r = tt
body_read (Some h) place length_of count body n r =
    let P : Bool → Type 0 = λ t. HasBody (Some h) place length_of body (Ok t) in
    elim (cases_eq count length_of) [
      | inl same ↦ subst P (sym (eq-eqb count length_of same))
          (n, full_read (drop place (device_of h).seen) body count r.1 (omega (arith, n, same)) ∙ ap (λ (k : ℕ). body ++ drop k (drop place (device_of h).seen)) n)
      | inr other ↦ subst P (sym (ne_eqb count length_of other))
          (let q : length (drop place (device_of h).seen) < length_of = omega (arith, r.0, length-take (length body) (drop place (device_of h).seen), n, other) in q)
    ]

-- where a head is, its body's place is a number of 8 bytes
from_is : (h : History) (place kind clock size from : ℕ) → HasHead (Some h) place (Open kind clock size) → from ≡ min (place + 14) (2 ^ 64 - 1) → from ≡ place + 14
from_is h place kind clock size from head e =
    let rest : length (drop place (device_of h).seen) ≡ 14 + length head.0.0 = ap (λ (x : List ℕ). length x) head.0.1 ∙ length-append (head_text open_gate kind clock size) head.0.0 in
    omega (arith, e, rest, head.1, length-drop place (device_of h).seen)

-- what stands behind a head
behind_head : (h : History) (place kind clock size : ℕ) (head : HasHead (Some h) place (Open kind clock size)) → drop (place + 14) (device_of h).seen ≡ head.0.0
behind_head h place kind clock size head = sym (drop-drop 14 place (device_of h).seen) ∙ ap (λ (x : List ℕ). drop 14 x) head.0.1

-- an open gate with fewer bytes than a head behind it
pub bad_short : (h : Option History) (place : ℕ) → HasHead h place Short → HasGate h place (Err (BadRecord place))
bad_short None place head = tt
bad_short (Some h) place head = (
  refl,
  inr (
    ap (λ (x : List ℕ). get_or x 0 0) head.0.1,
    λ f more fits e.
        absurd (let q : length (drop place (device_of h).seen) ≡ 14 + length (f.body ++ more) = ap (λ (x : List ℕ). length x) (e ∙ append_assoc (head_text open_gate f.kind f.clock (length f.body)) f.body more) ∙ length-append (head_text open_gate f.kind f.clock (length f.body)) (f.body ++ more) in omega (arith, q, head.0.2)),
  ),
)

-- no gate
pub bad_missing : (h : Option History) (place : ℕ) → HasHead h place Missing → HasGate h place (Err (BadRecord place))
bad_missing None place head = tt
bad_missing (Some h) place head = (refl, inl head.0)

-- a gate that is not open
pub gate_shut : (h : Option History) (place gate : ℕ) → HasHead h place (Shut gate) → HasGate h place (Ok (shuts gate))
gate_shut None place gate head = tt
gate_shut (Some h) place gate head = head.0

-- a head with fewer bytes than its body behind it
pub bad_body : (h : Option History) (place kind clock size from : ℕ) (body : List ℕ) → clock < 2 ^ 64 → size < 2 ^ 32 → from ≡ min (place + 14) (2 ^ 64 - 1)
    → HasHead h place (Open kind clock size) → HasBody h from size body (Ok false) → HasGate h place (Err (BadRecord place))
bad_body None place kind clock size from body c s e head b = tt
bad_body (Some h) place kind clock size from body c s e head b =
    let P : ℕ → Type 0 = λ n. length (drop n (device_of h).seen) < size in
    let few : length (drop (place + 14) (device_of h).seen) < size = subst P (from_is h place kind clock size from head e) b in
    let less : length head.0.0 < size = omega (arith, few, ap (λ (x : List ℕ). length x) (behind_head h place kind clock size head)) in (
      refl,
      inr (
        ap (λ (x : List ℕ). get_or x 0 0) head.0.1,
        λ f more fits q.
            let same = frame_head f more (drop place (device_of h).seen) head.0.0 kind clock size fits c s q head.0.1 in
            absurd (omega (arith, less, same.sizes, ap (λ (x : List ℕ). length x) same.rests, length-append f.body more)),
      ),
    )

-- the bytes of a head and its body
whole_is : (h : History) (place kind clock size from : ℕ) (body : List ℕ) (head : HasHead (Some h) place (Open kind clock size)) → from ≡ min (place + 14) (2 ^ 64 - 1)
    → HasBody (Some h) from size body (Ok true) → (behind : List ℕ) × (drop place (device_of h).seen ≡ head_text open_gate kind clock (length body) ++ (body ++ behind))
whole_is h place kind clock size from body head e b =
    let P : ℕ → Type 0 = λ n. drop n (device_of h).seen ≡ body ++ drop size (drop n (device_of h).seen) in
    let found : drop (place + 14) (device_of h).seen ≡ body ++ drop size (drop (place + 14) (device_of h).seen) = subst P (from_is h place kind clock size from head e) b.1 in (
      drop size (drop (place + 14) (device_of h).seen),
      head.0.1 ∙ ap (λ (x : List ℕ). head_text open_gate kind clock size ++ x) (sym (behind_head h place kind clock size head) ∙ found)
          ∙ ap (λ (n : ℕ). head_text open_gate kind clock n ++ (body ++ drop size (drop (place + 14) (device_of h).seen))) (sym b.0),
    )

-- a head and a body that are no record
pub bad_record : (h : Option History) (place kind clock size from : ℕ) (body : List ℕ) → clock < 2 ^ 64 → size < 2 ^ 32 → from ≡ min (place + 14) (2 ^ 64 - 1)
    → HasHead h place (Open kind clock size) → HasBody h from size body (Ok true) → record_of (record { kind = kind; clock = clock; body = body }) ≡ None → HasGate h place (Err (BadRecord place))
bad_record None place kind clock size from body c s e head b none = tt
bad_record (Some h) place kind clock size from body c s e head b none =
    let whole = whole_is h place kind clock size from body head e b in (
      refl,
      inr (
        ap (λ (x : List ℕ). get_or x 0 0) head.0.1,
        λ f more fits q.
            ap (λ (x : Frame). record_of x) (frame_is f more (drop place (device_of h).seen) body whole.0 kind clock fits c (omega (arith, b.0, s)) q whole.1) ∙ none,
      ),
    )

-- a head and a body that are a record
pub good_record : (h : Option History) (place kind clock size from next : ℕ) (body : List ℕ) (says : LogRecord) → kind < 2 ^ 8 → clock < 2 ^ 64 → size < 2 ^ 32 → from ≡ min (place + 14) (2 ^ 64 - 1)
    → next ≡ min (from + size) (2 ^ 64 - 1) → HasHead h place (Open kind clock size) → HasBody h from size body (Ok true) → record_of (record { kind = kind; clock = clock; body = body }) ≡ Some says
    → HasGate h place (Ok (opens says next))
good_record None place kind clock size from next body says k c s e n head b is = tt
good_record (Some h) place kind clock size from next body says k c s e n head b is =
    let whole = whole_is h place kind clock size from body head e b in
    let rest : length (drop place (device_of h).seen) ≡ 14 + length (body ++ whole.0) = ap (λ (x : List ℕ). length x) whole.1 ∙ length-append (head_text open_gate kind clock (length body)) (body ++ whole.0) in
    let long : length (opened (record { kind = kind; clock = clock; body = body })) ≡ 14 + length body = length-append (head_text open_gate kind clock (length body)) body in (
      record { kind = kind; clock = clock; body = body },
      whole.0,
      record { kind = k; clock = c; size = omega (arith, b.0, s) },
      is,
      whole.1 ∙ sym (append_assoc (head_text open_gate kind clock (length body)) body whole.0),
      omega (arith, n, from_is h place kind clock size from head e, rest, long, length-append body whole.0, head.1, b.0, length-drop place (device_of h).seen),
    )

-- a body that was not read for want of memory, or as the disk failed
pub gate_fault : (h : Option History) (place from size : ℕ) (body : List ℕ) (refusal : LogRefusal) → HasBody h from size body (Err refusal) → HasGate h place (Err refusal)
gate_fault None place from size body refusal b = tt
gate_fault (Some h) place from size body BadMark b = b
gate_fault (Some h) place from size body (BadRecord bad) b = absurd b
gate_fault (Some h) place from size body DiskFault b = tt
gate_fault (Some h) place from size body Memory b = tt
