-- The calls of a disk that add a batch to a log, one after the other.
use Rattle.std.proofs.Common.{◌≡◌, ◌⊎◌, ℕ, ◌+◌, List, [], ◌∷◌, ◌++◌, ◌-◌, ◌≤◌, length, take, drop, Option, Some, None, refl, ap, sym, ◌∙◌, subst, inl, inr, append_assoc, arith, length-append, length-drop}
use Rattle.std.proofs.lemmas.List.{length-take-le, take_rest}
use Rattle.disks.specs.Devices.{Wrote, Tore, Synced, Device, at_rest, after_call, over}
use Rattle.disks.specs.Histories.{History, device_of, Goes, Tears, IsWithin}
use Rattle.disks.specs.Moments.{EachImage, Leaves}
use Rattle.disks.proofs.Chain.{goes_on, goes_torn}
use Rattle.record_log.specs.Frames.{Frame, open_gate, closed_gate, all_opened, front_of, batch_of}
use Rattle.record_log.specs.Images.{IsBeforeOrAfter, IsLog}
use Rattle.record_log.specs.Appends.{HasAdded, LeavesLog}
use Rattle.record_log.proofs.ImageLemmas.{rest_image, behind_image, one_image, wrote_behind, wrote_one}
use Rattle.record_log.proofs.StandsLemmas.{front_append, opens_log, stands_closed, stands_any, first_open}

-- what a log's disk becomes
abbrev rest_of : List Frame → List ℕ → Device
rest_of fs behind = at_rest (front_of fs ++ closed_gate ∷ behind)

-- at rest
each_rest : (fs more : List Frame) (behind : List ℕ) → EachImage (rest_of fs behind) (IsBeforeOrAfter fs more)
each_rest fs more behind = λ image m. inl (stands_closed fs image behind (rest_image (front_of fs ++ closed_gate ∷ behind) image m))

-- after the write behind the gate, or one that tore
each_behind : (fs more : List Frame) (behind text seen : List ℕ) (limit : ℕ)
    → EachImage (record { seen = seen; synced = front_of fs ++ closed_gate ∷ behind; ranges = record { start = length (front_of fs) + 1; size = length text } ∷ []; limit = limit }) (IsBeforeOrAfter fs more)
each_behind fs more behind text seen limit = λ image m.
    let found = behind_image (front_of fs) behind seen closed_gate (length text) limit image m in
    inl (stands_closed fs image found.0 found.1)

-- after the write of the gate, or one that tore
each_gate : (fs more : List Frame) (text rest seen : List ℕ) (limit : ℕ) → open_gate ∷ text ≡ batch_of more
    → EachImage (record { seen = seen; synced = front_of fs ++ closed_gate ∷ (text ++ rest); ranges = record { start = length (front_of fs); size = 1 } ∷ []; limit = limit }) (IsBeforeOrAfter fs more)
each_gate fs more text rest seen limit b = λ image m.
    let found = one_image (front_of fs) (text ++ rest) seen closed_gate limit image m in
    stands_any fs more text (rest ++ found.1) image found.0 b
    (found.2 ∙ ap (λ (x : List ℕ). front_of fs ++ found.0 ∷ x) (append_assoc text rest found.1))

-- the log with the batch, at rest
each_done : (fs more : List Frame) (rest : List ℕ) → EachImage (rest_of (fs ++ more) rest) (IsBeforeOrAfter fs more)
each_done fs more rest = λ image m. inr (inr (stands_closed (fs ++ more) image rest (rest_image (front_of (fs ++ more) ++ closed_gate ∷ rest) image m)))

-- The disk after each of the calls, from a log at rest on.
pub record IsStaged (d : Device) (gate : ℕ) (fs more : List Frame) (text : List ℕ) : Type 0 where
  pub behind : List ℕ
  pub rest : d ≡ rest_of fs behind
  pub gate_is : gate ≡ length (front_of fs)
  pub batch : open_gate ∷ text ≡ batch_of more

-- the disk once the batch is stored behind the gate
pub stored_is : (d : Device) (gate : ℕ) (fs more : List Frame) (text : List ℕ) (s : IsStaged d gate fs more text)
    → after_call Synced (after_call (Wrote (gate + 1) text) d) ≡ at_rest (front_of fs ++ closed_gate ∷ (text ++ drop (length text) s.behind))
stored_is d gate fs more text s =
    let P : Device → Type 0 = λ x. after_call Synced (after_call (Wrote (gate + 1) text) x) ≡ at_rest (front_of fs ++ closed_gate ∷ (text ++ drop (length text) s.behind)) in
    subst P (sym s.rest) (
    let Q : ℕ → Type 0 = λ n. at_rest (over (front_of fs ++ closed_gate ∷ s.behind) (n + 1) text) ≡ at_rest (front_of fs ++ closed_gate ∷ (text ++ drop (length text) s.behind)) in
    subst Q (sym s.gate_is) (ap at_rest (wrote_behind (front_of fs) s.behind text closed_gate)))

-- the disk once the gate is stored too
pub done_is : (d : Device) (gate : ℕ) (fs more : List Frame) (text : List ℕ) (s : IsStaged d gate fs more text)
    → after_call Synced (after_call (Wrote gate (open_gate ∷ [])) (after_call Synced (after_call (Wrote (gate + 1) text) d))) ≡ rest_of (fs ++ more) (drop (length text) s.behind)
done_is d gate fs more text s =
    let P : Device → Type 0 = λ x. after_call Synced (after_call (Wrote gate (open_gate ∷ [])) x) ≡ rest_of (fs ++ more) (drop (length text) s.behind) in
    subst P (sym (stored_is d gate fs more text s)) (
    let Q : ℕ → Type 0 = λ n. at_rest (over (front_of fs ++ closed_gate ∷ (text ++ drop (length text) s.behind)) n (open_gate ∷ [])) ≡ rest_of (fs ++ more) (drop (length text) s.behind) in
    subst Q (sym s.gate_is) (ap at_rest (wrote_one (front_of fs) (text ++ drop (length text) s.behind) closed_gate open_gate ∙ opens_log fs more text (drop (length text) s.behind) s.batch)))

-- before the first call
pub images_0 : (d : Device) (gate : ℕ) (fs more : List Frame) (text : List ℕ) → IsStaged d gate fs more text → EachImage d (IsBeforeOrAfter fs more)
images_0 d gate fs more text s =
    let P : Device → Type 0 = λ x. EachImage x (IsBeforeOrAfter fs more) in subst P (sym s.rest) (each_rest fs more s.behind)

-- after the first write
pub images_1 : (d : Device) (gate : ℕ) (fs more : List Frame) (text : List ℕ) → IsStaged d gate fs more text
    → EachImage (after_call (Wrote (gate + 1) text) d) (IsBeforeOrAfter fs more)
images_1 d gate fs more text s =
    let P : Device → Type 0 = λ x. EachImage (after_call (Wrote (gate + 1) text) x) (IsBeforeOrAfter fs more) in
    subst P (sym s.rest) (
    let Q : ℕ → Type 0 = λ n. EachImage (after_call (Wrote (n + 1) text) (rest_of fs s.behind)) (IsBeforeOrAfter fs more) in
    subst Q (sym s.gate_is) (each_behind fs more s.behind text _ _))

-- after one that tore
pub images_1_torn : (d : Device) (gate : ℕ) (fs more : List Frame) (text left : List ℕ) → IsStaged d gate fs more text
    → EachImage (after_call (Tore (gate + 1) text left) d) (IsBeforeOrAfter fs more)
images_1_torn d gate fs more text left s =
    let P : Device → Type 0 = λ x. EachImage (after_call (Tore (gate + 1) text left) x) (IsBeforeOrAfter fs more) in
    subst P (sym s.rest) (
    let Q : ℕ → Type 0 = λ n. EachImage (after_call (Tore (n + 1) text left) (rest_of fs s.behind)) (IsBeforeOrAfter fs more) in
    subst Q (sym s.gate_is) (each_behind fs more s.behind text left _))

-- after the first sync
pub images_2 : (d : Device) (gate : ℕ) (fs more : List Frame) (text : List ℕ) → IsStaged d gate fs more text
    → EachImage (after_call Synced (after_call (Wrote (gate + 1) text) d)) (IsBeforeOrAfter fs more)
images_2 d gate fs more text s =
    let P : Device → Type 0 = λ x. EachImage x (IsBeforeOrAfter fs more) in
    subst P (sym (stored_is d gate fs more text s)) (each_rest fs more (text ++ drop (length text) s.behind))

-- after the write of the gate
pub images_3 : (d : Device) (gate : ℕ) (fs more : List Frame) (text : List ℕ) → IsStaged d gate fs more text
    → EachImage (after_call (Wrote gate (open_gate ∷ [])) (after_call Synced (after_call (Wrote (gate + 1) text) d))) (IsBeforeOrAfter fs more)
images_3 d gate fs more text s =
    let P : Device → Type 0 = λ x. EachImage (after_call (Wrote gate (open_gate ∷ [])) x) (IsBeforeOrAfter fs more) in
    subst P (sym (stored_is d gate fs more text s)) (
    let Q : ℕ → Type 0 = λ n. EachImage (after_call (Wrote n (open_gate ∷ [])) (rest_of fs (text ++ drop (length text) s.behind))) (IsBeforeOrAfter fs more) in
    subst Q (sym s.gate_is) (each_gate fs more text (drop (length text) s.behind) _ _ s.batch))

-- after one that tore
pub images_3_torn : (d : Device) (gate : ℕ) (fs more : List Frame) (text left : List ℕ) → IsStaged d gate fs more text
    → EachImage (after_call (Tore gate (open_gate ∷ []) left) (after_call Synced (after_call (Wrote (gate + 1) text) d))) (IsBeforeOrAfter fs more)
images_3_torn d gate fs more text left s =
    let P : Device → Type 0 = λ x. EachImage (after_call (Tore gate (open_gate ∷ []) left) x) (IsBeforeOrAfter fs more) in
    subst P (sym (stored_is d gate fs more text s)) (
    let Q : ℕ → Type 0 = λ n. EachImage (after_call (Tore n (open_gate ∷ []) left) (rest_of fs (text ++ drop (length text) s.behind))) (IsBeforeOrAfter fs more) in
    subst Q (sym s.gate_is) (each_gate fs more text (drop (length text) s.behind) left _ s.batch))

-- after the second sync
pub images_4 : (d : Device) (gate : ℕ) (fs more : List Frame) (text : List ℕ) → IsStaged d gate fs more text
    → EachImage (after_call Synced (after_call (Wrote gate (open_gate ∷ [])) (after_call Synced (after_call (Wrote (gate + 1) text) d)))) (IsBeforeOrAfter fs more)
images_4 d gate fs more text s =
    let P : Device → Type 0 = λ x. EachImage x (IsBeforeOrAfter fs more) in
    subst P (sym (done_is d gate fs more text s)) (each_done fs more (drop (length text) s.behind))

-- a log whose batch is to be added
staged : (h : History) (gate : ℕ) (fs more : List Frame) (text : List ℕ) → IsLog (Some h) gate fs → open_gate ∷ text ≡ batch_of more → IsStaged (device_of h) gate fs more text
staged h gate fs more text l e = record { behind = l.0; rest = l.1; gate_is = l.2; batch = e }

-- before the first call
pub leaves_0 : (before after : Option History) (gate : ℕ) (text : List ℕ) → Goes before after [] → LeavesLog before after gate text
leaves_0 None after gate text g = λ fs more l e. g
leaves_0 (Some h) after gate text g = λ fs more l e.
    let s = staged h gate fs more text l e in
    ([], g, images_0 (device_of h) gate fs more text s)

-- after the first write
pub leaves_1 : (before after : Option History) (gate : ℕ) (text : List ℕ) → Goes before after (Wrote (gate + 1) text ∷ []) → LeavesLog before after gate text
leaves_1 None after gate text g = λ fs more l e. g
leaves_1 (Some h) after gate text g = λ fs more l e.
    let s = staged h gate fs more text l e in
    (Wrote (gate + 1) text ∷ [], g, (images_1 (device_of h) gate fs more text s, images_0 (device_of h) gate fs more text s))

-- after a first write that failed
pub leaves_1_failed : (before after : Option History) (gate : ℕ) (text : List ℕ) → Tears before after (gate + 1) text → LeavesLog before after gate text
leaves_1_failed None after gate text t = λ fs more l e. t
leaves_1_failed (Some h) after gate text (inl same) = leaves_0 (Some h) after gate text same
leaves_1_failed (Some h) after gate text (inr torn) = λ fs more l e.
    let s = staged h gate fs more text l e in
    (Tore (gate + 1) text torn.0 ∷ [], torn.2, (images_1_torn (device_of h) gate fs more text torn.0 s, images_0 (device_of h) gate fs more text s))

-- after the first sync
pub leaves_2 : (before after : Option History) (gate : ℕ) (text : List ℕ) → Goes before after (Synced ∷ Wrote (gate + 1) text ∷ []) → LeavesLog before after gate text
leaves_2 None after gate text g = λ fs more l e. g
leaves_2 (Some h) after gate text g = λ fs more l e.
    let s = staged h gate fs more text l e in (
      Synced ∷ Wrote (gate + 1) text ∷ [],
      g,
      (images_2 (device_of h) gate fs more text s, (images_1 (device_of h) gate fs more text s, images_0 (device_of h) gate fs more text s)),
    )

-- after the write of the gate
pub leaves_3 : (before after : Option History) (gate : ℕ) (text : List ℕ) → Goes before after (Wrote gate (open_gate ∷ []) ∷ Synced ∷ Wrote (gate + 1) text ∷ []) → LeavesLog before after gate text
leaves_3 None after gate text g = λ fs more l e. g
leaves_3 (Some h) after gate text g = λ fs more l e.
    let s = staged h gate fs more text l e in (
      Wrote gate (open_gate ∷ []) ∷ Synced ∷ Wrote (gate + 1) text ∷ [],
      g,
      (
        images_3 (device_of h) gate fs more text s,
        (images_2 (device_of h) gate fs more text s, (images_1 (device_of h) gate fs more text s, images_0 (device_of h) gate fs more text s)),
      ),
    )

-- after one that tore
leaves_3_torn : (before after : Option History) (gate : ℕ) (text left : List ℕ) → Goes before after (Tore gate (open_gate ∷ []) left ∷ Synced ∷ Wrote (gate + 1) text ∷ []) → LeavesLog before after gate text
leaves_3_torn None after gate text left g = λ fs more l e. g
leaves_3_torn (Some h) after gate text left g = λ fs more l e.
    let s = staged h gate fs more text l e in (
      Tore gate (open_gate ∷ []) left ∷ Synced ∷ Wrote (gate + 1) text ∷ [],
      g,
      (
        images_3_torn (device_of h) gate fs more text left s,
        (images_2 (device_of h) gate fs more text s, (images_1 (device_of h) gate fs more text s, images_0 (device_of h) gate fs more text s)),
      ),
    )

-- after a write of the gate that failed
pub leaves_3_failed : (before mid after : Option History) (gate : ℕ) (text : List ℕ) → Goes before mid (Synced ∷ Wrote (gate + 1) text ∷ []) → Tears mid after gate (open_gate ∷ []) → LeavesLog before after gate text
leaves_3_failed before mid after gate text g t =
    elim (goes_torn before mid after (Synced ∷ Wrote (gate + 1) text ∷ []) gate (open_gate ∷ []) g t) [
      | inl same ↦ leaves_2 before after gate text same
      | inr torn ↦ leaves_3_torn before after gate text torn.0 torn.1
    ]

-- after the second sync
pub leaves_4 : (before after : Option History) (gate : ℕ) (text : List ℕ) → Goes before after (Synced ∷ Wrote gate (open_gate ∷ []) ∷ Synced ∷ Wrote (gate + 1) text ∷ []) → LeavesLog before after gate text
leaves_4 None after gate text g = λ fs more l e. g
leaves_4 (Some h) after gate text g = λ fs more l e.
    let s = staged h gate fs more text l e in (
      Synced ∷ Wrote gate (open_gate ∷ []) ∷ Synced ∷ Wrote (gate + 1) text ∷ [],
      g,
      (
        images_4 (device_of h) gate fs more text s,
        (
          images_3 (device_of h) gate fs more text s,
          (images_2 (device_of h) gate fs more text s, (images_1 (device_of h) gate fs more text s, images_0 (device_of h) gate fs more text s)),
        ),
      ),
    )

-- where the gate of the log with the batch is
gate_more : (fs more : List Frame) (gate : ℕ) (text : List ℕ) → gate ≡ length (front_of fs) → open_gate ∷ text ≡ batch_of more → gate + length text ≡ length (front_of (fs ++ more))
gate_more fs more gate text g e =
    let whole : length (front_of (fs ++ more)) ≡ length (front_of fs) + length (all_opened more) = ap (λ (x : List ℕ). length x) (front_append fs more) ∙ length-append (front_of fs) (all_opened more) in
    let batch : length (open_gate ∷ text) ≡ length (all_opened more) + 1 = ap (λ (x : List ℕ). length x) e ∙ length-append (all_opened more) (closed_gate ∷ []) in
    let size : length (open_gate ∷ text) ≡ length text + 1 = omega arith in
    omega (arith, whole, batch, size, g)

-- after the second sync the log has the batch
pub added_4 : (before after : Option History) (gate : ℕ) (text : List ℕ) → Goes before after (Synced ∷ Wrote gate (open_gate ∷ []) ∷ Synced ∷ Wrote (gate + 1) text ∷ []) → HasAdded before after gate text
added_4 None after gate text g = λ fs more l e.
    let P : Option History → Type 0 = λ m. IsLog m (gate + length text) (fs ++ more) in subst P (sym g) tt
added_4 (Some h) after gate text g = λ fs more l e.
    let s = staged h gate fs more text l e in
    let P : Option History → Type 0 = λ m. IsLog m (gate + length text) (fs ++ more) in
    subst P (sym g) (drop (length text) s.behind, done_is (device_of h) gate fs more text s, gate_more fs more gate text l.2 e)

-- what was within is so once the batch is stored
pub within_stored : (before after : Option History) (gate : ℕ) (text : List ℕ) → Goes before after (Synced ∷ Wrote (gate + 1) text ∷ []) → IsWithin before (gate + 1) → IsWithin after gate
within_stored None after gate text g w =
    let P : Option History → Type 0 = λ m. IsWithin m gate in subst P (sym g) tt
within_stored (Some h) after gate text g w =
    let P : Option History → Type 0 = λ m. IsWithin m gate in
    let front : length (take (gate + 1) (device_of h).seen) ≡ gate + 1 = length-take-le (gate + 1) (device_of h).seen w in
    let some : length (take (gate + 1) (device_of h).seen ++ text) ≡ length (take (gate + 1) (device_of h).seen) + length text = length-append (take (gate + 1) (device_of h).seen) text in
    let all : length (over (device_of h).seen (gate + 1) text) ≡ length (take (gate + 1) (device_of h).seen ++ text) + length (drop (gate + 1 + length text) (device_of h).seen)
    = length-append (take (gate + 1) (device_of h).seen ++ text) (drop (gate + 1 + length text) (device_of h).seen) in
    subst P (sym g) (let k : gate ≤ length (over (device_of h).seen (gate + 1) text) = omega (arith, front, some, all) in k)

-- what the results of the two stores leave
pub leaves_first : (before after : Option History) (gate : ℕ) (text : List ℕ) → Goes before after (Wrote (gate + 1) text ∷ []) ⊎ Tears before after (gate + 1) text → LeavesLog before after gate text
leaves_first before after gate text (inl g) = leaves_1 before after gate text g
leaves_first before after gate text (inr t) = leaves_1_failed before after gate text t

pub leaves_second : (before mid after : Option History) (gate : ℕ) (text : List ℕ) → Goes before mid (Synced ∷ Wrote (gate + 1) text ∷ [])
    → Goes mid after (Wrote gate (open_gate ∷ []) ∷ []) ⊎ Tears mid after gate (open_gate ∷ []) → LeavesLog before after gate text
leaves_second before mid after gate text g (inl h) =
    leaves_3 before after gate text (goes_on before mid after (Synced ∷ Wrote (gate + 1) text ∷ []) (Wrote gate (open_gate ∷ []) ∷ []) g h)
leaves_second before mid after gate text g (inr t) = leaves_3_failed before mid after gate text g t

-- the calls of both stores
pub both_stored : (before mid after : Option History) (gate : ℕ) (text : List ℕ) → Goes before mid (Synced ∷ Wrote (gate + 1) text ∷ []) → Goes mid after (Synced ∷ Wrote gate (open_gate ∷ []) ∷ [])
    → Goes before after (Synced ∷ Wrote gate (open_gate ∷ []) ∷ Synced ∷ Wrote (gate + 1) text ∷ [])
both_stored before mid after gate text g h = goes_on before mid after (Synced ∷ Wrote (gate + 1) text ∷ []) (Synced ∷ Wrote gate (open_gate ∷ []) ∷ []) g h

-- an empty batch leaves the log as it is
pub leaves_none : (history : Option History) (gate : ℕ) (fs more : List Frame) → IsLog history gate fs → Leaves history history (IsBeforeOrAfter fs more)
leaves_none None gate fs more l = refl
leaves_none (Some h) gate fs more l =
    let P : Device → Type 0 = λ d. EachImage d (IsBeforeOrAfter fs more) in
    ([], refl, subst P (sym l.1) (each_rest fs more l.0))

-- a batch with a frame, added as its bytes without the first gate
pub added_log : (before after : Option History) (gate : ℕ) (batch : List ℕ) → HasAdded before after gate (take (length batch - 1) (drop 1 batch)) → (length batch ≡ 1 → ⊥) → (fs more : List Frame) → IsLog before gate fs
    → batch ≡ batch_of more → IsLog after (gate + (length batch - 1)) (fs ++ more)
added_log before after gate batch added some fs more l e =
    let P : ℕ → Type 0 = λ n. IsLog after (gate + n) (fs ++ more) in
    let Q : List ℕ → Type 0 = λ t. HasAdded before after gate t in
    subst P (length-drop 1 batch) (subst Q (take_rest batch 1) added fs more l (first_open batch more e some))

-- and what a crash leaves meanwhile
pub leaves_log : (before after : Option History) (gate : ℕ) (batch : List ℕ) → LeavesLog before after gate (take (length batch - 1) (drop 1 batch)) → (length batch ≡ 1 → ⊥) → (fs more : List Frame) → IsLog before gate fs
    → batch ≡ batch_of more → Leaves before after (IsBeforeOrAfter fs more)
leaves_log before after gate batch left some fs more l e =
    let Q : List ℕ → Type 0 = λ t. LeavesLog before after gate t in
    subst Q (take_rest batch 1) left fs more l (first_open batch more e some)
