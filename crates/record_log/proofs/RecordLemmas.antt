-- A record that is written is read again.
use Rattle.std.proofs.Common.{◌≡◌, ◌≢◌, ℕ, ◌+◌, ◌-◌, ◌<◌, ◌≤◌, false, true, nat_lt, ◌==◌, List, [], ◌∷◌, ◌++◌, length, get_or, take, Option, Some, None, Result, Ok, Err, OnOk, option_map, refl, ap, sym, ◌∙◌, append_assoc, arith, length-append, le-ltb, ne_eqb}
use Rattle.std.specs.Result.{result_ok}
use Rattle.std.proofs.lemmas.List.{take_at, drop_at, append-nil}
use Rattle.std.proofs.lemmas.Bool.{false≢true}
use Rattle.q_base.specs.Name.{IsName, read_name, name_unless}
use Rattle.q_doc.specs.Tree.{Tree, null, boolean, number, text, array, object, is_object}
use Rattle.q_doc.specs.Judged.{judged}
use Rattle.q_doc.specs.Printed.{printed}
use Rattle.commit_book.specs.declared.change.Change.{Change}
use Rattle.commit_book.specs.Journal.{text_of}
use Rattle.record_log.specs.declared.log_record.LogRecord.TheVariants.{Commit, Moment}
use Rattle.record_log.specs.Frames.{Frame, opened, all_opened, closed_gate}
use Rattle.record_log.specs.Records.{greatest_clock, named, document_in, with_document, with_id, with_collection, change_in, record_by, record_of, body_of, frame_of}
use Rattle.record_log.specs.Batches.{AddsFrame, IsBatch, IsFrameOf}
use Rattle.record_log.specs.Puts.{IsPut, CanPut}
use Rattle.std.proofs.lemmas.Grind.{flat_map-append}

-- a name
name_again : (name : List ℕ) → IsName name → read_name name ≡ Ok name
name_again name is =
    let some : (length name == 0) ≡ false = let some = is.some in ne_eqb (length name) 0 (λ e. omega arith) in
    let few : nat_lt 64 (length name) ≡ false = let few = is.few in le-ltb 64 (length name) few in
    rw (some, few) (ap (name_unless name) is.good)

-- a name behind its length
pub named_again : (name rest : List ℕ) → IsName name → named (length name ∷ (name ++ rest)) ≡ Some (name, rest)
named_again name rest is =
    let within : nat_lt (length (name ++ rest)) (length name) ≡ false = le-ltb (length (name ++ rest)) (length name) (omega (arith, length-append name rest)) in
    rw (within, take_at name rest (length name) refl, drop_at name rest (length name) refl)
    (ap (λ (r : Result (List ℕ) _). option_map (λ (n : List ℕ). (n, rest)) (result_ok r)) (name_again name is))

-- a text of a document, which has a byte
text_again : (bytes : List ℕ) (t : Tree) → bytes ≢ [] → judged bytes ≡ Ok t → document_in bytes ≡ Some (Some t)
text_again [] t some e = absurd (some refl)
text_again (byte ∷ bytes) t some e = ap (λ (r : Result Tree _). option_map (λ (x : Tree). Some x) (result_ok r)) e

-- an object's printed text begins with a brace
printed_some : (t : Tree) → is_object t ≡ true → printed t ≢ []
printed_some null o = λ e. absurd (false≢true o)
printed_some (boolean b) o = λ e. absurd (false≢true o)
printed_some (number z) o = λ e. absurd (false≢true o)
printed_some (text s) o = λ e. absurd (false≢true o)
printed_some (array ts) o = λ e. absurd (false≢true o)
printed_some (object ms) o = λ e. (let k : 123 ≡ 0 = ap (λ (l : List ℕ). get_or l 0 0) e in absurd (omega (arith, k)))

-- a document
document_again : (document : Option Tree) → IsPut document → document_in (text_of document) ≡ Some document
document_again None put = refl
document_again (Some t) put = text_again (printed t) t (printed_some t put.object) put.reads_back

-- a change
pub change_again : (c : Change) → CanPut c → change_in (body_of c) ≡ Some c
unfolding change_in body_of
change_again c can =
    let body : (length c.collection ∷ c.collection) ++ (length c.id ∷ c.id) ++ text_of c.document ≡ length c.collection ∷ (c.collection ++ (length c.id ∷ (c.id ++ text_of c.document)))
    = ap (λ (x : List ℕ). length c.collection ∷ x) (append_assoc c.collection (length c.id ∷ c.id) (text_of c.document)) in
    ap (λ (x : List ℕ). with_collection (named x)) body
    ∙ ap with_collection (named_again c.collection (length c.id ∷ (c.id ++ text_of c.document)) can.collection)
    ∙ ap (with_id c.collection) (named_again c.id (text_of c.document) can.id)
    ∙ ap (with_document c.collection c.id) (document_again c.document can.document)

-- the printed text of a document that is put, or none
text_short : (document : Option Tree) → IsPut document → length (text_of document) ≤ 65536
text_short None put = omega arith
text_short (Some t) put = put.short

-- the length of a commit's body
pub body_short : (c : Change) → CanPut c → length (body_of c) ≤ 65666
unfolding body_of
body_short c can =
    let few = can.collection.few in
    let few_id = can.id.few in
    let first : length (c.collection ++ (length c.id ∷ c.id)) ≡ length c.collection + length (length c.id ∷ c.id) = length-append c.collection (length c.id ∷ c.id) in
    let all : length (c.collection ++ (length c.id ∷ c.id) ++ text_of c.document) ≡ length (c.collection ++ (length c.id ∷ c.id)) + length (text_of c.document)
    = length-append (c.collection ++ (length c.id ∷ c.id)) (text_of c.document) in
    omega (arith, first, all, few, few_id, text_short c.document can.document)

-- a commit
pub commit_frame : (clock : ℕ) (c : Change) → clock ≤ greatest_clock → CanPut c → IsFrameOf (frame_of (Commit clock c)) (Commit clock c)
unfolding frame_of record_of record_by
commit_frame clock c h can =
    let in_time : nat_lt greatest_clock clock ≡ false = le-ltb greatest_clock clock h in
    record {
      fits = record { kind = omega arith; clock = omega (arith, h); size = omega (arith, body_short c can) };
      says = rw in_time (ap (λ (o : Option Change). option_map (λ (x : Change). Commit clock x) o) (change_again c can));
    }

-- a kept moment
pub moment_frame : (clock : ℕ) → clock ≤ greatest_clock → IsFrameOf (frame_of (Moment clock)) (Moment clock)
unfolding frame_of record_of record_by
moment_frame clock h =
    let in_time : nat_lt greatest_clock clock ≡ false = le-ltb greatest_clock clock h in
    record {
      fits = record { kind = omega arith; clock = omega (arith, h); size = omega arith };
      says = rw in_time refl;
    }

-- a batch has a byte, its last gate
pub batch_some : (bytes : List ℕ) → IsBatch bytes → 0 < length bytes
batch_some bytes b =
    let size : length bytes ≡ length (all_opened b.0) + 1 = ap (λ (x : List ℕ). length x) b.1 ∙ length-append (all_opened b.0) (closed_gate ∷ []) in
    omega (arith, size)

-- a batch with one frame more in the place of its last gate
pub adds_frame : (old new : List ℕ) (f : Frame) → new ≡ take (length old - 1) old ++ (opened f ++ closed_gate ∷ []) → AddsFrame old new f
adds_frame old new f is = λ fs e.
    let size : length (all_opened fs) ≡ length old - 1 =
    (let k : length old ≡ length (all_opened fs) + 1 = ap (λ (x : List ℕ). length x) e ∙ length-append (all_opened fs) (closed_gate ∷ []) in omega (arith, k)) in
    let front : take (length old - 1) old ≡ all_opened fs =
    ap (λ (x : List ℕ). take (length old - 1) x) e ∙ take_at (all_opened fs) (closed_gate ∷ []) (length old - 1) size in
    is ∙ ap (λ (x : List ℕ). x ++ (opened f ++ closed_gate ∷ [])) front
    ∙ sym (append_assoc (all_opened fs) (opened f) (closed_gate ∷ []))
    ∙ ap (λ (x : List ℕ). x ++ closed_gate ∷ []) (ap (λ (x : List ℕ). all_opened fs ++ x) (sym (append-nil (opened f))) ∙ sym (flat_map-append opened fs (f ∷ [])))

-- it is a batch
pub batch_more : (old new : List ℕ) (f : Frame) → IsBatch old → new ≡ take (length old - 1) old ++ (opened f ++ closed_gate ∷ []) → IsBatch new
batch_more old new f b is = (b.0 ++ f ∷ [], adds_frame old new f is b.0 b.1)

-- what holds, holds of any result that is a value
pub on_ok : {T E : Type 0} (r : Result T E) (P : Type 0) → P → OnOk r P
on_ok (Ok x) P p = p
on_ok (Err e) P p = tt
