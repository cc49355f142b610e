-- Internal. What the frame of a record says.
use Rattle.std.specs.Prelude.{ℕ, ◌∷◌, ◌++◌, List, [], Option, Some, None, length, take, drop, nat_lt, nat_eq, if◌then◌else◌, option_map}
use Rattle.std.specs.Result.{result_ok}
use Rattle.q_base.specs.Name.{read_name}
use Rattle.q_doc.specs.Tree.{Tree}
use Rattle.q_doc.specs.Judged.{judged}
use Rattle.commit_book.specs.declared.change.Change.{Change}
use Rattle.commit_book.specs.Journal.{text_of}
use Rattle.record_log.specs.declared.log_record.LogRecord.{LogRecord}
use Rattle.record_log.specs.declared.log_record.LogRecord.TheVariants.{Commit, Moment}
use Rattle.record_log.specs.Frames.{Frame}

-- the latest clock of a record: a minute behind the last second of the year 9999
abbrev pub greatest_clock : ℕ
greatest_clock = 253402300859

-- a name behind its length in one byte, and the bytes behind it
abbrev pub named : List ℕ → Option (List ℕ × List ℕ)
named [] = None
named (size ∷ bytes) =
    if nat_lt (length bytes) size then None else option_map (λ (name : List ℕ). (name, drop size bytes)) (result_ok (read_name (take size bytes)))

-- a document; no byte is none
abbrev pub document_in : List ℕ → Option (Option Tree)
document_in [] = Some None
document_in (byte ∷ bytes) = option_map (λ (t : Tree). Some t) (result_ok (judged (byte ∷ bytes)))

-- the change of these names, with a document that was read
abbrev pub with_document : List ℕ → List ℕ → Option (Option Tree) → Option Change
with_document collection id None = None
with_document collection id (Some document) = Some (record { collection = collection; id = id; document = document })

-- the change of this collection, with an id that was read and the bytes behind it
abbrev pub with_id : List ℕ → Option (List ℕ × List ℕ) → Option Change
with_id collection None = None
with_id collection (Some id) = with_document collection id.0 (document_in id.1)

-- the change, with a collection that was read and the bytes behind it
abbrev pub with_collection : Option (List ℕ × List ℕ) → Option Change
with_collection None = None
with_collection (Some collection) = with_id collection.0 (named collection.1)

-- a change: its collection, its id, and its document
unfoldable pub change_in : List ℕ → Option Change
change_in body = with_collection (named body)

-- nothing but an end
abbrev pub moment_in : ℕ → List ℕ → Option LogRecord
moment_in clock [] = Some (Moment clock)
moment_in clock (byte ∷ bytes) = None

-- the record of a kind
unfoldable pub record_by : ℕ → ℕ → List ℕ → Option LogRecord
record_by kind clock body =
    if nat_eq kind 1 then option_map (λ (c : Change). Commit clock c) (change_in body) else (if nat_eq kind 2 then moment_in clock body else None)

-- what a frame says, if it is that of a record
unfoldable pub record_of : Frame → Option LogRecord
record_of f = if nat_lt greatest_clock f.clock then None else record_by f.kind f.clock f.body

-- a change as the body of a commit
unfoldable pub body_of : Change → List ℕ
body_of change = (length change.collection ∷ change.collection) ++ (length change.id ∷ change.id) ++ text_of change.document

-- a record as a frame
unfoldable pub frame_of : LogRecord → Frame
frame_of (Commit clock change) = record { kind = 1; clock = clock; body = body_of change }
frame_of (Moment clock) = record { kind = 2; clock = clock; body = [] }
