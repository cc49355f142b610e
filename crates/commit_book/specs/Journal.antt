-- Believed. A journal is the list of the changes, the newest last. The n-th change, counted from 1, is commit n. The
-- horizon is the number of the first changes of which only the last documents are kept.
use Rattle.std.specs.Prelude.{ℕ, zero, suc, ◌+◌, ◌-◌, Bool, ◌&&◌, ◌||◌, not, if◌then◌else◌, List, [], ◌∷◌, ◌++◌, take, drop, Option, Some, None, length, slice_get, sum_by, bytes_eq, is_some, option_map, option_and_then}
use Rattle.std.specs.List.{list_any}
use Rattle.std.specs.Option.{option_map_or}
use Rattle.q_doc.specs.Tree.{Tree}
use Rattle.q_doc.specs.Printed.{printed}
use Rattle.commit_book.specs.declared.change.Change.{Change}

-- the change is of this record
abbrev pub is_of : List ℕ → List ℕ → Change → Bool
is_of collection id change = bytes_eq change.id id && bytes_eq change.collection collection

-- a document that was put at a commit, or none that was deleted there
abbrev pub put_at : ℕ → Option Tree → Option (ℕ × Tree)
put_at commit (Some tree) = Some (commit, tree)
put_at commit None = None

-- what the change at a commit leaves of a record
abbrev pub document_after : List ℕ → List ℕ → ℕ → Option Change → Option (ℕ × Tree) → Option (ℕ × Tree)
document_after collection id commit (Some change) before = if is_of collection id change then put_at commit change.document else before
document_after collection id commit None before = before

-- the last of the first n changes that is of the record, where it puts a document: its number and its document
abbrev pub document_at : List Change → ℕ → List ℕ → List ℕ → Option (ℕ × Tree)
document_at journal zero collection id = None
document_at journal (suc n) collection id = document_after collection id (suc n) (slice_get journal n) (document_at journal n collection id)

-- the printed text of a document; a deletion has none
abbrev pub text_of : Option Tree → List ℕ
text_of document = option_map_or printed document []

-- a document's number with its printed text
abbrev pub printed_of : Option (ℕ × Tree) → Option (ℕ × List ℕ)
printed_of found = option_map (λ d. (d.0, printed d.1)) found

-- the printed text of the document of a record after the first n changes, with its number
abbrev pub text_at : List Change → ℕ → List ℕ → List ℕ → Option (ℕ × List ℕ)
text_at journal n collection id = printed_of (document_at journal n collection id)

-- the change of a commit, where it altered its record: where it put a document, or took one away
abbrev pub alteration : List Change → ℕ → Option Change
alteration journal zero = None
alteration journal (suc n) = option_and_then (λ change. if is_some change.document || is_some (document_at journal n change.collection change.id) then Some change else None) (slice_get journal n)

-- what a change takes of the capacity beside its names and its text, in bytes
abbrev pub row_bytes : ℕ
row_bytes = 64

-- what a change takes of the capacity, in bytes
unfoldable pub cost_of : Change → ℕ
cost_of change = row_bytes + length change.collection + length change.id + length (text_of change.document)

-- those changes that are the last of their record and put a document
abbrev pub bases : List Change → List Change
bases [] = []
bases (change ∷ later) = if is_some change.document && not (list_any (is_of change.collection change.id) later) then change ∷ bases later else bases later

-- the rows that are kept: up to the horizon those whose documents are there at the horizon, and all above it
abbrev pub kept_rows : List Change → ℕ → List Change
kept_rows journal horizon = bases (take horizon journal) ++ drop horizon journal

-- the record has a document at the horizon, or a change above it
abbrev pub is_kept : List Change → ℕ → List ℕ → List ℕ → Bool
is_kept journal horizon collection id = is_some (document_at journal horizon collection id) || list_any (is_of collection id) (drop horizon journal)

-- the document of a record by the kept rows, those above the horizon up to n
abbrev pub kept_document : List Change → ℕ → ℕ → List ℕ → List ℕ → Option Tree
kept_document journal horizon n collection id =
    option_map (λ d. d.1) (document_at (kept_rows journal horizon) (n - horizon + length (bases (take horizon journal))) collection id)

-- what the kept rows take together
abbrev pub kept : List Change → ℕ → ℕ
kept journal horizon = sum_by cost_of (kept_rows journal horizon)

-- what they take with one change more, by which a write is accepted
abbrev pub kept_with : List Change → ℕ → Change → ℕ
kept_with journal horizon change = kept journal horizon + cost_of change
