-- Internal. The text of a session's state: its head, and an entry for each mark in the order of the marks.
use Rattle.std.specs.Prelude.{◌≡◌, ◌<◌, ◌≤◌, ◌⊎◌, ℕ, zero, suc, ◌+◌, ◌-◌, ◌*◌, ◌/◌, ◌%◌, ◌==◌, Bool, ◌&&◌, ◌||◌, if◌then◌else◌, nat_le, nat_lt, IsTrue, List, [], ◌∷◌, ◌++◌, length, take, drop, slice_index, bytes_eq, codes}
use Rattle.std.specs.Int.{w64, to_be_bytes}
use Rattle.flat_snapshot.specs.declared.sight.KeyMark.{KeyMark}
use Rattle.flat_snapshot.specs.Reading.{word_at}
use Rattle.client_core.specs.declared.floors.FloorRow.{FloorRow}
use Rattle.client_core.specs.declared.floors.Floors.{Floors}
use Rattle.client_core.specs.Floor.{Event, wrote, read, listed}
use Rattle.client_core.specs.Table.{HasPast, row_at}

-- the number of bytes before the entries
abbrev pub head_bytes : ℕ
head_bytes = 20

-- the number of bytes of an entry
abbrev pub entry_bytes : ℕ
entry_bytes = 25

-- the number of entries for which there are bytes
abbrev pub entry_count : List ℕ → ℕ
entry_count text = (length text - head_bytes) / entry_bytes

-- the offset of an entry
abbrev pub entry_at : ℕ → ℕ
entry_at i = head_bytes + entry_bytes * i

-- the mark of an entry
abbrev pub mark_at : List ℕ → ℕ → KeyMark
mark_at text i = record { first = word_at text (entry_at i); second = word_at text (entry_at i + 8) }

-- the commit of an entry
abbrev pub commit_at : List ℕ → ℕ → ℕ
commit_at text i = word_at text (entry_at i + 16)

-- the last byte of an entry: 1 where its key is whitelisted, else 0
abbrev pub flag_at : List ℕ → ℕ → ℕ
flag_at text i = slice_index text (entry_at i + 24)

-- whether a mark comes before another
abbrev pub is_before : KeyMark → KeyMark → Bool
is_before a b = nat_lt a.first b.first || (a.first == b.first && nat_lt a.second b.second)

-- whether an entry says something, and comes after the one before it
abbrev pub is_entry : List ℕ → ℕ → Bool
is_entry text i =
    nat_le (flag_at text i) 1
    && ((nat_lt 0 (commit_at text i) || flag_at text i == 1)
    && (i == 0 || is_before (mark_at text (i - 1)) (mark_at text i)))

-- whether bytes begin as the text of a state, and there are as many as it says
abbrev pub has_head : List ℕ → Bool
has_head text =
    nat_le head_bytes (length text)
    && (bytes_eq (take 4 text) (codes "QSS1")
    && ((length text - head_bytes) % entry_bytes == 0
    && entry_count text == word_at text 12))

-- each entry is one
abbrev pub AreEntries : List ℕ → Type 0
AreEntries text = (i : ℕ) → i < entry_count text → IsTrue (is_entry text i)

-- bytes that are the text of a state
pub record IsState (text : List ℕ) : Type 0 where
  pub head : IsTrue (has_head text)
  pub entries : AreEntries text

-- a past with what an entry tells: its key was read at its commit, and whitelisted where the entry says so
abbrev pub told : List ℕ → ℕ → List (Event KeyMark) → List (Event KeyMark)
told text i past =
    if flag_at text i == 1 then listed (mark_at text i) ∷ read (mark_at text i) (commit_at text i) ∷ past
    else read (mark_at text i) (commit_at text i) ∷ past

-- the past that the first entries tell: a write at the floor of all keys, and then what each entry tells
abbrev pub past_to : List ℕ → ℕ → List (Event KeyMark)
past_to text zero = wrote (word_at text 4) ∷ []
past_to text (suc i) = told text i (past_to text i)

-- the floors and rows are of the past that a text tells; or the text is none, and they are of a session that has done
-- nothing
abbrev pub Loads : List ℕ → Floors → List FloorRow → ℕ → Type 0
Loads text floors rows result =
    (IsState text × (HasPast floors rows (past_to text (entry_count text)) × (result ≡ 0)))
    ⊎ ((IsState text → ⊥) × (HasPast floors rows [] × (result ≡ 21)))

-- whether a row says something: its key was read after the first commit, or is whitelisted
abbrev pub says : Floors → FloorRow → Bool
says floors row = row.is_taken && (nat_lt 0 row.commit || row.listed_at == floors.pages)

-- the bytes of a row's entry
abbrev pub entry_text : Floors → FloorRow → List ℕ
entry_text floors row =
    to_be_bytes w64 row.mark.first ++ to_be_bytes w64 row.mark.second ++ to_be_bytes w64 row.commit
    ++ (if row.listed_at == floors.pages then 1 else 0) ∷ []

-- the entry of a row, or why none is written
abbrev pub WritesEntry : Floors → List FloorRow → ℕ → List ℕ → List ℕ → ℕ → Type 0
WritesEntry floors rows i old new result =
    ((i < length rows) × (IsTrue (says floors (row_at rows i)) × ((entry_bytes ≤ length old)
    × ((new ≡ entry_text floors (row_at rows i) ++ drop entry_bytes old) × (result ≡ 0)))))
    ⊎ ((((i < length rows → IsTrue (says floors (row_at rows i)) → ⊥) × (result ≡ 22)) ⊎ ((length old < entry_bytes) × (result ≡ 23)))
    × (new ≡ old))
