-- Internal. What the bytes of a connection determine: its end, the number of its requests, whether a further one gets `100 Continue`, and its items.
use Rattle.std.specs.Prelude.{◌≡◌, ℕ, ◌+◌, ◌==◌, ◌++◌, Bool, false, if◌then◌else◌, List, [], ◌∷◌, Option, Some, None, length, map, All, unwrap_or}
use Rattle.http_message.specs.Item.{Item, IsItem, IsOpen}
use Rattle.http_message.specs.Split.{Piece, IsSplit}
use Rattle.http_message.specs.Taken.{continue_where}
use Rattle.http_message.specs.Text.{is_blank}
use Rattle.q_outside.specs.declared.served.Served.{Served}
use Rattle.q_outside.specs.declared.served.Why.{Why}
use Rattle.q_outside.specs.declared.served.Why.TheVariants.{InputEnd, Truncated, BadFraming, CloseAsked, RequestLimit, Stopped, ReadFault, WriteFault}
use Rattle.q_outside.specs.Ends.{GaveBytes}
use Rattle.dialogue.specs.Dialogue.{Sides, Exchange, Passed, end_by, pieces, request_limit, texts}

-- Source and sink of a connection at its beginning and its end: the source shows these bytes, and neither failed.
pub record IsWhole (bytes : List ℕ) (first last : Sides) : Type 0 where
  pub shown : first.source.bytes ≡ Some bytes
  pub no_fault_in : last.source.faults ≡ first.source.faults
  pub no_fault_out : last.sink.faults ≡ first.sink.faults

-- how the last of these items ends the connection, where it does; the first begins at this offset
abbrev pub last_end : ℕ → List Piece → Option Why
last_end offset [] = None
last_end offset (piece ∷ []) = end_by offset piece.item false
last_end offset (piece ∷ next ∷ pieces) = last_end (offset + length piece.bytes) (next ∷ pieces)

-- how a connection ends that no item ends
abbrev pub open_end : ℕ → List ℕ → Why
open_end requests rest = if requests == request_limit then RequestLimit else (if is_blank rest then InputEnd else Truncated)

-- how a connection ends whose bytes are these items and this rest
abbrev pub end_of : List Piece → List ℕ → Why
end_of pieces rest = unwrap_or (last_end 0 pieces) (open_end (length pieces) rest)

-- whether `100 Continue` was expected at the end, by the bytes after the items
abbrev pub ExpectsAt : Why → List ℕ → Bool → Type 0
ExpectsAt InputEnd rest expected = IsOpen rest expected
ExpectsAt Truncated rest expected = IsOpen rest expected
ExpectsAt (BadFraming offset) rest expected = expected ≡ false
ExpectsAt CloseAsked rest expected = expected ≡ false
ExpectsAt RequestLimit rest expected = expected ≡ false
ExpectsAt Stopped rest expected = ⊥
ExpectsAt ReadFault rest expected = ⊥
ExpectsAt WriteFault rest expected = ⊥

-- The items are those of the bytes, and they determine the number of requests, the end, and whether `100 Continue` is expected there.
pub record IsDetermined (bytes : List ℕ) (served : Served) (expected : Bool) : Type 0 where
  pub pieces : List Piece
  pub rest : List ℕ
  pub split : IsSplit request_limit bytes pieces rest
  pub requests_are : served.requests ≡ length pieces
  pub why_is : served.why ≡ end_of pieces rest
  pub expected_is : ExpectsAt served.why rest expected

-- where nothing fails, the bytes determine the number of requests, the end, and what the sink was given after the texts
abbrev pub EndIsDetermined : Type 0
EndIsDetermined =
    (bytes : List ℕ) (a b : Sides) (served : Served) → IsWhole bytes a b → (passed : Passed a b served)
    → (expected : Bool) × IsDetermined bytes served expected × GaveBytes a.sink b.sink (texts passed.exchanges ++ continue_where expected)

-- and they determine it in one way
abbrev pub OneEnd : Type 0
OneEnd =
    (bytes : List ℕ) (served other : Served) (expected again : Bool) → IsDetermined bytes served expected → IsDetermined bytes other again
    → (served.requests ≡ other.requests) × (served.why ≡ other.why) × (expected ≡ again)

-- the bytes and the number of items determine the items
abbrev pub SameItems : Type 0
SameItems =
    (xs ys : List Exchange) (rest left : List ℕ) → All (λ x. IsItem x.piece x.item) xs → All (λ y. IsItem y.piece y.item) ys
    → length xs ≡ length ys → pieces xs ++ rest ≡ pieces ys ++ left
    → (map (λ x. x.piece) xs ≡ map (λ y. y.piece) ys) × (map (λ x. x.item) xs ≡ map (λ y. y.item) ys) × (rest ≡ left)
