-- Internal. How the head of a reply is searched for, piece by piece, and how the bytes of a body come.
use Rattle.std.specs.Prelude.{◌≡◌, ◌≢◌, ◌⊎◌, ℕ, ◌+◌, ◌<◌, ◌≤◌, Bool, true, false, List, length, take, drop, slice_index, None, Result, Ok, Err}
use Rattle.httparse.specs.Ascii.{line_feed}
use Rattle.q_outside.specs.Ends.{End, IsEnded, TookBytes}
use Rattle.http_message.specs.HeadFound.{IsTextAt, IsUnread}
use Rattle.http_message.specs.HeadScan.{IsScanned}
use Rattle.http_message.specs.Text.{BareCr, TooLarge, Unfinished, beginning_of, begins_bare_cr, empty_lines_at_start, head_length}
use Rattle.http_message.specs.declared.scan.HeadScan.{HeadScan}
use Rattle.client_wire.specs.declared.head.Cut.{Cut}
use Rattle.client_wire.specs.declared.head.Cut.TheVariants as cut
use Rattle.client_wire.specs.declared.head.HeadFound.{HeadFound}
use Rattle.client_wire.specs.declared.head.HeadFound.TheVariants as found
use Rattle.client_wire.specs.declared.head.HeadTaken.{HeadTaken}
use Rattle.client_wire.specs.declared.body.ShortBody.{ShortBody}

-- what the bytes begin with
abbrev pub Shows : List ℕ → HeadFound → Type 0
Shows held found.Unreadable = (beginning_of held ≡ BareCr) ⊎ (beginning_of held ≡ TooLarge)
Shows held (found.Text empty_lines size) = IsTextAt held empty_lines size

-- More bytes decide what these begin with, and this is known of them.
pub record IsOpen (held : List ℕ) (scan : HeadScan) : Type 0 where
  pub unread : IsUnread held
  pub scanned : IsScanned held scan
  pub empty_lines_is : scan.empty_lines ≡ empty_lines_at_start held
  pub no_bare_cr : begins_bare_cr (drop scan.empty_lines held) ≡ false
  pub no_end : head_length (drop scan.empty_lines held) ≡ None

-- what a look at the bytes shows: what they begin with, or that more bytes are needed
abbrev pub IsSeen : List ℕ → Result HeadFound HeadScan → Type 0
IsSeen held (Ok found) = Shows held found
IsSeen held (Err scan) = IsOpen held scan

-- the first bytes of those that are held, of which the last alone may be a line feed
abbrev pub IsInLine : List ℕ → ℕ → Type 0
IsInLine held size = (k : ℕ) → k + 1 < size → (k < length held) × (slice_index held k ≢ line_feed)

-- one byte; or, where a head has begun, bytes of which the last alone may be a line feed
abbrev pub IsPiece : Bool → List ℕ → Type 0
IsPiece false bytes = length bytes ≤ 1
IsPiece true bytes = IsInLine bytes (length bytes)

-- Such bytes were taken to the start of a buffer.
pub record IsPieceTaken (source source' : End) (begun : Bool) (into : List ℕ) (size : ℕ) : Type 0 where
  pub some : 0 < size
  pub within : size ≤ length into
  pub took : TookBytes source source' (take size into)
  pub is : IsPiece begun (take size into)

-- why no byte came
abbrev pub IsCut : (source source' : End) → Cut → Type 0
IsCut source source' cut.Ended = IsEnded source'.bytes
IsCut source source' cut.Failed = source.faults < source'.faults

-- what the bytes show, or why no more came
abbrev pub Comes : (source source' : End) → List ℕ → Result HeadFound Cut → Type 0
Comes source source' held (Ok found) = Shows held found
Comes source source' held (Err cut) = IsUnread held × IsCut source source' cut

-- Bytes were taken into the start of a buffer, up to the first that shows what they begin with.
pub record TakesHead (source source' : End) (buffer : List ℕ) (taken : HeadTaken) : Type 0 where
  pub within : taken.count ≤ length buffer
  pub took : TookBytes source source' (take taken.count buffer)
  pub fewer : (n : ℕ) → n < taken.count → beginning_of (take n (take taken.count buffer)) ≡ Unfinished
  pub comes : Comes source source' (take taken.count buffer) taken.found

-- Some bytes of a body were taken into the start of a buffer, and then no more came.
pub record TookFewer (source source' : End) (into : List ℕ) (short : ShortBody) : Type 0 where
  pub fewer : short.taken < length into
  pub took : TookBytes source source' (take short.taken into)
  pub is_cut : IsCut source source' short.cut

-- whether a buffer was filled from a source
abbrev pub Fills : {T : Type 0} → (source source' : End) → List ℕ → Result T ShortBody → Type 0
Fills source source' into (Ok done) = TookBytes source source' into
Fills source source' into (Err short) = TookFewer source source' into short
