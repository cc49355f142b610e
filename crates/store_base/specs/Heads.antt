-- Internal. What is read of a head.
use Rattle.std.specs.Prelude.{◌≡◌, ◌⊎◌, ℕ, ◌+◌, ◌^◌, ◌<◌, ◌≤◌, List, ◌++◌, length, Result, Ok, Err}
use Rattle.std.specs.Int.{w64, to_be_bytes}
use Rattle.std.specs.declared.option.Option.{Option}
use Rattle.std.specs.declared.option.Option.TheVariants.{None, Some}
use Rattle.record_log.specs.Records.{greatest_clock}
use Rattle.store_base.specs.declared.base.RecordName.{RecordName}
use Rattle.store_base.specs.declared.head.HeadStart.{HeadStart}
use Rattle.store_base.specs.declared.head.FoundHead.{FoundHead}
use Rattle.store_base.specs.declared.refusal.BaseRefusal.{BaseRefusal}
use Rattle.store_base.specs.declared.refusal.BaseRefusal.TheVariants.{Torn, BadNumber, BadTail, DiskFault, Memory}
use Rattle.store_base.specs.Sound.{IsHead, IsTail}
use Rattle.store_base.specs.Texts.{mark, tail_text, start_text, head_text}
use Rattle.store_base.specs.Windows.{WindowView, Shows}

-- bytes begin with the mark
abbrev pub HasMark : List ℕ → Type 0
HasMark rest = (more : List ℕ) × (rest ≡ mark ++ more)

-- bytes begin with the mark and the numbers of a head
abbrev pub StartsHead : List ℕ → HeadStart → List ℕ → Type 0
StartsHead rest start more = rest ≡ start_text start.size start.horizon start.clock start.moment ++ more

-- The numbers may be those of a head.
pub record AreNumbers (start : HeadStart) : Type 0 where
  pub horizon : start.horizon + 1 < 2 ^ 64
  pub clock : start.clock ≤ greatest_clock
  pub moment : start.moment ≤ greatest_clock

-- the number at this place is too great
abbrev pub IsTooGreat : ℕ → HeadStart → ℕ → Type 0
IsTooGreat place start bad = ((bad ≡ place + 12) × (2 ^ 64 ≤ start.horizon + 1)) ⊎ (((bad ≡ place + 20) × (greatest_clock < start.clock)) ⊎ ((bad ≡ place + 28) × (greatest_clock < start.moment)))

-- whether they may
abbrev pub JudgesNumbers : ℕ → HeadStart → Result (Unit {0}) BaseRefusal → Type 0
JudgesNumbers place start (Ok done) = AreNumbers start
JudgesNumbers place start (Err (BadNumber bad)) = IsTooGreat place start bad
JudgesNumbers place start (Err other) = ⊥

-- why no numbers are read: the disk ends before their end, or one is too great
abbrev pub HasNoNumbers : ℕ → List ℕ → BaseRefusal → Type 0
HasNoNumbers place rest (Torn bad) = HasMark rest × (bad ≡ place) × (length rest < 36)
HasNoNumbers place rest (BadNumber bad) = (start : HeadStart) × (more : List ℕ) × StartsHead rest start more × IsTooGreat place start bad
HasNoNumbers place rest DiskFault = Unit {0}
HasNoNumbers place rest Memory = Unit {0}
HasNoNumbers place rest other = ⊥

-- the mark and the numbers were read, and what is behind them is next; or the mark is not there
abbrev pub FindsNumbers : ℕ → List ℕ → WindowView → Result (Option HeadStart) BaseRefusal → Type 0
FindsNumbers place rest after (Ok None) = HasMark rest → ⊥
FindsNumbers place rest after (Ok (Some start)) = (more : List ℕ) × StartsHead rest start more × AreNumbers start × Shows after.history after.place more × (after.place ≡ place + 36)
FindsNumbers place rest after (Err refusal) = HasNoNumbers place rest refusal

-- why no tail is read: there is none
abbrev pub HasNoTail : ℕ → List ℕ → BaseRefusal → Type 0
HasNoTail place rest (BadTail bad) = (bad ≡ place) × ((tail : Option RecordName) (more : List ℕ) → IsTail tail → rest ≡ tail_text tail ++ more → ⊥)
HasNoTail place rest DiskFault = Unit {0}
HasNoTail place rest Memory = Unit {0}
HasNoTail place rest other = ⊥

-- the tail was read, and what is behind it is next
abbrev pub FindsTail : ℕ → List ℕ → WindowView → Result (Option RecordName) BaseRefusal → Type 0
FindsTail place rest after (Ok tail) = (more : List ℕ) × IsTail tail × (rest ≡ tail_text tail ++ more) × Shows after.history after.place more × (after.place ≡ place + length (tail_text tail))
FindsTail place rest after (Err refusal) = HasNoTail place rest refusal

-- why no number is read: the disk ends before its end
abbrev pub HasNoCount : ℕ → List ℕ → BaseRefusal → Type 0
HasNoCount place rest (Torn bad) = (bad ≡ place) × (length rest < 8)
HasNoCount place rest DiskFault = Unit {0}
HasNoCount place rest Memory = Unit {0}
HasNoCount place rest other = ⊥

-- a number was read, and what is behind it is next
abbrev pub FindsCount : ℕ → List ℕ → WindowView → Result ℕ BaseRefusal → Type 0
FindsCount place rest after (Ok count) = (more : List ℕ) × (rest ≡ to_be_bytes w64 count ++ more) × Shows after.history after.place more
FindsCount place rest after (Err refusal) = HasNoCount place rest refusal

-- why no head is read: for its numbers, for the tail behind them, or for the number of rows behind that
abbrev pub HasNoHead : ℕ → List ℕ → BaseRefusal → Type 0
HasNoHead place rest refusal = HasNoNumbers place rest refusal
    ⊎ (((start : HeadStart) × (more : List ℕ) × StartsHead rest start more × HasNoTail (place + 36) more refusal)
    ⊎ ((start : HeadStart) × (tail : Option RecordName) × (more : List ℕ) × IsTail tail × StartsHead rest start (tail_text tail ++ more) × HasNoCount (place + 36 + length (tail_text tail)) more refusal))

-- the head was read, and the rows are next; or the mark is not there
abbrev pub FindsHead : ℕ → List ℕ → WindowView → Result (Option FoundHead) BaseRefusal → Type 0
FindsHead place rest after (Ok None) = HasMark rest → ⊥
FindsHead place rest after (Ok (Some found)) = (more : List ℕ) × (rest ≡ head_text found.size found.count found.head ++ more) × IsHead found.head × Shows after.history after.place more
FindsHead place rest after (Err refusal) = HasNoHead place rest refusal
