-- Internal. What a search for the head of the next item finds.
use Rattle.std.specs.Prelude.{◌≡◌, ℕ, ◌+◌, ◌<◌, ◌≤◌, List, length, take, drop, Result, Ok, Err}
use Rattle.q_outside.specs.Ends.{End}
use Rattle.http_message.specs.Input.{NoMoreBytes}
use Rattle.http_message.specs.Limits.{head_limit}
use Rattle.http_message.specs.HeadScan.{IsScanned}
use Rattle.http_message.specs.Text.{BareCr as BeginsBareCr, Text as BeginsText, TooLarge as BeginsTooLarge, Unfinished, beginning_of, empty_lines_before_head, window}
use Rattle.http_message.specs.declared.find.HeadFound.{HeadFound}
use Rattle.http_message.specs.declared.find.HeadFound.TheVariants.{BareCr, Text, TooLarge}
use Rattle.http_message.specs.declared.scan.HeadScan.{HeadScan}
use Rattle.http_message.specs.declared.incomplete.Incomplete.{Incomplete}

-- a bare CR follows the empty lines
pub record IsBareCrAt (held : List ℕ) (empty_lines : ℕ) : Type 0 where
  pub beginning : beginning_of held ≡ BeginsBareCr
  pub empty_lines_is : empty_lines ≡ empty_lines_before_head held
  pub within : empty_lines + 2 ≤ length held
  pub limit : empty_lines + 2 ≤ head_limit

-- the text of a head follows the empty lines
pub record IsTextAt (held : List ℕ) (empty_lines size : ℕ) : Type 0 where
  pub beginning : beginning_of held ≡ BeginsText (take size (drop empty_lines held))
  pub empty_lines_is : empty_lines ≡ empty_lines_before_head held
  pub some : 0 < size
  pub within : empty_lines + size ≤ length held
  pub limit : empty_lines + size ≤ head_limit

-- no head ends in the window
pub record IsTooLarge (held : List ℕ) : Type 0 where
  pub beginning : beginning_of held ≡ BeginsTooLarge
  pub full : head_limit ≤ length held

-- more bytes decide
pub record IsUnread (held : List ℕ) : Type 0 where
  pub beginning : beginning_of held ≡ Unfinished
  pub space : length held < head_limit

-- what the bytes begin with
abbrev pub IsAtBeginning : List ℕ → HeadFound → Type 0
IsAtBeginning held (BareCr empty_lines) = IsBareCrAt held empty_lines
IsAtBeginning held (Text empty_lines size) = IsTextAt held empty_lines size
IsAtBeginning held TooLarge = IsTooLarge held

-- what a look at the bytes shows: what they begin with, or that more bytes are needed, and what is known
abbrev pub IsLook : List ℕ → Result HeadFound HeadScan → Type 0
IsLook held (Ok found) = IsAtBeginning held found
IsLook held (Err further) = IsUnread held × IsScanned (window held) further

-- what was found, or why no more bytes came
abbrev pub IsFound : (source source' : End) → List ℕ → Result HeadFound Incomplete → Type 0
IsFound source source' held (Ok found) = IsAtBeginning held found
IsFound source source' held (Err incomplete) = IsUnread held × NoMoreBytes source source' incomplete
