-- Internal. What the choice of a key rests on, and how a call tells it.
use Rattle.std.specs.Prelude.{◌≡◌, ◌≤◌, ℕ, ◌==◌, not, Bool, true, false, List, Option, Some, None, Result, Ok, Err}
use Rattle.query_normal.specs.Pages.{Page}
use Rattle.flat_snapshot.specs.declared.sight.Sight.{Sight}
use Rattle.flat_snapshot.specs.declared.sight.KeyMark.{KeyMark}
use Rattle.flat_snapshot.specs.declared.read.PageRefusal.{PageRefusal}
use Rattle.flat_snapshot.specs.Reading.{read_page}
use Rattle.flat_snapshot.specs.Sight.{mark_of}
use Rattle.client_core.specs.declared.level.Level.{Level}
use Rattle.client_core.specs.declared.level.Level.TheVariants.{Causal}
use Rattle.client_core.specs.declared.floors.FloorRow.{FloorRow}
use Rattle.client_core.specs.declared.floors.Floors.{Floors}
use Rattle.client_core.specs.Choice.{front_of, commit_with}
use Rattle.client_core.specs.Floor.{Event, floor_of, is_listed, same_mark}
use Rattle.client_core.specs.Table.{HasPast}
use Rattle.client_web.specs.declared.choice.Ask.{Ask}
use Rattle.client_web.specs.declared.choice.Choice.{Choice}
use Rattle.client_web.specs.declared.choice.Head.{Head}
use Rattle.client_web.specs.Answer.{level_by, number_of_why, number_of_refusal, sight_by, why_at}

-- a floor of a mark: at least the one that the level owes, at most that of all reads, and the owed one where no row was
-- given away
pub record IsFloor (floors : Floors) (rows : List FloorRow) (l : Level) (mark : KeyMark) (floor : ℕ) : Type 0 where
  pub least : (past : List (Event KeyMark)) → HasPast floors rows past → floor_of same_mark l past mark ≤ floor
  pub most : (past : List (Event KeyMark)) → HasPast floors rows past → floor ≤ floor_of same_mark Causal past mark
  pub exact : (past : List (Event KeyMark)) → HasPast floors rows past → floors.has_dropped ≡ false → floor ≡ floor_of same_mark l past mark

-- whether a mark is whitelisted: only if it was asked for since the last page, and if so where no row was given away
pub record IsListing (floors : Floors) (rows : List FloorRow) (mark : KeyMark) (listed : Bool) : Type 0 where
  pub only : (past : List (Event KeyMark)) → HasPast floors rows past → listed ≡ true → is_listed same_mark past mark ≡ true
  pub exact : (past : List (Event KeyMark)) → HasPast floors rows past → floors.has_dropped ≡ false → listed ≡ is_listed same_mark past mark

-- what the choice of a mark rests on
pub record IsChoice (floors : Floors) (rows : List FloorRow) (l : Level) (sight : Option Sight) (mark : KeyMark) (commit : ℕ) (choice : Choice) : Type 0 where
  pub mark_is : choice.mark ≡ mark
  pub front : choice.front ≡ front_of sight
  pub floor : IsFloor floors rows l mark choice.floor
  pub good_for : choice.commit ≡ commit_with sight commit
  pub listed : IsListing floors rows mark choice.is_listed

-- the answer for a level and what the page says: the choice, and why the server is asked by it; or a refusal, and nothing
-- is written
abbrev pub ChoosesBy : Option Level → Result (Option Sight) PageRefusal → Floors → List FloorRow → List ℕ → Ask → Choice → Choice → ℕ → Type 0
ChoosesBy (Some l) (Ok sight) floors rows text ask old new result =
    IsChoice floors rows l sight (mark_of text) ask.commit new
    × (result ≡ number_of_why (why_at (not (ask.copies == 0)) l sight new.is_listed ask.commit ask.until new.floor))
ChoosesBy (Some l) (Err refusal) floors rows text ask old new result = (result ≡ number_of_refusal refusal) × (new ≡ old)
ChoosesBy None sight floors rows text ask old new result = (result ≡ 16) × (new ≡ old)

-- the same by the numbers and bytes of a host
abbrev pub Chooses : Floors → List FloorRow → List ℕ → List ℕ → Ask → Choice → Choice → ℕ → Type 0
Chooses floors rows page text ask old new result =
    ChoosesBy (level_by ask.level) (sight_by page text) floors rows text ask old new result

-- the numbers of a page, or the refusal of its bytes
abbrev pub IsHeadOf : Result Page PageRefusal → Head → Head → ℕ → Type 0
IsHeadOf (Ok page) old new result =
    (new.front ≡ page.front) × (new.commits ≡ page.commits) × (new.moment ≡ page.moment) × (result ≡ 0)
IsHeadOf (Err refusal) old new result = (result ≡ number_of_refusal refusal) × (new ≡ old)

-- the same of bytes
abbrev pub IsHead : List ℕ → Head → Head → ℕ → Type 0
IsHead bytes old new result = IsHeadOf (read_page bytes) old new result
