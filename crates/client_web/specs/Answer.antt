-- Internal. The numbers by which the calls tell a host what they found.
use Rattle.std.specs.Prelude.{ℕ, ◌==◌, Bool, true, false, if◌then◌else◌, List, [], ◌∷◌, Option, Some, None, Result, Ok, Err}
use Rattle.flat_snapshot.specs.declared.sight.Sight.{Sight}
use Rattle.flat_snapshot.specs.declared.read.PageRefusal.{PageRefusal}
use Rattle.flat_snapshot.specs.declared.read.PageRefusal.TheVariants.{BadSize, BadMark, BadField, Memory}
use Rattle.flat_snapshot.specs.Sight.{sight_in}
use Rattle.flat_snapshot.specs.Reading.{read_page}
use Rattle.client_core.specs.declared.level.Level.{Level}
use Rattle.client_core.specs.declared.level.Level.TheVariants as level
use Rattle.client_core.specs.declared.choice.Why.{Why}
use Rattle.client_core.specs.declared.choice.Why.TheVariants as why
use Rattle.client_core.specs.Choice.{why_before, why_of}

-- the level of a number
abbrev pub level_by : ℕ → Option Level
level_by n =
    if n == 0 then Some level.Session else (if n == 1 then Some level.Causal else (if n == 2 then Some level.Strong else None))

-- why the server is asked, as a number; 0 where there is no cause
abbrev pub number_of_why : Option Why → ℕ
number_of_why None = 0
number_of_why (Some why.Strong) = 1
number_of_why (Some why.Flagged) = 2
number_of_why (Some why.Older) = 3
number_of_why (Some why.Expired) = 4
number_of_why (Some why.BelowFloor) = 5

-- why bytes are not a page, as a number
abbrev pub number_of_refusal : PageRefusal → ℕ
number_of_refusal (BadSize want found) = 17
number_of_refusal BadMark = 18
number_of_refusal (BadField place) = 19
number_of_refusal Memory = 20

-- what a page says of a text, where there is one
abbrev pub held_sight : Result Sight PageRefusal → Result (Option Sight) PageRefusal
held_sight (Ok sight) = Ok (Some sight)
held_sight (Err refusal) = Err refusal

-- what the host's page says of a text; no bytes are no page
abbrev pub sight_by : List ℕ → List ℕ → Result (Option Sight) PageRefusal
sight_by [] text = Ok None
sight_by (b ∷ page) text = held_sight (sight_in text (read_page (b ∷ page)))

-- why the server is asked, with a copy at hand or before one is looked for
abbrev pub why_at : Bool → Level → Option Sight → Bool → ℕ → ℕ → ℕ → Option Why
why_at true l sight listed commit until floor = why_of l sight listed commit until floor
why_at false l sight listed commit until floor = why_before l sight listed
