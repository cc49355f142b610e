-- Internal. Commits that are kept, or not.
use Rattle.std.specs.Prelude.{◌≡◌, ℕ, List, [], option_map}
use Rattle.std.specs.declared.option.Option.{Option}
use Rattle.std.specs.declared.option.Option.TheVariants.{None, Some}
use Rattle.commit_book.specs.declared.change.Change.{Change}

-- so it is by the number, where somebody keeps commits
abbrev pub keeps_by : {H : Type 0} → (H → ℕ → Type 0) → Option H → ℕ → Type 0
keeps_by keeps None n = Unit {0}
keeps_by keeps (Some hand) n = keeps hand n

-- these were kept before, and none where nobody keeps any
abbrev pub kept_with : {Q : Type 0} → (Q → List (ℕ × Change) → Type 0) → Option Q → List (ℕ × Change) → Type 0
kept_with kept None changes = changes ≡ []
kept_with kept (Some keeper) changes = kept keeper changes

-- the number that somebody has, and 0 where there is nobody
abbrev pub number_of : {Q : Type 0} → (Q → ℕ) → Option Q → ℕ
number_of number None = 0
number_of number (Some keeper) = number keeper

-- where somebody keeps what is given, and nowhere where there is nobody
abbrev pub log_of : {Q L : Type 0} → (Q → Option L) → Option Q → Option (Option L)
log_of log None = Some None
log_of log (Some keeper) = option_map Some (log keeper)

-- somebody opened it on what was kept before
abbrev pub opens_with : {Q L : Type 0} → (Q → L → Type 0) → Option Q → Option L → Type 0
opens_with opens None place = Unit {0}
opens_with opens (Some keeper) None = Unit {0}
opens_with opens (Some keeper) (Some place) = opens keeper place

-- a log was opened on the disk of somebody who has one
abbrev pub opened_with : {K O : Type 0} → (K → O → Type 0) → Option K → O → Type 0
opened_with opened None o = Unit {0}
opened_with opened (Some disk) o = opened disk o
