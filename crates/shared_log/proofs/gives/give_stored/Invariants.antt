use Rattle.std.specs.Prelude.{[], ◌∷◌}
use Rattle.shared_log.specs.Notes.{Stored}
use Rattle.shared_log.proofs.gives.give_stored.Given as goal

-- the entry that so many frames are stored
abbrev pub ghosts-give_mark : goal.ghosts-give_mark
ghosts-give_mark g a = record { made = Stored a.frames a.log.value ∷ [] }
