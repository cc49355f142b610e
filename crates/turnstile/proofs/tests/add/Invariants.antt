use Rattle.std.proofs.Common.{[], ◌∷◌}
use Rattle.turnstile.proofs.tests.add.Given as goal

-- the number that was added
abbrev pub ghosts-give_number : goal.ghosts-give_number
ghosts-give_number g a = record { made = a.number ∷ [] }
