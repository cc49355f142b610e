use Rattle.std.specs.Prelude.{[], ◌∷◌}
use Rattle.shared_log.specs.Notes.{Queued}
use Rattle.shared_log.proofs.gives.give_queued.Given as goal

-- the entry that the frame was queued
abbrev pub ghosts-give_frame : goal.ghosts-give_frame
ghosts-give_frame g a = record { made = Queued (record { kind = a.kind; clock = a.clock; body = a.body.now }) ∷ [] }
