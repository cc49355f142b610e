-- Internal. What a reply to a write tells.
use Rattle.std.specs.Prelude.{Bool, true, false}
use Rattle.hub_model.specs.declared.entry.Written.{Written}
use Rattle.hub_model.specs.declared.entry.Written.TheVariants.{Done, Precondition, Full}

-- the write was accepted
abbrev pub tells_done : Written → Bool
tells_done (Done commit before clock) = true
tells_done (Precondition found clock) = false
tells_done (Full bytes clock) = false
