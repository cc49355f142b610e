-- Internal. What a source with a buffer shows over the source under it.
use Rattle.std.specs.Prelude.{◌≡◌, ◌<◌, List, [], ◌++◌, ℕ, Option, Some, None, Result, Ok, Err}
use Rattle.q_outside.specs.Ends.{End, IsEnded, TookBytes}

-- these bytes before those that are left
abbrev pub put_before : List ℕ → Option (List ℕ) → Option (List ℕ)
put_before held None = None
put_before held (Some left) = Some (held ++ left)

-- a source that has these bytes in its buffer, over this one
abbrev pub over : List ℕ → End → End
over held source = record { bytes = put_before held source.bytes; faults = source.faults }

-- a buffer was filled from the source under it, with nothing only at its end; or that one has failed
abbrev pub Fills : {T E : Type 0} → (before after : End) → (held : List ℕ) → Result T E → Type 0
Fills before after held (Ok done) = TookBytes before after held × (held ≡ [] → IsEnded after.bytes)
Fills before after held (Err failed) = (held ≡ []) × TookBytes before after [] × (before.faults < after.faults)
