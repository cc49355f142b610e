-- Internal. The copies of a state, as a hub keeps them.
use Rattle.std.specs.Prelude.{List, map}
use Rattle.issued_expiries.specs.Copies.{Copy}
use Rattle.hub_model.specs.Copies.{live}
use Rattle.hub_model.specs.State.{IssuedCopy, State, until_of}

-- an issued copy, with its until
abbrev pub copy_of : IssuedCopy → Copy
copy_of r = (r.key, r.at, until_of r)

-- the unexpired copies of a state
abbrev pub copies_of : State → List Copy
copies_of s = map copy_of (live s)
