-- Internal. How often a name occurs among the fields, as the code answers it.
use Rattle.std.specs.Prelude.{◌≡◌, ℕ, List, [], ◌∷◌}
use Rattle.http_message.specs.declared.fields.Named.{Named}
use Rattle.http_message.specs.declared.fields.Named.TheVariants.{Absent, Once, Repeated}

-- what is answered for the values of the fields of a name
abbrev pub IsNamed : List (List ℕ) → Named → Type 0
IsNamed found Absent = found ≡ []
IsNamed found (Once value) = found ≡ value.now ∷ []
IsNamed found Repeated =
    (first second : List ℕ) × (others : List (List ℕ)) × (found ≡ first ∷ second ∷ others)
