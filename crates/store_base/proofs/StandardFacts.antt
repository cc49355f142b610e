-- Worked cases of the definitions, so that a slip in one does not check.
use Rattle.std.proofs.Common.{◌≡◌, ℕ, List, [], ◌∷◌, Some, None, codes, refl}
use Rattle.q_doc.specs.Tree.{object, no_members}
use Rattle.commit_book.specs.declared.change.Change.{Change}
use Rattle.store_base.specs.declared.base.DatedChange.{DatedChange}
use Rattle.store_base.specs.declared.base.BaseRow.{BaseRow}
use Rattle.store_base.specs.Bases.{base_of, expanded}

abbrev put : List ℕ → Change
put id = record { collection = codes "shop"; id = id; document = Some (object no_members) }

abbrev delete : List ℕ → Change
delete id = record { collection = codes "shop"; id = id; document = None }

-- a is put twice, and b is put and deleted
abbrev journal : List DatedChange
journal =
    record { clock = 10; change = put (codes "a") }
    ∷ record { clock = 20; change = put (codes "b") }
    ∷ record { clock = 30; change = put (codes "a") }
    ∷ record { clock = 40; change = delete (codes "b") }
    ∷ []

abbrev row : (commit clock : ℕ) → List ℕ → BaseRow
row commit clock id = record { commit = commit; clock = clock; change = put id }

-- before the first commit there is nothing, not even a name
at-0 : (base_of journal 0 5 ≡ record { head = record { horizon = 0; clock = 0; moment = 5; tail = None }; rows = [] }) × (expanded (base_of journal 0 5) ≡ [])
at-0 = (refl, refl)

-- the commit of the horizon is a row: in front of b stands a deletion of b in the place of the first a
at-3 :
    (base_of journal 3 5 ≡ record { head = record { horizon = 3; clock = 30; moment = 5; tail = None }; rows = row 2 20 (codes "b") ∷ row 3 30 (codes "a") ∷ [] })
    × (expanded (base_of journal 3 5) ≡ record { clock = 20; change = delete (codes "b") } ∷ record { clock = 20; change = put (codes "b") } ∷ record { clock = 30; change = put (codes "a") } ∷ [])
at-3 = (refl, refl)

-- the commit of the horizon deleted b, which is the tail
at-4 :
    (base_of journal 4 5 ≡ record { head = record { horizon = 4; clock = 40; moment = 5; tail = Some (record { collection = codes "shop"; id = codes "b" }) }; rows = row 3 30 (codes "a") ∷ [] })
    × (expanded (base_of journal 4 5) ≡ record { clock = 30; change = delete (codes "a") } ∷ record { clock = 30; change = delete (codes "a") } ∷ record { clock = 30; change = put (codes "a") } ∷ record { clock = 40; change = delete (codes "b") } ∷ [])
at-4 = (refl, refl)
