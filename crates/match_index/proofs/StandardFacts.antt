-- Worked cases of candidates, computed from the definitions.
use Rattle.std.proofs.Common.{◌≡◌, ℕ, List, [], ◌∷◌, true, false, Some, None, pos, codes, refl}
use Rattle.q_doc.specs.Tree.{Tree, null, boolean, number, text, object, no_members, member}
use Rattle.query_core.specs.declared.operator.Op.TheVariants.{Equal, Unequal, Greater}
use Rattle.query_core.specs.declared.query.Query.{Query}
use Rattle.query_core.specs.Changes.{verdict_of}
use Rattle.query_core.specs.Filters.{Filter, constant, compared, listed, having, negated, every, some, operands_of}
use Rattle.match_index.specs.Candidates.{probe_of, is_candidate}

abbrev path : List ℕ → List (List ℕ)
path name = name ∷ []

abbrev whole : ℕ → Tree
whole n = number (pos n)

-- a document with a member n
abbrev counted : ℕ → Tree
counted n = object (member (codes "n") (whole n) no_members)

-- a document with members a and b
abbrev pair : ℕ → ℕ → Tree
pair a b = object (member (codes "a") (whole a) (member (codes "b") (whole b) no_members))

abbrev query : Filter → Query
query f = record { collection = codes "shop"; filter = f; order = []; skip = 0; take = 100 }

-- n is this value
abbrev is : ℕ → Query
is n = query (compared (path (codes "n")) Equal (whole n))

-- a = 1 and b > 0
abbrev both : Query
both = query (every (operands_of (compared (path (codes "a")) Equal (whole 1) ∷ compared (path (codes "b")) Greater (whole 0) ∷ [])))

-- ---- equalities

-- the first operand that is one, and none where there is only another comparison or another filter
equalities :
    (probe_of both.filter ≡ Some (path (codes "a"), whole 1))
    × (probe_of (every (operands_of (compared (path (codes "b")) Greater (whole 0) ∷ compared (path (codes "c")) Equal null ∷ compared (path (codes "d")) Equal (whole 2) ∷ []))) ≡ Some (path (codes "c"), null))
    × (probe_of (compared (path (codes "a")) Unequal (whole 1)) ≡ None)
    × (probe_of (some (operands_of (compared (path (codes "a")) Equal (whole 1) ∷ compared (path (codes "b")) Equal (whole 1) ∷ []))) ≡ None)
    × (probe_of (negated (compared (path (codes "a")) Equal (whole 1))) ≡ None)
    × (probe_of (listed (path (codes "a")) (whole 1 ∷ [])) ≡ None)
    × (probe_of (having (path (codes "a")) (whole 1)) ≡ None)
    × (probe_of (every (operands_of (every (operands_of (compared (path (codes "a")) Equal (whole 1) ∷ [])) ∷ []))) ≡ None)
equalities = (refl, refl, refl, refl, refl, refl, refl, refl)

-- ---- candidates

-- a document that comes, with the value that is asked for and without it
comes :
    (is_candidate both (codes "shop") None (Some (pair 1 1)) ≡ true)
    × (verdict_of both (codes "shop") None (Some (pair 1 1)) ≡ record { before = false; after = true })
    × (is_candidate both (codes "shop") None (Some (pair 1 0)) ≡ true)
    × (verdict_of both (codes "shop") None (Some (pair 1 0)) ≡ record { before = false; after = false })
    × (is_candidate both (codes "shop") None (Some (pair 2 1)) ≡ false)
    × (is_candidate both (codes "toys") None (Some (pair 1 1)) ≡ false)
comes = (refl, refl, refl, refl, refl, refl)

-- a new value concerns the queries that ask for the old one and for the new one
moves :
    (is_candidate (is 3) (codes "shop") (Some (counted 3)) (Some (counted 503)) ≡ true)
    × (is_candidate (is 503) (codes "shop") (Some (counted 3)) (Some (counted 503)) ≡ true)
    × (is_candidate (is 4) (codes "shop") (Some (counted 3)) (Some (counted 503)) ≡ false)
moves = (refl, refl, refl)

-- a value of another type is another value, and a query without an equality is concerned by each commit
others :
    (is_candidate (query (compared (path (codes "n")) Equal (text (codes "3")))) (codes "shop") (Some (counted 3)) None ≡ false)
    × (is_candidate (query (compared (path (codes "n")) Equal (boolean true))) (codes "shop") (Some (counted 1)) None ≡ false)
    × (is_candidate (query (compared (path (codes "n")) Greater (whole 9))) (codes "shop") (Some (counted 3)) None ≡ true)
    × (is_candidate (query (constant false)) (codes "shop") None None ≡ true)
others = (refl, refl, refl, refl)
