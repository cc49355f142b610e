-- Worked cases of the definitions, so that a slip in one does not check.
use Rattle.std.proofs.Common.{◌≡◌, ℕ, List, [], ◌∷◌, drop, Some, None, pos, codes, refl}
use Rattle.std.specs.Fmt.{digits}
use Rattle.json.specs.Print.{escape_byte}
use Rattle.q_doc.specs.Tree.{Tree, number, object, member, no_members}
use Rattle.commit_book.specs.declared.change.Change.{Change}
use Rattle.commit_book.specs.CommitRows.{commit_rows}
use Rattle.commit_book.specs.Contents.{added}
use Rattle.commit_book.specs.Documents.{docs}
use Rattle.commit_book.specs.Journal.{document_at, text_at, cost_of, kept, kept_rows}
use Rattle.std.specs.declared.result.Result.TheVariants.{Ok, Err}
use Rattle.commit_book.specs.declared.refusal.BookRefusal.TheVariants.{Full}

abbrev whole : ℕ → Tree
whole n = object (member (codes "a") (number (pos n)) no_members)

abbrev put : List ℕ → ℕ → Change
put id n = record { collection = codes "shop"; id = id; document = Some (whole n) }

abbrev delete : List ℕ → Change
delete id = record { collection = codes "shop"; id = id; document = None }

-- p2 comes before p10 in the journal and behind it in byte order; p2 is put, deleted and put again
abbrev journal : List Change
journal =
    put (codes "p2") 1
    ∷ put (codes "p10") 2
    ∷ delete (codes "p2")
    ∷ record { collection = codes "shops"; id = codes "p2"; document = Some (whole 4) }
    ∷ put (codes "p2") 5
    ∷ []

-- ---- what a change takes

-- {"a":1} in shop/p2 takes 77 bytes, its deletion 70
costs : (cost_of (put (codes "p2") 1) ≡ 77) × (cost_of (delete (codes "p2")) ≡ 70) × (kept journal 0 ≡ 380)
unfolding cost_of digits escape_byte
costs = (refl, refl, refl)

-- a change that comes to the capacity is taken, one above it is not, and the refusal gives the sum
capacity :
    (added (record { capacity = 154; journal = put (codes "p2") 1 ∷ []; horizon = 0; reserved = None; names = [] }) (put (codes "p2") 1) ≡ Ok 2)
    × (added (record { capacity = 153; journal = put (codes "p2") 1 ∷ []; horizon = 0; reserved = None; names = [] }) (put (codes "p2") 1) ≡ Err (Full 154))
unfolding cost_of digits escape_byte
capacity = (refl, refl)

-- up to the horizon the last row of a record stays, where it puts a document
kept-rows :
    (kept_rows journal 1 ≡ journal)
    × (kept_rows journal 3 ≡ put (codes "p10") 2 ∷ drop 3 journal)
    × (kept_rows journal 5 ≡ put (codes "p10") 2 ∷ drop 3 journal)
    × (kept_rows (put (codes "p2") 1 ∷ delete (codes "p2") ∷ []) 1 ≡ put (codes "p2") 1 ∷ delete (codes "p2") ∷ [])
    × (kept_rows (put (codes "p2") 1 ∷ delete (codes "p2") ∷ []) 2 ≡ [])
kept-rows = (refl, refl, refl, refl, refl)

kept-bytes : (kept journal 2 ≡ 380) × (kept journal 3 ≡ 233) × (kept journal 4 ≡ 233) × (kept journal 5 ≡ 233)
unfolding cost_of digits escape_byte
kept-bytes = (refl, refl, refl, refl)

-- dropped rows leave room
room :
    (added (record { capacity = 154; journal = put (codes "p2") 1 ∷ put (codes "p2") 2 ∷ []; horizon = 2; reserved = None; names = [] }) (put (codes "p2") 1) ≡ Ok 3)
    × (added (record { capacity = 154; journal = put (codes "p2") 1 ∷ put (codes "p2") 2 ∷ []; horizon = 1; reserved = None; names = [] }) (put (codes "p2") 1) ≡ Err (Full 231))
unfolding cost_of digits escape_byte
room = (refl, refl)

-- ---- the documents at a commit

-- a document is there from its commit until the next change of its record
documents :
    (document_at journal 0 (codes "shop") (codes "p2") ≡ None)
    × (document_at journal 1 (codes "shop") (codes "p2") ≡ Some (1, whole 1))
    × (document_at journal 2 (codes "shop") (codes "p2") ≡ Some (1, whole 1))
    × (document_at journal 3 (codes "shop") (codes "p2") ≡ None)
    × (document_at journal 4 (codes "shop") (codes "p2") ≡ None)
    × (document_at journal 5 (codes "shop") (codes "p2") ≡ Some (5, whole 5))
    × (document_at journal 5 (codes "shops") (codes "p2") ≡ Some (4, whole 4))
documents = (refl, refl, refl, refl, refl, refl, refl)

texts : (text_at journal 2 (codes "shop") (codes "p2") ≡ Some (1, codes "{\"a\":1}")) × (text_at journal 3 (codes "shop") (codes "p2") ≡ None)
unfolding digits escape_byte
texts = (refl, refl)

-- the documents of a collection are in byte order of their ids
collections :
    (docs journal 2 (codes "shop") ≡ (codes "p10", 2, whole 2) ∷ (codes "p2", 1, whole 1) ∷ [])
    × (docs journal 3 (codes "shop") ≡ (codes "p10", 2, whole 2) ∷ [])
    × (docs journal 5 (codes "shop") ≡ (codes "p10", 2, whole 2) ∷ (codes "p2", 5, whole 5) ∷ [])
    × (docs journal 5 (codes "none") ≡ [])
collections = (refl, refl, refl, refl)

-- ---- the commits

rows :
    (
    commit_rows journal 2 3
    ≡ record { commit = 3; collection = codes "shop"; id = codes "p2"; before = Some (whole 1); after = None } ∷ []
    )
    × (commit_rows journal 5 5 ≡ [])
    × (
    commit_rows journal 4 5
    ≡ record { commit = 5; collection = codes "shop"; id = codes "p2"; before = None; after = Some (whole 5) } ∷ []
    )
rows = (refl, refl, refl)
