-- Worked results, computed from the definitions.
use Rattle.std.proofs.Common.{◌≡◌, ℕ, [], ◌∷◌, length, pos, true, false, codes, refl}
use Rattle.std.specs.Fmt.{digits}
use Rattle.json.specs.Print.{escape_byte}
use Rattle.q_doc.specs.Tree.{Tree, number, text, object, member, no_members}
use Rattle.query_core.specs.declared.query.Kind.TheVariants.{Objects, Ids}
use Rattle.query_core.specs.Window.{Row}
use Rattle.result_kinds.specs.Results.{result_of, text_of_result}
use Rattle.result_kinds.specs.Same.{same_result}

abbrev a_is : ℕ → Tree
a_is n = object (member (codes "a") (number (pos n)) no_members)

abbrev p1 : Row
p1 = (codes "p1", 1, a_is 1)

abbrev p2 : Row
p2 = (codes "p-2", 120, object (member (codes "b") (text (codes "x\"")) no_members))

-- one row, by each kind
one-object : text_of_result (result_of Objects (p1 ∷ [])) ≡ codes "[{\"doc\":{\"a\":1},\"id\":\"p1\",\"version\":1}]"
unfolding digits escape_byte
one-object = refl

one-id : text_of_result (result_of Ids (p1 ∷ [])) ≡ codes "[\"p1\"]"
one-id = refl

-- their lengths
lengths : (length (text_of_result (result_of Objects (p1 ∷ []))) ≡ 39) × (length (text_of_result (result_of Ids (p1 ∷ []))) ≡ 6)
unfolding digits escape_byte
lengths = (refl, refl)

-- two rows have a comma between them; the texts in a document are escaped
two-objects : text_of_result (result_of Objects (p1 ∷ p2 ∷ [])) ≡ codes "[{\"doc\":{\"a\":1},\"id\":\"p1\",\"version\":1},{\"doc\":{\"b\":\"x\\\"\"},\"id\":\"p-2\",\"version\":120}]"
unfolding digits escape_byte
two-objects = refl

two-ids : text_of_result (result_of Ids (p1 ∷ p2 ∷ [])) ≡ codes "[\"p1\",\"p-2\"]"
two-ids = refl

-- no row
none : (text_of_result (result_of Objects []) ≡ codes "[]") × (text_of_result (result_of Ids []) ≡ codes "[]")
none = (refl, refl)

-- a document that was put again is another result of kind objects, and the same of kind ids; the order counts in both
told :
    (same_result Objects (p1 ∷ []) ((codes "p1", 2, a_is 1) ∷ []) ≡ false)
    × (same_result Ids (p1 ∷ []) ((codes "p1", 2, a_is 1) ∷ []) ≡ true)
    × (same_result Objects (p1 ∷ p2 ∷ []) (p1 ∷ p2 ∷ []) ≡ true)
    × (same_result Objects (p1 ∷ p2 ∷ []) (p2 ∷ p1 ∷ []) ≡ false)
    × (same_result Ids (p1 ∷ p2 ∷ []) (p2 ∷ p1 ∷ []) ≡ false)
    × (same_result Ids (p1 ∷ p2 ∷ []) (p1 ∷ []) ≡ false)
told = (refl, refl, refl, refl, refl, refl)
