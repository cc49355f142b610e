-- Worked rows, computed from the definitions.
use Rattle.std.proofs.Common.{◌≡◌, ℕ, List, [], ◌∷◌, true, false, pos, codes, refl}
use Rattle.std.specs.Fmt.{digits}
use Rattle.q_doc.specs.Tree.{Tree, number, text, null, object, no_members}
use Rattle.query_core.specs.declared.operator.Op.TheVariants.{Equal, Less, AtLeast}
use Rattle.query_core.specs.declared.query.Kind.TheVariants.{Objects}
use Rattle.query_core.specs.declared.query.Query.{Query as AQuery}
use Rattle.query_core.specs.Filters.{Filter, constant, compared, listed, present, negated, every, some, operands_of}
use Rattle.query_core.specs.Meaning.{satisfies}
use Rattle.query_normal.specs.declared.key.KeyShape.TheVariants.{Record, Query}
use Rattle.query_normal.specs.Keys.{key_text}
use Rattle.query_normal.specs.Normal.{normal_filter, normal_order, normal_query}

-- the text of the record p1 of the collection shop
pub shop_p1 : key_text (Record (codes "shop") (codes "p1")) ≡ codes "r/shop/p1"
unfolding key_text
shop_p1 = refl

abbrev a : List (List ℕ)
a = codes "a" ∷ []

abbrev b : List (List ℕ)
b = codes "b" ∷ []

abbrev whole : ℕ → Tree
whole n = number (pos n)

abbrev a_is_1 : Filter
a_is_1 = compared a Equal (whole 1)

abbrev b_is_2 : Filter
b_is_2 = compared b Equal (whole 2)

abbrev all_of : List Filter → Filter
all_of fs = every (operands_of fs)

abbrev one_of_these : List Filter → Filter
one_of_these fs = some (operands_of fs)

-- a query of the collection shop with the usual numbers
abbrev query : Filter → AQuery
query f = record { collection = codes "shop"; filter = f; order = []; skip = 0; take = 100 }

-- `a = 1 and b = 2`, and `(b = 2) and a = 1 and a = 1`, have one key
pub one_key : key_text (Query Objects (normal_query (query (all_of (a_is_1 ∷ b_is_2 ∷ []))))) ≡ codes "q/shop/objects/f=a = 1 and b = 2;o=;s=0;n=100"
unfolding key_text digits
one_key = refl

pub other_spelling : normal_query (query (all_of (b_is_2 ∷ a_is_1 ∷ a_is_1 ∷ []))) ≡ normal_query (query (all_of (a_is_1 ∷ b_is_2 ∷ [])))
unfolding digits
other_spelling = refl

-- the negation of a comparison stays, since a document without the value satisfies it
pub not_less : normal_filter false (negated (compared a Less (whole 3))) ≡ negated (compared a Less (whole 3))
not_less = refl

pub not_less_of_nothing : (satisfies (negated (compared a Less (whole 3))) (object no_members) ≡ true) × (satisfies (compared a AtLeast (whole 3)) (object no_members) ≡ false)
not_less_of_nothing = (refl, refl)

-- negations go down to the atoms, and two of them vanish
pub negations :
    (normal_filter false (negated (all_of (present a ∷ present b ∷ []))) ≡ one_of_these (negated (present a) ∷ negated (present b) ∷ []))
    × (normal_filter false (negated (one_of_these (present a ∷ present b ∷ []))) ≡ all_of (negated (present a) ∷ negated (present b) ∷ []))
    × (normal_filter false (negated (negated (present a))) ≡ present a)
    × (normal_filter false (negated (constant true)) ≡ constant false)
negations = (refl, refl, refl, refl)

-- the values of a list are put in order, each once; none is false, and one is a comparison
pub lists :
    (normal_filter false (listed a (text (codes "x") ∷ whole 2 ∷ whole 10 ∷ whole 2 ∷ null ∷ [])) ≡ listed a (null ∷ whole 2 ∷ whole 10 ∷ text (codes "x") ∷ []))
    × (normal_filter false (listed a []) ≡ constant false)
    × (normal_filter false (listed a (whole 1 ∷ whole 1 ∷ [])) ≡ a_is_1)
    × (normal_filter true (listed a []) ≡ constant true)
lists = (refl, refl, refl, refl)

-- an `and` inside an `and` is part of it, the neutral constant is left out, and the other one decides
pub joints :
    (normal_filter false (all_of (all_of (present b ∷ present a ∷ []) ∷ constant true ∷ [])) ≡ all_of (present a ∷ present b ∷ []))
    × (normal_filter false (all_of (present a ∷ constant true ∷ [])) ≡ present a)
    × (normal_filter false (all_of (present a ∷ constant false ∷ [])) ≡ constant false)
    × (normal_filter false (one_of_these (present a ∷ constant true ∷ [])) ≡ constant true)
    × (normal_filter false (one_of_these (constant false ∷ constant false ∷ [])) ≡ constant false)
joints = (refl, refl, refl, refl, refl)

-- each path of an order stays where it comes first
pub orders : normal_order ((b, true) ∷ (a, false) ∷ (b, false) ∷ (a, true) ∷ []) ≡ (b, true) ∷ (a, false) ∷ []
orders = refl
