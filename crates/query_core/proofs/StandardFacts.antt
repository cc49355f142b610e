-- Worked cases of the query language, computed from the definitions.
use Rattle.std.proofs.Common.{◌≡◌, ℕ, List, [], ◌∷◌, true, false, pos, negsuc, map, codes, ◌++◌, refl}
use Rattle.std.specs.Fmt.{digits}
use Rattle.q_doc.specs.Tree.{Tree, null, boolean, number, text, array, object, no_items, item, no_members, member}
use Rattle.query_core.specs.declared.operator.Op.TheVariants.{Equal, Unequal, Less, AtMost, Greater, AtLeast}
use Rattle.query_core.specs.declared.query.Query.{Query}
use Rattle.query_core.specs.Filters.{Filter, constant, compared, listed, having, present, negated, every, some, operands_of, height}
use Rattle.query_core.specs.Limits.{leaves}
use Rattle.query_core.specs.Meaning.{satisfies}
use Rattle.query_core.specs.Print.{print_query, filter_text}
use Rattle.query_core.specs.Window.{Row, Order, window}

abbrev a : List (List ℕ)
a = codes "a" ∷ []

abbrev b : List (List ℕ)
b = codes "b" ∷ []

abbrev whole : ℕ → Tree
whole n = number (pos n)

abbrev query : Filter → Order → ℕ → ℕ → Query
query f o s n = record { collection = codes "shop"; filter = f; order = o; skip = s; take = n }

-- ---- printed text

-- a comparison inside `not` has no parentheses
negation : print_query (query (negated (compared a Less (whole 3))) [] 0 100) ≡ codes "f=not a < 3;o=;s=0;n=100"
unfolding digits
negation = refl

-- the six operators
signs :
    (filter_text (compared a Equal (whole 1)) ≡ codes "a = 1")
    × (filter_text (compared a Unequal (whole 1)) ≡ codes "a != 1")
    × (filter_text (compared a Less (whole 1)) ≡ codes "a < 1")
    × (filter_text (compared a AtMost (whole 1)) ≡ codes "a <= 1")
    × (filter_text (compared a Greater (whole 1)) ≡ codes "a > 1")
    × (filter_text (compared a AtLeast (whole 1)) ≡ codes "a >= 1")
unfolding digits
signs = (refl, refl, refl, refl, refl, refl)

-- the other atoms, and the values
atoms :
    (filter_text (listed a (whole 1 ∷ whole 2 ∷ [])) ≡ codes "a in [1, 2]")
    × (filter_text (listed a []) ≡ codes "a in []")
    × (filter_text (having a (text (codes "x"))) ≡ codes "a has \"x\"")
    × (filter_text (present (codes "a" ∷ codes "b" ∷ [])) ≡ codes "exists a.b")
    × (filter_text (compared a Greater (number (negsuc 9223372036854775807))) ≡ codes "a > -9223372036854775808")
    × (filter_text (compared a AtMost null) ≡ codes "a <= null")
    × (filter_text (compared a Equal (boolean false)) ≡ codes "a = false")
    × (filter_text (constant true) ≡ codes "true")
unfolding digits
atoms = (refl, refl, refl, refl, refl, refl, refl, refl)

-- segments that are no words, and words of the language, are printed in quotes; texts are escaped
quotes :
    (filter_text (present (codes "" ∷ codes "in" ∷ codes "a b" ∷ codes "_b1" ∷ codes "1b" ∷ [])) ≡ codes "exists \"\".\"in\".\"a b\"._b1.\"1b\"")
    × (filter_text (compared a Equal (text (1 ∷ 10 ∷ 31 ∷ 34 ∷ 92 ∷ 127 ∷ []))) ≡ (codes "a = \"\\u0001\\u000a\\u001f\\\"\\\\" ++ 127 ∷ codes "\""))
quotes = (refl, refl)

-- which operands are printed in parentheses
parentheses :
    (filter_text (negated (every (operands_of (present a ∷ present b ∷ [])))) ≡ codes "not (exists a and exists b)")
    × (filter_text (negated (negated (present a))) ≡ codes "not not exists a")
    × (filter_text (every (operands_of (every (operands_of (present a ∷ present b ∷ [])) ∷ some (operands_of (present a ∷ present b ∷ [])) ∷ negated (present a) ∷ [])))
    ≡ codes "(exists a and exists b) and (exists a or exists b) and not exists a")
    × (filter_text (some (operands_of (every (operands_of (present a ∷ present b ∷ [])) ∷ some (operands_of (constant true ∷ constant false ∷ [])) ∷ [])))
    ≡ codes "exists a and exists b or (true or false)")
parentheses = (refl, refl, refl, refl)

-- descending items have a word, ascending ones have none
orders :
    print_query (query (constant true) ((codes "c" ∷ codes "c" ∷ [], true) ∷ (codes "" ∷ [], false) ∷ (a, true) ∷ []) 10000 1000)
    ≡ codes "f=true;o=c.c desc,\"\",a desc;s=10000;n=1000"
unfolding digits
orders = refl

-- ---- meaning

abbrev one : List ℕ → Tree → Tree
one key t = object (member key t no_members)

abbrev nothing : Tree
nothing = object no_members

-- a comparison is false of an absent value and of another type, and its negation is true then
absence :
    (satisfies (negated (compared a Less (whole 3))) nothing ≡ true)
    × (satisfies (compared a AtLeast (whole 3)) nothing ≡ false)
    × (satisfies (compared a Unequal (whole 1)) nothing ≡ false)
    × (satisfies (compared a Unequal (whole 1)) (one (codes "a") (text (codes "x"))) ≡ false)
    × (satisfies (compared a Unequal (whole 1)) (one (codes "a") (whole 2)) ≡ true)
    × (satisfies (compared a Unequal null) (one (codes "a") (whole 2)) ≡ false)
    × (satisfies (listed a (null ∷ [])) nothing ≡ false)
    × (satisfies (present a) nothing ≡ false)
    × (satisfies (present a) (one (codes "a") null) ≡ true)
absence = (refl, refl, refl, refl, refl, refl, refl, refl, refl)

-- truth values are of one type, false before true
truths :
    (satisfies (compared a Less (boolean true)) (one (codes "a") (boolean false)) ≡ true)
    × (satisfies (compared a Equal (boolean true)) (one (codes "a") (boolean false)) ≡ false)
truths = (refl, refl)

-- an element of an array, an element of a list, and paths through objects
elements :
    (satisfies (having a (whole 2)) (one (codes "a") (array (item (whole 1) (item (whole 2) no_items)))) ≡ true)
    × (satisfies (having a (whole 2)) (one (codes "a") (whole 2)) ≡ false)
    × (satisfies (listed a (whole 1 ∷ whole 2 ∷ [])) (one (codes "a") (whole 2)) ≡ true)
    × (satisfies (compared (codes "a" ∷ codes "b" ∷ []) Equal (whole 1)) (one (codes "a") (one (codes "b") (whole 1))) ≡ true)
    × (satisfies (compared (codes "a" ∷ codes "b" ∷ []) Equal (whole 1)) (one (codes "a") (whole 1)) ≡ false)
elements = (refl, refl, refl, refl, refl)

-- all of none are true, and one of none is not
joined :
    (satisfies (every (operands_of (compared a AtLeast (whole 1) ∷ compared a Less (whole 3) ∷ []))) (one (codes "a") (whole 3)) ≡ false)
    × (satisfies (some (operands_of (compared a Less (whole 1) ∷ compared a Equal (whole 3) ∷ []))) (one (codes "a") (whole 3)) ≡ true)
joined = (refl, refl)

-- ---- windows

abbrev row : List ℕ → ℕ → Tree → Row
row id version t = (id, version, t)

abbrev shop : List Row
shop =
    row (codes "p2") 1 (one (codes "b") (whole 1))
    ∷ row (codes "p3") 2 nothing
    ∷ row (codes "p1") 3 (one (codes "b") (whole 1))
    ∷ row (codes "p0") 4 (one (codes "b") (whole 2))
    ∷ []

abbrev ids_of : List Row → List (List ℕ)
ids_of rows = map (λ row. row.0) rows

-- an absent value is the least, a descending path reverses the order, and ties go by ids either way
windows :
    (ids_of (window (query (constant true) [] 0 100) shop) ≡ codes "p0" ∷ codes "p1" ∷ codes "p2" ∷ codes "p3" ∷ [])
    × (ids_of (window (query (constant true) ((b, false) ∷ []) 0 100) shop) ≡ codes "p3" ∷ codes "p1" ∷ codes "p2" ∷ codes "p0" ∷ [])
    × (ids_of (window (query (constant true) ((b, true) ∷ []) 0 100) shop) ≡ codes "p0" ∷ codes "p1" ∷ codes "p2" ∷ codes "p3" ∷ [])
    × (ids_of (window (query (constant true) ((b, true) ∷ []) 1 2) shop) ≡ codes "p1" ∷ codes "p2" ∷ [])
    × (ids_of (window (query (present b) ((b, true) ∷ []) 2 2) shop) ≡ codes "p2" ∷ [])
    × (ids_of (window (query (constant false) [] 0 100) shop) ≡ [])
windows = (refl, refl, refl, refl, refl, refl)

-- ---- sizes

sizes :
    (leaves (listed a (whole 1 ∷ whole 2 ∷ [])) ≡ 3)
    × (leaves (every (operands_of (present a ∷ negated (present b) ∷ []))) ≡ 2)
    × (height (every (operands_of (present a ∷ negated (present b) ∷ []))) ≡ 3)
sizes = (refl, refl, refl)
