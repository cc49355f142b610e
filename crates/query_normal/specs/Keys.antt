-- Believed. The texts of keys, and when two keys are equal.
use Rattle.std.specs.Prelude.{ℕ, Bool, true, false, ◌&&◌, List, ◌++◌, bytes_eq, codes}
use Rattle.q_base.specs.Name.{IsName}
use Rattle.query_normal.specs.declared.key.KeyShape.{KeyShape}
use Rattle.query_normal.specs.declared.key.KeyShape.TheVariants.{Record, Query}
use Rattle.query_core.specs.declared.query.Kind.{Kind}
use Rattle.query_core.specs.declared.query.Kind.TheVariants.{Objects, Ids}
use Rattle.query_core.specs.Print.{print_query}
use Rattle.query_core.specs.Same.{same_query}
use Rattle.query_normal.specs.Normal.{IsNormal}

-- the word of a kind
abbrev pub kind_text : Kind → List ℕ
kind_text Objects = codes "objects"
kind_text Ids = codes "ids"

-- the text of a key: `r/COLLECTION/ID` for a record, and `q/COLLECTION/KIND/f=FILTER;o=ORDER;s=SKIP;n=TAKE` for a query
unfoldable pub key_text : KeyShape → List ℕ
key_text (Record collection id) = codes "r/" ++ collection ++ codes "/" ++ id
key_text (Query kind normal) = codes "q/" ++ normal.collection ++ codes "/" ++ kind_text kind ++ codes "/" ++ print_query normal

-- whether two kinds are equal
abbrev pub same_kind : Kind → Kind → Bool
same_kind Objects Objects = true
same_kind Ids Ids = true
same_kind a b = false

-- whether two keys are equal: all their parts are
abbrev pub same_key : KeyShape → KeyShape → Bool
same_key (Record collection id) (Record other_collection other_id) = bytes_eq collection other_collection && bytes_eq id other_id
same_key (Query kind normal) (Query other_kind other_normal) = same_kind kind other_kind && same_query normal other_normal
same_key a b = false

-- the collection that a key reads from
abbrev pub collection_of : KeyShape → List ℕ
collection_of (Record collection id) = collection
collection_of (Query kind normal) = normal.collection

-- the names in a key are names, and its query is in normal form
abbrev pub IsKey : KeyShape → Type 0
IsKey (Record collection id) = IsName collection × IsName id
IsKey (Query kind normal) = IsName normal.collection × IsNormal normal

-- the key of a record
abbrev pub IsRecordKey : KeyShape → Type 0
IsRecordKey (Record collection id) = Unit {0}
IsRecordKey (Query kind normal) = ⊥
