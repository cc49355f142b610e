-- Internal. What is found for a commit.
use Rattle.std.specs.Prelude.{ℕ, if◌then◌else◌, List, [], ◌∷◌, ◌++◌, Option, None, Some, option_and_then}
use Rattle.std.specs.BTreeMap.{BTreeMap, get, IsOrdered}
use Rattle.std.specs.List.{flat_map, IsDistinct}
use Rattle.indexmap.specs.IndexSet.{IndexSet}
use Rattle.q_doc.specs.Order.{tree_cmp}
use Rattle.q_doc.specs.Path.{tree_at}
use Rattle.q_doc.specs.TextOrder.{path_cmp}
use Rattle.q_doc.specs.Tree.{Tree}
use Rattle.query_core.specs.Meaning.{same_value}
use Rattle.query_normal.specs.declared.key.KeyShape.{KeyShape}
use Rattle.query_normal.specs.Keys.{same_key}
use Rattle.match_index.specs.declared.places.Places.{Places}

-- the value of a document, if there is one, at a path
abbrev pub value_at : List (List ℕ) → Option Tree → Option Tree
value_at p document = option_and_then (λ t. tree_at p t) document

-- the second value, unless it is the first
abbrev pub unless_same : Option Tree → Option Tree → Option Tree
unless_same None b = b
unless_same (Some t) None = None
unless_same (Some t) (Some u) = if same_value t u then None else Some u

module _ {S : Type 0} where
  -- the keys of a set, if there is one
  abbrev pub keys_in : Option (IndexSet KeyShape S) → List KeyShape
  keys_in None = []
  keys_in (Some keys) = keys.keys

  -- the keys at a value, if there is one
  abbrev pub keys_at : BTreeMap Tree (IndexSet KeyShape S) → Option Tree → List KeyShape
  keys_at values None = []
  keys_at values (Some t) = keys_in (get tree_cmp values t)

  -- the keys at a path and the values there of two documents, once where these are the same
  abbrev pub keys_of_entry : Option Tree → Option Tree → List (List ℕ) × BTreeMap Tree (IndexSet KeyShape S) → List KeyShape
  keys_of_entry before after e = keys_at e.1 (value_at e.0 before) ++ keys_at e.1 (unless_same (value_at e.0 before) (value_at e.0 after))

  -- in each of the two there is no key twice
  abbrev pub IsOnce : Option Tree → Option Tree → List (List ℕ) × BTreeMap Tree (IndexSet KeyShape S) → Type 0
  IsOnce before after e = IsDistinct same_key (keys_at e.1 (value_at e.0 before)) × IsDistinct same_key (keys_at e.1 (unless_same (value_at e.0 before) (value_at e.0 after)))

  -- the same of each path
  abbrev pub AreOnce : Option Tree → Option Tree → List (List (List ℕ) × BTreeMap Tree (IndexSet KeyShape S)) → Type 0
  AreOnce before after [] = Unit {0}
  AreOnce before after (e ∷ es) = IsOnce before after e × AreOnce before after es

-- the keys of a collection for two documents
abbrev pub keys_of_places : Option Tree → Option Tree → Places → List KeyShape
keys_of_places before after places = places.rest.keys ++ flat_map (keys_of_entry before after) places.equal.entries

-- the same, if there is one
abbrev pub keys_found : Option Tree → Option Tree → Option Places → List KeyShape
keys_found before after None = []
keys_found before after (Some places) = keys_of_places before after places

-- in each part of them there is no key twice, nor a path in the map
pub record HaveOnce (before after : Option Tree) (places : Places) : Type 0 where
  pub rest : IsDistinct same_key places.rest.keys
  pub equal : AreOnce before after places.equal.entries
  pub ordered : IsOrdered path_cmp places.equal
