-- Internal. Where the keys of queries are kept.
use Rattle.std.specs.Prelude.{◌≡◌, ℕ, Bool, true, false, not, ◌&&◌, ◌||◌, if◌then◌else◌, List, [], ◌∷◌, ◌++◌, Option, None, Some}
use Rattle.std.specs.BTreeMap.{BTreeMap, get}
use Rattle.std.specs.List.{list_any}
use Rattle.std.specs.Ordering.{is_eq}
use Rattle.std.specs.declared.cmp.Ordering.{Ordering}
use Rattle.indexmap.specs.IndexSet.{IndexSet}
use Rattle.q_doc.specs.Order.{tree_cmp}
use Rattle.q_doc.specs.TextOrder.{text_cmp, path_cmp}
use Rattle.q_doc.specs.Tree.{Tree}
use Rattle.query_normal.specs.declared.key.KeyShape.{KeyShape}
use Rattle.query_normal.specs.declared.key.KeyShape.TheVariants.{Record, Query as QueryKey}
use Rattle.query_normal.specs.Keys.{same_key, collection_of}
use Rattle.match_index.specs.declared.places.Places.{Places}
use Rattle.match_index.specs.Candidates.{Probe, probe_of, is_query}

-- ---- the keys that are held

-- whether a key is held
abbrev pub is_held : List KeyShape → KeyShape → Bool
is_held held key = list_any (same_key key) held

-- the keys with one more, which goes last where it is new
abbrev pub with_key : KeyShape → List KeyShape → List KeyShape
with_key key held = if is_held held key then held else held ++ key ∷ []

-- the equality of the query of a key
abbrev pub probe_of_key : KeyShape → Option Probe
probe_of_key (Record collection id) = None
probe_of_key (QueryKey kind q) = probe_of q.filter

-- ---- changes of what is kept

-- what passes the test is there too
abbrev pub Adds : {I : Type 0} → (I → Bool) → (I → Bool) → (I → Bool) → Type 0
Adds {I} test old new = (i : I) → new i ≡ (old i || test i)

-- what passes the test is there no more
abbrev pub Drops : {I : Type 0} → (I → Bool) → (I → Bool) → (I → Bool) → Type 0
Drops {I} test old new = (i : I) → new i ≡ (old i && not (test i))

-- the same is there
abbrev pub Stays : {I : Type 0} → (I → Bool) → (I → Bool) → Type 0
Stays {I} old new = (i : I) → new i ≡ old i

-- ---- maps

-- whether something, if it is there, has an item
abbrev pub inner : {V I : Type 0} → (V → I → Bool) → Option V → I → Bool
inner has None i = false
inner has (Some v) i = has v i

-- whether what a map has at the first of a pair has the second
abbrev pub level : {K V I : Type 0} → (K → K → Ordering) → (V → I → Bool) → BTreeMap K V → K × I → Bool
level cmp has m i = inner has (get cmp m i.0) i.1

-- whether a pair is of this first, and its second passes the test
abbrev pub at_pair : {K I : Type 0} → (K → K → Ordering) → K → (I → Bool) → K × I → Bool
at_pair cmp k test i = is_eq (cmp k i.0) && test i.1

-- ---- what is kept

module _ {S : Type 0} where
  -- whether a set has a key
  abbrev pub has_key : IndexSet KeyShape S → KeyShape → Bool
  has_key keys key = list_any (same_key key) keys.keys

  -- whether there is a key at a value
  abbrev pub has_value : BTreeMap Tree (IndexSet KeyShape S) → Tree × KeyShape → Bool
  has_value values = level tree_cmp has_key values

  -- whether there is one at a path and a value
  abbrev pub has_path : BTreeMap (List (List ℕ)) (BTreeMap Tree (IndexSet KeyShape S)) → List (List ℕ) × (Tree × KeyShape) → Bool
  has_path paths = level path_cmp has_value paths

-- whether a collection has a key with this equality, or without one
abbrev pub has_place : Places → Option Probe → KeyShape → Bool
has_place places None key = has_key places.rest key
has_place places (Some probe) key = has_path places.equal (probe.0, (probe.1, key))

-- the same of a pair
abbrev pub has_places : Places → Option Probe × KeyShape → Bool
has_places places i = has_place places i.0 i.1

-- whether there is a key in a collection, with this equality, or without one
abbrev pub has_spot : BTreeMap (List ℕ) Places → List ℕ × (Option Probe × KeyShape) → Bool
has_spot collections = level text_cmp has_places collections

-- ---- a key at its spot

-- whether a pair is of this value and this key
abbrev pub at_value : Tree → KeyShape → Tree × KeyShape → Bool
at_value v key = at_pair tree_cmp v (same_key key)

-- whether it is of this path, this value and this key
abbrev pub at_path : List (List ℕ) → Tree → KeyShape → List (List ℕ) × (Tree × KeyShape) → Bool
at_path p v key = at_pair path_cmp p (at_value v key)

-- whether an equality, or none, and a key are these
abbrev pub at_place : Option Probe → KeyShape → Option Probe → KeyShape → Bool
at_place None key None other = same_key key other
at_place None key (Some asked) other = false
at_place (Some probe) key None other = false
at_place (Some probe) key (Some asked) other = at_path probe.0 probe.1 key (asked.0, (asked.1, other))

-- the same of a pair
abbrev pub at_places : Option Probe → KeyShape → Option Probe × KeyShape → Bool
at_places probe key i = at_place probe key i.0 i.1

-- whether it is of this collection, this equality, or none, and this key
abbrev pub at_spot : List ℕ → Option Probe → KeyShape → List ℕ × (Option Probe × KeyShape) → Bool
at_spot collection probe key = at_pair text_cmp collection (at_places probe key)

-- ---- each key at its own spot

-- whether two equalities are the same
abbrev pub same_probe : Option Probe → Option Probe → Bool
same_probe None None = true
same_probe None (Some asked) = false
same_probe (Some probe) None = false
same_probe (Some probe) (Some asked) = is_eq (path_cmp probe.0 asked.0) && is_eq (tree_cmp probe.1 asked.1)

-- whether a spot is that of its key
abbrev pub is_own : List ℕ × (Option Probe × KeyShape) → Bool
is_own i = is_eq (text_cmp (collection_of i.1.1) i.0) && same_probe (probe_of_key i.1.1) i.1.0

-- The keys at a spot are those that are held and have it as their own, and those that are held are of queries.
pub record ArePlaced (held : List KeyShape) (collections : BTreeMap (List ℕ) Places) : Type 0 where
  pub spots : (i : List ℕ × (Option Probe × KeyShape)) → has_spot collections i ≡ (is_held held i.1.1 && is_own i)
  pub queries : (key : KeyShape) → is_held held key ≡ true → is_query key ≡ true
