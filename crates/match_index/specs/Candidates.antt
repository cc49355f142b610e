-- Internal. Which queries a commit may concern.
use Rattle.std.specs.Prelude.{ℕ, Bool, true, false, ◌&&◌, ◌||◌, List, Option, None, Some}
use Rattle.std.specs.Str.{bytes_eq}
use Rattle.q_doc.specs.Tree.{Tree}
use Rattle.q_doc.specs.Path.{tree_at}
use Rattle.commit_book.specs.declared.change.CommitRow.{CommitRow}
use Rattle.query_core.specs.declared.operator.Op.{Op}
use Rattle.query_core.specs.declared.operator.Op.TheVariants.{Equal, Unequal, Less, AtMost, Greater, AtLeast}
use Rattle.query_core.specs.declared.query.Query.{Query}
use Rattle.query_core.specs.Changes.{passes_by}
use Rattle.query_core.specs.Filters.{Filter, constant, compared, listed, having, present, negated, every, some, Operands, no_operands, operand}
use Rattle.query_core.specs.Meaning.{compares}
use Rattle.query_normal.specs.declared.key.KeyShape.{KeyShape}
use Rattle.query_normal.specs.declared.key.KeyShape.TheVariants.{Record, Query as QueryKey}

-- ---- the equality of a filter

-- a path, and the value that the one at the path has to be
abbrev pub Probe : Type 0
Probe = List (List ℕ) × Tree

-- a comparison that is an equality
abbrev pub probe_by : List (List ℕ) → Op → Tree → Option Probe
probe_by p Equal v = Some (p, v)
probe_by p Unequal v = None
probe_by p Less v = None
probe_by p AtMost v = None
probe_by p Greater v = None
probe_by p AtLeast v = None

-- a filter that is an equality
abbrev pub equality_of : Filter → Option Probe
equality_of (constant b) = None
equality_of (compared p op v) = probe_by p op v
equality_of (listed p vs) = None
equality_of (having p v) = None
equality_of (present p) = None
equality_of (negated f) = None
equality_of (every fs) = None
equality_of (some fs) = None

-- the first of two that is there
abbrev pub first_of : Option Probe → Option Probe → Option Probe
first_of None other = other
first_of (Some probe) other = Some probe

-- the first operand that is an equality; operands in normal form are in the order of their texts
abbrev pub first_equality : Operands → Option Probe
first_equality no_operands = None
first_equality (operand f fs) = first_of (equality_of f) (first_equality fs)

-- the filter, where it is an equality, or the first operand of an outermost conjunction that is one
abbrev pub probe_of : Filter → Option Probe
probe_of (constant b) = None
probe_of (compared p op v) = probe_by p op v
probe_of (listed p vs) = None
probe_of (having p v) = None
probe_of (present p) = None
probe_of (negated f) = None
probe_of (every fs) = first_equality fs
probe_of (some fs) = None

-- ---- candidates

-- whether the equality, if there is one, is true of a document
abbrev pub is_found : Option Probe → Option Tree → Bool
is_found None document = true
is_found (Some probe) None = false
is_found (Some probe) (Some t) = compares Equal probe.1 (tree_at probe.0 t)

-- whether a query is one of this collection whose equality, if it has one, is true of the document before or after
abbrev pub is_candidate : Query → List ℕ → Option Tree → Option Tree → Bool
is_candidate q collection before after = bytes_eq collection q.collection && (is_found (probe_of q.filter) before || is_found (probe_of q.filter) after)

-- ---- the same of keys

-- whether the key is that of a query
abbrev pub is_query : KeyShape → Bool
is_query (Record collection id) = false
is_query (QueryKey kind q) = true

-- whether its query is a candidate of a commit
abbrev pub is_candidate_key : KeyShape → CommitRow → Bool
is_candidate_key (Record collection id) row = false
is_candidate_key (QueryKey kind q) row = is_candidate q row.collection row.before row.after

-- whether a commit passes its query by: neither document satisfies it
abbrev pub passes_key : KeyShape → CommitRow → Bool
passes_key (Record collection id) row = true
passes_key (QueryKey kind q) row = passes_by q row.collection row.before row.after
