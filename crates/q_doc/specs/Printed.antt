-- Believed. The printed text of a value: compact JSON (RFC 8259), as `serde_json` writes it.
use Rattle.std.specs.Prelude.{ℕ, List, Bool, ◌||◌, ◌==◌}
use Rattle.json.specs.Token.{Token}
use Rattle.json.specs.Tree.{json_tokens}
use Rattle.json.specs.Tree as grammar
use Rattle.serde_json.specs.Data as json
use Rattle.serde_json.specs.Find.{of_integer}
use Rattle.serde_json.specs.Written.{compact_text, outline, items_outline, members_outline}
use Rattle.q_doc.specs.Tree.{Tree, null, boolean, number, text, array, object, Items, no_items, item, Members, no_members, member}

-- the JSON value that a tree is
abbrev mutual
  -- a value
  pub data_of : Tree → json.Data
  data_of null = json.null
  data_of (boolean b) = json.boolean b
  data_of (number z) = json.number (of_integer z)
  data_of (text s) = json.string s
  data_of (array ts) = json.array (items_data ts)
  data_of (object ms) = json.object (members_data ms)

  -- each element
  pub items_data : Items → json.Items
  items_data no_items = json.no_items
  items_data (item t ts) = json.item (data_of t) (items_data ts)

  -- each member
  pub members_data : Members → json.Members
  members_data no_members = json.no_members
  members_data (member k t ms) = json.member k (data_of t) (members_data ms)

-- the printed text of a value
abbrev pub printed : Tree → List ℕ
printed t = compact_text (data_of t)

-- ---- for private clauses: the written tokens

-- of a value
abbrev pub tokens_of : Tree → List Token
tokens_of t = json_tokens (outline (data_of t))

-- of each element, and the closing bracket
abbrev pub items_tokens : Items → List Token
items_tokens ts = grammar.items_tokens (items_outline (items_data ts))

-- of each member, and the closing bracket
abbrev pub members_tokens : Members → List Token
members_tokens ms = grammar.members_tokens (members_outline (members_data ms))

-- ---- for private clauses: escapes

-- whether the escape of a byte is a backslash and one character
abbrev pub has_letter : ℕ → Bool
has_letter x = x == 34 || x == 92 || x == 8 || x == 12 || x == 10 || x == 13 || x == 9
