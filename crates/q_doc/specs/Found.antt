-- Believed. The JSON value of a text, as a tree where all its numbers are whole.
use Rattle.std.specs.Prelude.{ℕ, List, Option, Some, None, option_map, option_and_then, if◌then◌else◌}
use Rattle.std.specs.Str.{is_utf8}
use Rattle.serde_json.specs.Data as json
use Rattle.serde_json.specs.Read.{read}
use Rattle.serde_json.specs.Find.{as_i64}
use Rattle.q_doc.specs.Tree.{Tree, null, boolean, number, text, array, object, Items, no_items, item, Members, no_members, member}

-- the JSON value (RFC 8259) of the bytes; none where they are not JSON in UTF-8
abbrev pub found : List ℕ → Option json.Data
found bytes = if is_utf8 bytes then read bytes else None

-- the tree of a JSON value, where `as_i64` gives a value for every number
abbrev mutual
  -- of a value
  pub whole : json.Data → Option Tree
  whole json.null = Some null
  whole (json.boolean b) = Some (boolean b)
  whole (json.number n) = option_map number (as_i64 n)
  whole (json.string s) = Some (text s)
  whole (json.array ds) = option_map array (whole_items ds)
  whole (json.object ms) = option_map object (whole_members ms)

  -- of each element
  pub whole_items : json.Items → Option Items
  whole_items json.no_items = Some no_items
  whole_items (json.item d ds) =
      option_and_then (λ t. option_map (item t) (whole_items ds)) (whole d)

  -- of each member
  pub whole_members : json.Members → Option Members
  whole_members json.no_members = Some no_members
  whole_members (json.member k d ms) =
      option_and_then (λ t. option_map (member k t) (whole_members ms)) (whole d)
