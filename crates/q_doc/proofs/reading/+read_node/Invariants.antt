use Rattle.std.proofs.Common.{◌≡◌, ℕ, List, ◌+◌, ◌*◌, ◌≤◌, length}
use Rattle.json.specs.Json as grammar
use Rattle.json.specs.Json.{parse_map, items, members, value}
use Rattle.q_doc.specs.Tree.{items_of, members_of, items_depth, members_depth}
use Rattle.q_doc.specs.Document.{ItemsHaveTexts, MembersHaveTexts}
use Rattle.q_doc.specs.Reading.{BEYOND}
use Rattle.q_doc.proofs.ReadingLemmas.{items_then, HaveTrees, members_then, Gathered}
use Rattle.q_doc.proofs.reading.+read_node.Given as goal

abbrev pub decreases-read_node : goal.decreases-read_node
decreases-read_node l = 2 * l.depth

abbrev pub decreases-read_items : goal.decreases-read_items
decreases-read_items l = 2 * l.depth + 1

abbrev pub decreases-read_members : goal.decreases-read_members
decreases-read_members l = 2 * l.depth + 1

abbrev pub invariant-read_items-items : goal.invariant-read_items-items
invariant-read_items-items l =
    (n : ℕ) × (js : List grammar.Json) × (length l.reader ≤ n)
    × (items (value (l.depth + BEYOND)) (length l.initial.reader) l.initial.reader ≡ parse_map (items_then js) (items (value (l.depth + BEYOND)) n l.reader))
    × HaveTrees js l.found.items
    × ItemsHaveTexts (items_of l.found.items)
    × (items_depth (items_of l.found.items) ≤ l.depth)
    × (length l.reader ≤ length l.initial.reader)

abbrev pub decreases-read_items-items : goal.decreases-read_items-items
decreases-read_items-items l = length l.reader

abbrev pub invariant-read_members-members : goal.invariant-read_members-members
invariant-read_members-members l =
    (n : ℕ) × (js : List (List ℕ × grammar.Json)) × (length l.reader ≤ n)
    × (members (value (l.depth + BEYOND)) (length l.initial.reader) l.initial.reader ≡ parse_map (members_then js) (members (value (l.depth + BEYOND)) n l.reader))
    × Gathered js l.found.items
    × MembersHaveTexts (members_of l.found.items)
    × (members_depth (members_of l.found.items) ≤ l.depth)
    × (length l.reader ≤ length l.initial.reader)

abbrev pub decreases-read_members-members : goal.decreases-read_members-members
decreases-read_members-members l = length l.reader
