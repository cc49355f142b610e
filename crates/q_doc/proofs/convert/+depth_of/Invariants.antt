use Rattle.std.proofs.Common.{◌≡◌, max, drop}
use Rattle.serde_json.specs.Data.{items_depth, members_depth}
use Rattle.serde_json.specs.View.{items_view, members_view}
use Rattle.q_doc.proofs.convert.+depth_of.Given as goal

abbrev pub invariant-depth_of_items-loop-item : goal.invariant-depth_of_items-loop-item
invariant-depth_of_items-loop-item l =
    max l.deepest (items_depth (items_view (drop l.item-index l.item-items))) ≡ items_depth (items_view l.item-items)

abbrev pub invariant-depth_of_members-loop-value : goal.invariant-depth_of_members-loop-value
invariant-depth_of_members-loop-value l =
    max l.deepest (members_depth (members_view l.value-iterator)) ≡ members_depth (members_view l.members.entries)
