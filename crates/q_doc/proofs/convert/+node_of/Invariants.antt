use Rattle.std.proofs.Common.{◌≡◌, length, option_map}
use Rattle.std.specs.Vec.Iter.{into_iter_items, into_iter_len}
use Rattle.serde_json.specs.View.{items_view, members_view}
use Rattle.q_doc.specs.Tree.{items_of, members_of}
use Rattle.q_doc.specs.Document.{ItemsHaveTexts, MembersHaveTexts}
use Rattle.q_doc.specs.Found.{whole_items, whole_members}
use Rattle.q_doc.proofs.ConvertLemmas.{items_before, members_before}
use Rattle.q_doc.proofs.convert.+node_of.Given as goal

abbrev pub invariant-member_nodes_of-loop-key : goal.invariant-member_nodes_of-loop-key
invariant-member_nodes_of-loop-key l = record {
  whole : whole_members (members_view l.fn.members.entries) ≡ option_map (members_before l.nodes.items) (whole_members (members_view l.key-iterator));
  texts : MembersHaveTexts (members_of l.nodes.items);
}

abbrev pub invariant-nodes_of-loop-item : goal.invariant-nodes_of-loop-item
invariant-nodes_of-loop-item l = record {
  whole : whole_items (items_view l.fn.items.items) ≡ option_map (items_before l.nodes.items) (whole_items (items_view (into_iter_items l.item-iterator)));
  texts : ItemsHaveTexts (items_of l.nodes.items);
  length : into_iter_len l.item-iterator ≡ length (into_iter_items l.item-iterator);
}
