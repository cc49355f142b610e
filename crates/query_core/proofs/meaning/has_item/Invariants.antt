use Rattle.std.proofs.Common.{◌≡◌, drop}
use Rattle.q_doc.specs.Tree.{items_of}
use Rattle.query_core.specs.Meaning.{has_item}
use Rattle.query_core.proofs.meaning.has_item.Given as goal

abbrev pub invariant-loop-item : goal.invariant-loop-item
invariant-loop-item l = has_item l.value (items_of l.items) ≡ has_item l.value (items_of (drop l.item-index l.items))
