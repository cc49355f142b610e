-- a byte string begins with one item at most
use Rattle.dialogue.proofs.ItemLemmas.{same_items}
use Rattle.dialogue.proofs.laws.bytes_determine_the_items.Goals as goal

pub returns : goal.returns
returns c = λ xs ys rest left p q count same.
    let shared = same_items c.one_item_is_first.ensures xs ys rest left p q count same in
    (shared.pieces_are, shared.items_are, shared.rest_is)
