-- the change has the document of the product
use Rattle.world_core.proofs.WorldLemmas.{first_is}
use Rattle.world_core.proofs.world.first_change.Goals as goal

pub returns : goal.returns
returns c = first_is c.args.index c.in_ok-collection.field-0 c.in_ok-product_id.field-0 c.in_ok-doc.doc c.in_ok-doc.ensures c.in_ok-collection.ensures c.in_ok-product_id.ensures
