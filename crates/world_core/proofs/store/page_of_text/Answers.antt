-- the text is that of one page
use Rattle.std.proofs.Common.{refl}
use Rattle.flat_snapshot.proofs.ByteLemmas.{all_small}
use Rattle.world_core.proofs.StoreLemmas.{page_again}
use Rattle.world_core.proofs.store.page_of_text.Goals as goal

pub returns-in-Ok : goal.returns-in-Ok
returns-in-Ok c = λ p text is.
    page_again c.pages_have_one_encoding.ensures c.args.text.now p c.in-Ok.page _ (all_small c.args.text.now c.type_inv.text) text is c.in-Ok.ensures.told refl
