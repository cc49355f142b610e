use Rattle.hub_model.proofs.Purged.{purged-once}
use Rattle.hub_model.proofs.laws.a_copy_purges_its_key_once.Goals as goal

pub returns : goal.returns
returns c = purged-once
