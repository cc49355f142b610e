-- part by part
use Rattle.store_base.proofs.TextLemmas.{one_base}
use Rattle.store_base.proofs.laws.bytes_begin_with_one_base.Goals as goal

pub returns : goal.returns
returns c = one_base
