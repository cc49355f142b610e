-- Both readings are what is read.
use Rattle.query_lang.proofs.QueryTextReading.{one_order}
use Rattle.query_lang.proofs.laws.an_order_has_one_reading.Goals as goal

pub returns : goal.returns
returns c = one_order
