-- Both readings are what is read.
use Rattle.query_lang.proofs.QueryTextReading.{one_filter}
use Rattle.query_lang.proofs.laws.a_filter_has_one_reading.Goals as goal

pub returns : goal.returns
returns c = one_filter
