-- The parts of a printed key are found again.
use Rattle.query_lang.proofs.KeyReading.{key_read}
use Rattle.query_lang.proofs.laws.keys_are_read_again.Goals as goal

pub returns : goal.returns
returns c = key_read
