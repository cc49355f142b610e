-- What is read is compared with the text.
use Rattle.query_lang.proofs.KeyReading.{read_has_text}
use Rattle.query_lang.proofs.laws.texts_that_are_read_are_those_of_keys.Goals as goal

pub returns : goal.returns
returns c = read_has_text
