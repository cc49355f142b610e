-- What is read has this text, and each key is read from its own.
use Rattle.query_lang.proofs.KeyReading.{answer_has_text, answer_only}
use Rattle.query_lang.proofs.key_reader.read_key.Goals as goal

pub returns-clause-found : goal.returns-clause-found
returns-clause-found c = answer_has_text _ _ c.read_text.ensures

pub returns-clause-only : goal.returns-clause-only
returns-clause-only c = λ key is same. answer_only _ _ c.read_text.ensures key is same
