-- Both keys are what is read of their text.
use Rattle.std.proofs.Common.{ap}
use Rattle.query_normal.specs.Keys.{key_text}
use Rattle.query_lang.proofs.KeyReading.{texts_tell}
use Rattle.query_lang.proofs.laws.keys_are_equal_where_their_texts_are.Goals as goal

pub returns : goal.returns
returns c = λ a b p q. (ap key_text, texts_tell a b p q)
