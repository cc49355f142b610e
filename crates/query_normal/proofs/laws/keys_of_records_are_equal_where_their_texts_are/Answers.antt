use Rattle.std.proofs.Common.{ap}
use Rattle.query_normal.specs.Keys.{key_text}
use Rattle.query_normal.proofs.KeyTexts.{key_text-injective}
use Rattle.query_normal.proofs.laws.keys_of_records_are_equal_where_their_texts_are.Goals as goal

-- a text is parted at its second slash in one way
pub returns : goal.returns
returns c = λ a b p q r. (ap key_text, key_text-injective a b p q r)
