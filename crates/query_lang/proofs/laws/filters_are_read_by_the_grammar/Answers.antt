-- A filter of the grammar is read.
use Rattle.query_lang.proofs.FilterTextReading.{text_read}
use Rattle.query_lang.proofs.laws.filters_are_read_by_the_grammar.Goals as goal

pub returns : goal.returns
returns c = text_read
