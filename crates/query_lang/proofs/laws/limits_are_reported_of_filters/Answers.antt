-- What is read well is in the grammar.
use Rattle.query_lang.proofs.FilterTextReading.{read_text}
use Rattle.query_lang.proofs.laws.limits_are_reported_of_filters.Goals as goal

pub returns : goal.returns
returns c = read_text
