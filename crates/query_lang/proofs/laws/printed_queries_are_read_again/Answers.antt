-- The printed text is in the grammar.
use Rattle.query_lang.proofs.PrintedReading.{printed_query}
use Rattle.query_lang.proofs.laws.printed_queries_are_read_again.Goals as goal

pub returns : goal.returns
returns c = printed_query
