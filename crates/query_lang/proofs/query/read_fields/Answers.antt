-- The texts of fields are UTF-8, so what is read of them is a query.
use Rattle.std.proofs.Common.{sym}
use Rattle.query_lang.proofs.ReadQueries.{fields_are_query}
use Rattle.query_lang.proofs.query.read_fields.Goals as goal

pub returns-clause-is_query : goal.returns-clause-is_query
returns-clause-is_query c =
    fields_are_query _ _ _ _ _ _ _ _ _ c.text_of.utf8 c.text_of-2.utf8 c.in_ok-filter.ensures.gives c.in_ok-order.ensures.gives (sym c.in_ok-skip.ensures) (sym c.in_ok-take.ensures)
