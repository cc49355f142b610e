-- What is read, field by field, is what the grammar says.
use Rattle.query_lang.proofs.QueryTextReading.{gives_found, gives_only}
use Rattle.query_lang.proofs.query.read_query.Goals as goal

pub returns-clause-found : goal.returns-clause-found
returns-clause-found c = gives_found _ _ _ c.read_fields.ensures.gives

pub returns-clause-only : goal.returns-clause-only
returns-clause-only c = λ q k text. gives_only _ _ _ c.read_fields.ensures.gives q k text
