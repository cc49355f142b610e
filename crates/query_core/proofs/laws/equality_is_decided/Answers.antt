use Rattle.query_core.specs.SameLaws.{same_filter-Decides, same_query-Decides}
use Rattle.query_core.proofs.laws.equality_is_decided.Goals as goal

pub returns-clause-filters : goal.returns-clause-filters
returns-clause-filters c = same_filter-Decides

pub returns-clause-queries : goal.returns-clause-queries
returns-clause-queries c = same_query-Decides
