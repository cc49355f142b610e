use Rattle.std.proofs.Common.{ap, sym, ◌∙◌}
use Rattle.match_index.specs.Candidates.{is_query}
use Rattle.active_queries.proofs.EntryLemmas.{on-ok}
use Rattle.active_queries.proofs.IndexedLemmas.{held-more}
use Rattle.active_queries.proofs.queries.insert.Goals as goal

pub returns-in-Query-clause-ok : goal.returns-in-Query-clause-ok
returns-in-Query-clause-ok c =
    on-ok c.insert.result (λ is. held-more c.args.key.now c.args.index.now c.insert.new.self (ap is_query (sym c.shape.ensures ∙ c.in-Query.is)) is) c.insert.ensures.ok
