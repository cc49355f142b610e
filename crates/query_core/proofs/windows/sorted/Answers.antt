use Rattle.std.proofs.Common.{List, take, ap, ◌∙◌}
use Rattle.query_core.specs.Window.{Row, matches}
use Rattle.query_core.proofs.CandidateLemmas.{firsts_sorted}
use Rattle.query_core.proofs.windows.sorted.Goals as goal

-- the first candidates in order are the first rows
pub returns : goal.returns
returns c =
    let query = c.args.query.now in let count = c.args.count in
    firsts_sorted query c.deref.result.now count c.as_slice.result.now c.in_ok-found.found.items c.sort.new.found.items c.in_ok-found.ensures c.as_slice.ensures c.in_ok-sort.ensures
    ∙ ap (λ (docs : List Row). take count (matches query docs)) (c.deref.ensures.value ∙ c.docs.view_is)
