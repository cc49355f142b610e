use Rattle.std.proofs.Common.{List, map, take, drop, ap, ◌∙◌}
use Rattle.query_core.specs.declared.windows.Candidate.{Candidate}
use Rattle.query_core.specs.Window.{matches}
use Rattle.query_core.specs.Candidates.{row_of}
use Rattle.query_core.proofs.CandidateLemmas.{window-firsts}
use Rattle.query_core.proofs.windows.window.Goals as goal

-- a window is made of the first rows alone
pub returns : goal.returns
returns c =
    let query = c.args.query.now in let found = c.in_ok-found.found.items in
    c.in_ok-rows.ensures
    ∙ ap (λ (l : List Candidate). take query.take (drop query.skip (map row_of l))) c.deref.ensures.value
    ∙ window-firsts query.skip query.take (map row_of found) (matches query c.args.docs.now) c.in_ok-found.ensures
