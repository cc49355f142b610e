use Rattle.std.proofs.Common.{ap, ◌∙◌, ◌-◌, take, drop, length}
use Rattle.std.proofs.lemmas.List.{take_rest}
use Rattle.query_core.specs.Candidates.{row_of}
use Rattle.query_core.proofs.CandidateLemmas.{map-slice}
use Rattle.query_core.proofs.windows.cloned_rows.Goals as goal

-- all rows of the slice were cloned, and the slice is what is left after the first ones
pub returns : goal.returns
returns c =
    let found = c.args.found.now in
    let start = c.min-start.result in
    let rest = take (length found - start) (drop start found) in
    c.loop-candidate.invariant
    ∙ map-slice row_of found rest (take c.min-end.result rest) c.args.skip c.args.count c.loop-candidate.candidate-index
    (take_rest found start ∙ ap (λ i. drop i found) c.min-start.ensures) (ap (λ i. take i rest) c.min-end.ensures) c.loop-candidate-test.false
