use Rattle.std.proofs.Common.{◌∙◌, ap, sym, get_or, arith}
use Rattle.http_front.proofs.PieceLemmas.{failed_inside}
use Rattle.http_front.proofs.pieces.PartsBody.give.Goals as goal

pub returns-in-Err : goal.returns-in-Err
returns-in-Err g c =
    failed_inside _ _ _ c.args.self.now.parts.items c.loop-index.index c.as_slice.result.now
    (omega (arith, c.loop-index-test.true, c.len-index-end.ensures)) (c.as_slice.ensures ∙ c.index.ensures ∙ ap (λ d. get_or c.args.self.now.parts.items c.loop-index.index d) (sym c.as_slice.ensures)) c.loop-index.invariant c.in-Err.ensures
