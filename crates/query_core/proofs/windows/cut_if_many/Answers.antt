use Rattle.query_core.proofs.CandidateLemmas.{firsts_cut}
use Rattle.query_core.proofs.windows.cut_if_many.Goals as goal

-- the first ones stay the same
pub returns : goal.returns
returns c =
    λ seen h. let firsts = c.args.firsts.now in
    firsts_cut c.args.order.now c.args.count seen firsts.found.items c.cut.new.found.items firsts.last c.in_ok-firsts.field-0 h c.in_ok-firsts.ensures.kept c.in_ok-firsts.ensures.last
