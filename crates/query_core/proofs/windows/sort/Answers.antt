use Rattle.std.proofs.Common.{rules}
use Rattle.query_core.specs.Candidates.{candidates_cmp}
use Rattle.query_core.proofs.Rising.{sort_by_is_in_order}
use Rattle.query_core.proofs.RowOrder.{candidates_cmp_total}
use Rattle.query_core.proofs.windows.sort.Goals as goal

-- a stable sort gives the candidates inserted one by one
pub returns : goal.returns
returns c =
    let order = c.args.order.now in
    sort_by_is_in_order (candidates_cmp order 0) (candidates_cmp_total order 0) c.args.found.now.items c.sort_by.new.self.items c.in_ok-sort_by.ensures.sorted c.in_ok-sort_by.ensures.stable (λ a r q k. search rules)
