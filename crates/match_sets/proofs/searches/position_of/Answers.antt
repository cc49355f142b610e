use Rattle.std.proofs.Common.{rules}
use Rattle.std.proofs.lemmas.List.Sorted.{IsPartitionPoint-from_clause}
use Rattle.query_core.specs.Window.{Row}
use Rattle.match_sets.proofs.Positions.{less, parted_before, rises_from_order}
use Rattle.match_sets.proofs.searches.position_of.Goals as goal

-- the rows before the document come first
pub returns-clause-point : goal.returns-clause-point
returns-clause-point c = λ up.
    let order = c.args.order.now in
    let probe : Row = (c.args.id.now, 0, c.args.document.now) in
    IsPartitionPoint-from_clause (λ x. less order x probe) _ _ c.partition_point.ensures.partitioned (parted_before order probe c.args.rows.now (rises_from_order order c.args.rows.now up)) (λ a r q k. search rules)
