use Rattle.std.proofs.Common.{not, rules}
use Rattle.std.proofs.lemmas.List.Sorted.{IsPartitionPoint-from_clause}
use Rattle.match_sets.proofs.Positions.{less, parted_behind, rises_from_order}
use Rattle.match_sets.proofs.searches.position_for.Goals as goal

-- the rows that the new one is not before come first
pub returns-clause-point : goal.returns-clause-point
returns-clause-point c = λ up.
    let order = c.args.order.now in
    let new = c.args.new.now in
    IsPartitionPoint-from_clause (λ x. not (less order new x)) _ _ c.partition_point.ensures.partitioned (parted_behind order new c.args.rows.now (rises_from_order order c.args.rows.now up)) (λ a r q k. search rules)
