use Rattle.std.proofs.Common.{ap, ◌∙◌, rules}
use Rattle.std.proofs.lemmas.List.Filters.{dedup_is}
use Rattle.q_doc.specs.Order.{tree_cmp}
use Rattle.q_doc.specs.OrderLaws.{tree_cmp_total, tree_eq_equiv}
use Rattle.query_core.specs.Meaning.{same_value}
use Rattle.query_core.proofs.Rising.{sort_by_is_in_order}
use Rattle.query_normal.specs.Normal.{distinct}
use Rattle.query_normal.proofs.OnceLemmas.{dedup_distinct}
use Rattle.query_normal.proofs.sorting.values_once.Goals as goal

-- a stable sort puts the values in order, and `dedup` leaves each of them once
pub returns : goal.returns
returns c =
    let sorted = c.sort_by.new.self.items in
    let is = sort_by_is_in_order tree_cmp tree_cmp_total c.args.values.items sorted c.in_ok-sort_by.ensures.sorted c.in_ok-sort_by.ensures.stable (λ a r q k. search rules) in
    dedup_is same_value _ _ c.dedup.ensures.filtered
    ∙ dedup_distinct same_value tree_eq_equiv.symm _
    ∙ ap (distinct same_value) is
