use Rattle.std.proofs.Common.{map, ap, ◌∙◌, rules}
use Rattle.query_core.proofs.Rising.{sort_by_is_in_order}
use Rattle.query_normal.specs.Printed.{filter_of_printed}
use Rattle.query_normal.proofs.SortLemmas.{printed_cmp, printed_cmp_total, printed_in_order}
use Rattle.query_normal.proofs.sorting.many_in_order.Goals as goal

-- a stable sort by the texts puts the filters in the order of their texts
pub returns : goal.returns
returns c =
    let all = c.in_ok-printed.printed.items in
    let sorted = c.sort_by.new.self.items in
    let is = sort_by_is_in_order printed_cmp printed_cmp_total all sorted c.in_ok-sort_by.ensures.sorted c.in_ok-sort_by.ensures.stable (λ a r q k. search rules) in
    c.in_ok-without_texts.ensures
    ∙ ap (map filter_of_printed) is
    ∙ printed_in_order all c.args.filters.items c.in_ok-printed.ensures.texts c.in_ok-printed.ensures.filters
