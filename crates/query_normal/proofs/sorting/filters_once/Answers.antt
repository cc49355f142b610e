use Rattle.std.proofs.Common.{ap, ◌∙◌}
use Rattle.std.proofs.lemmas.List.Filters.{dedup_is}
use Rattle.query_core.specs.Same.{same_filter}
use Rattle.query_core.specs.SameLaws.{same_filter_equiv}
use Rattle.query_normal.specs.Normal.{distinct}
use Rattle.query_normal.proofs.OnceLemmas.{dedup_distinct}
use Rattle.query_normal.proofs.sorting.filters_once.Goals as goal

-- `dedup` leaves each of the sorted filters once
pub returns : goal.returns
returns c =
    dedup_is same_filter _ _ c.dedup.ensures.filtered
    ∙ dedup_distinct same_filter same_filter_equiv.symm _
    ∙ ap (distinct same_filter) c.in_ok-sorted.ensures
