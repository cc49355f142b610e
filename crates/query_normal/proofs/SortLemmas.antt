-- Filters sorted with their texts are filters in the order of their texts.
use Rattle.std.proofs.Common.{◌≡◌, List, Ordering, map, ap, ap₂, ◌∙◌}
use Rattle.std.specs.Cmp.{IsTotalOrder}
use Rattle.std.specs.Cmp.Lexicographic.{slice_cmp}
use Rattle.std.specs.Ordering.{nat_cmp}
use Rattle.std.proofs.lemmas.Cmp.{on_total, nat_list_cmp_total}
use Rattle.std.proofs.lemmas.List.Elements.{recursion_from_All}
use Rattle.query_core.specs.Filters.{Filter}
use Rattle.query_core.specs.Print.{filter_text}
use Rattle.query_core.specs.Window.{in_order}
use Rattle.query_core.proofs.Rising.{map-in_order}
use Rattle.query_normal.specs.declared.sorting.Printed.{Printed}
use Rattle.query_normal.specs.Normal.{text_cmp}
use Rattle.query_normal.specs.Printed.{ArePrinted, filter_of_printed}

-- the order of the texts
abbrev pub printed_cmp : Printed → Printed → Ordering
printed_cmp a b = slice_cmp nat_cmp a.text b.text

pub printed_cmp_total : IsTotalOrder printed_cmp
printed_cmp_total = on_total (λ (p : Printed). p.text) nat_list_cmp_total

pub printed_in_order : (printed : List Printed) (fs : List Filter) → ArePrinted printed → map filter_of_printed printed ≡ fs
    → map filter_of_printed (in_order printed_cmp printed) ≡ in_order text_cmp fs
printed_in_order printed fs are same =
    map-in_order filter_of_printed printed_cmp text_cmp (λ p. p.text ≡ filter_text p.filter) (λ a b p q. ap₂ (slice_cmp nat_cmp) p q)
    printed (recursion_from_All (λ (p : Printed). p.text ≡ filter_text p.filter) printed are)
    ∙ ap (in_order text_cmp) same
