-- Internal. Filters with their printed texts.
use Rattle.std.specs.Prelude.{◌≡◌, List, All}
use Rattle.query_core.specs.Filters.{Filter}
use Rattle.query_core.specs.Print.{filter_text}
use Rattle.query_normal.specs.declared.sorting.Printed.{Printed}

-- the filter of a pair
abbrev pub filter_of_printed : Printed → Filter
filter_of_printed p = p.filter

-- each text is that of its filter
abbrev pub ArePrinted : List Printed → Type 0
ArePrinted = All (λ p. p.text ≡ filter_text p.filter)
