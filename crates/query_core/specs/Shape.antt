-- Internal. The value of a filter, whose operands are seen as their values already.
use Rattle.query_core.specs.Filters.{Filter, constant, compared, listed, having, present, negated, every, some, operands_of}
use Rattle.query_core.specs.declared.filter.Form.{Form}
use Rattle.query_core.specs.declared.filter.Form.TheVariants.{Constant, Compare, In, Has, Exists, Not, And, Or}
use Rattle.std.specs.Box.{box_value}

-- one level of a filter
abbrev pub filter_of : Form → Filter
filter_of (Constant b) = constant b
filter_of (Compare p op v) = compared p op v
filter_of (In p vs) = listed p vs.items
filter_of (Has p v) = having p v
filter_of (Exists p) = present p
filter_of (Not f) = negated (box_value f)
filter_of (And fs) = every (operands_of fs.items)
filter_of (Or fs) = some (operands_of fs.items)
