use Rattle.std.proofs.Common.{◌≡◌, ◌++◌, take, drop}
use Rattle.query_core.specs.Window.{placed}
use Rattle.query_normal.specs.Normal.{text_cmp}
use Rattle.query_normal.proofs.sorting.place_of.Given as goal

abbrev pub invariant-loop-index : goal.invariant-loop-index
invariant-loop-index l = placed text_cmp l.sorted l.filter ≡ take l.index l.sorted ++ placed text_cmp (drop l.index l.sorted) l.filter
