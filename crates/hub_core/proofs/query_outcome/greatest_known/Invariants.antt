-- the greatest of the tags so far
use Rattle.std.proofs.Common.{◌≡◌, max, take, filter}
use Rattle.std.specs.List.{reduce}
use Rattle.query_normal.specs.declared.key.KeyShape.TheVariants.{Query}
use Rattle.hub_model.specs.Known.{has_result_of}
use Rattle.hub_core.proofs.query_outcome.greatest_known.Given as goal

abbrev pub invariant-loop-tag : goal.invariant-loop-tag
invariant-loop-tag l = l.known ≡ reduce max (filter (has_result_of (Query l.kind l.query) l.book.journal l.book.horizon l.commit) (take l.tag-index l.tags))
