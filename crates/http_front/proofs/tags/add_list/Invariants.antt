use Rattle.std.proofs.Common.{◌≤◌, List, ℕ, length}
use Rattle.std.specs.Prelude.{Result}
use Rattle.http_front.specs.declared.tags.TagRefusal.{TagRefusal}
use Rattle.http_front.specs.Added.{Adds}
use Rattle.http_front.specs.Tags.{members_of, tags_of}
use Rattle.http_front.proofs.tags.add_list.Given as goal

abbrev pub invariant-loop-others : goal.invariant-loop-others
invariant-loop-others l = record {
  few : length l.commits ≤ 16;
  rest : (new : List ℕ) (result : Result (Unit {0}) TagRefusal)
      → Adds l.comparison (tags_of (members_of l.rest)) l.commits new result
      → Adds l.comparison (tags_of (members_of l.list)) l.initial.commits new result;
}

abbrev pub decreases-loop-others : goal.decreases-loop-others
decreases-loop-others l = length l.rest
