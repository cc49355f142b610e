use Rattle.std.proofs.Common.{◌≤◌, [], length, take}
use Rattle.std.specs.List.{flat_map}
use Rattle.std.specs.Prelude.{Ok}
use Rattle.http_message.specs.Fields.{values}
use Rattle.http_front.specs.Added.{Adds}
use Rattle.http_front.specs.Tags.{members_of, tags_of}
use Rattle.http_front.proofs.tags.commits_in.Given as goal

abbrev pub invariant-loop-index : goal.invariant-loop-index
invariant-loop-index l = record {
  few : length l.commits ≤ 16;
  added : Adds l.comparison (tags_of (flat_map members_of (values l.name (take l.index l.request.fields)))) [] l.commits (Ok tt);
}
