use Rattle.std.proofs.Common.{◌≡◌, false, take, drop}
use Rattle.http_front.specs.Tags.{pieces_from}
use Rattle.http_front.proofs.TagLemmas.{prefixed}
use Rattle.http_front.proofs.tags.cut_member.Given as goal

abbrev pub invariant-loop-index : goal.invariant-loop-index
invariant-loop-index l =
    pieces_from false l.list ≡ prefixed (take l.index l.list) (pieces_from l.quoted (drop l.index l.list))
