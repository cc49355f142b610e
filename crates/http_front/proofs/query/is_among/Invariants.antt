use Rattle.std.proofs.Common.{◌≡◌, length}
use Rattle.http_front.specs.Query.{is_among, pieces_of}
use Rattle.http_front.proofs.query.is_among.Given as goal

abbrev pub invariant-loop-name : goal.invariant-loop-name
invariant-loop-name l = is_among l.name (pieces_of l.rest) ≡ is_among l.name (pieces_of l.query)

abbrev pub decreases-loop-name : goal.decreases-loop-name
decreases-loop-name l = length l.rest
