use Rattle.std.proofs.Common.{◌≡◌, length, map}
use Rattle.httparse.specs.Grammar.{trim_ows}
use Rattle.http_message.specs.Fields.{pieces_between}
use Rattle.client_wire.specs.Values.{with_all}
use Rattle.client_wire.proofs.lifetime.with_list.Given as goal

abbrev pub invariant-loop-piece : goal.invariant-loop-piece
invariant-loop-piece l =
    with_all l.all (map trim_ows (pieces_between 44 l.rest)) ≡ with_all l.fn.found (map trim_ows (pieces_between 44 l.fn.list))

abbrev pub decreases-loop-piece : goal.decreases-loop-piece
decreases-loop-piece l = length l.rest
