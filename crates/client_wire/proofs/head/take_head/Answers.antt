use Rattle.std.proofs.Common.{◌+◌, ◌≤◌, length, rules, arith}
use Rattle.std.proofs.lemmas.List.{length-drop}
use Rattle.http_message.specs.Limits.{head_limit}
use Rattle.client_wire.proofs.HeadLemmas.{searched_more, searched_all}
use Rattle.client_wire.proofs.head.take_head.Goals as goal

-- a piece more, behind bytes that show nothing yet
pub loop-found-preserved : goal.loop-found-preserved
loop-found-preserved g c =
    let came = c.in-Ok-take_piece.ensures.piece in
    let within : c.loop-found.count ≤ length c.loop-found.buffer = c.loop-found.invariant.searched.within in
    let fits : c.loop-found.count + c.in-Ok-take_piece.size ≤ head_limit =
    omega (arith, came.within, c.take_piece.auto.into, within, c.requires, c.loop-found.invariant.size, length-drop c.loop-found.count c.loop-found.buffer) in
    record {
      size = search rules;
      searched = searched_more _ _ _ c.loop-found.buffer c.take_piece.new.into _ c.loop-found.count c.in-Ok-take_piece.size
          c.loop-found.scan c.in-Err.further c.has_begun-begun.result c.loop-found.invariant.searched c.in-Err.ensures
          c.has_begun-begun.ensures came fits;
    }

-- no more bytes
pub returns-in-Err-take_piece-clause-takes : goal.returns-in-Err-take_piece-clause-takes
returns-in-Err-take_piece-clause-takes g c =
    searched_all _ _ _ c.loop-found.buffer _ c.loop-found.count c.loop-found.scan c.in-Err.further c.in-Err-take_piece.cut
    c.loop-found.invariant.searched c.in-Err.ensures c.in-Err-take_piece.ensures.cut.0 c.in-Err-take_piece.ensures.cut.1
