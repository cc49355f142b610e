-- what was taken is the beginning of what the source held of a line
use Rattle.std.proofs.Common.{◌<◌, ◌≤◌, ℕ, List, subst, arith}
use Rattle.std.proofs.lemmas.List.{length-take}
use Rattle.client_wire.specs.Heads.{IsInLine}
use Rattle.client_wire.proofs.HeadLemmas.{piece_taken}
use Rattle.client_wire.proofs.head.take_piece.Goals as goal

pub returns-in-Ok-clause-piece : goal.returns-in-Ok-clause-piece
returns-in-Ok-clause-piece g c =
    let came = c.in-Ok.ensures.took in
    let within : c.in-Ok.size ≤ c.piece_size.result =
    omega (arith, came.0, c.take.auto.into, c.min-most.ensures, length-take c.min-most.result c.args.into.now) in
    let some : 0 < c.in-Ok.size = omega arith in
    let line = subst (λ (xs : List ℕ). IsInLine xs c.piece_size.result) c.held.ensures c.piece_size.ensures.line in
    piece_taken _ _ _ c.args.begun _ _ c.take.new.into _ c.in-Ok.size c.piece_size.result came.1 came.0
    c.in-Ok.ensures.buffered some within line c.piece_size.ensures.one
