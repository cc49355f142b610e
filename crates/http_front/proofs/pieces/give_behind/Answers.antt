use Rattle.http_front.proofs.PieceLemmas.{gave_behind}
use Rattle.http_front.proofs.pieces.give_behind.Goals as goal

pub returns-in-Ok : goal.returns-in-Ok
returns-in-Ok g c =
    rw c.if-to_head.false (gave_behind _ _ _ c.args.head.now (g.B.Body.text c.args.body.now) c.give.result c.in-Ok.ensures c.give.ensures)
