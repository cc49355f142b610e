-- The piece is longer than the buffer, so that it is given behind what waits, and nothing waits then.
use Rattle.std.proofs.Common.{◌++◌, [], take, sym, append-nil, arith}
use Rattle.std.proofs.lemmas.Result.{err_from_is_err_and}
use Rattle.q_outside.proofs.Chain.{gave_both, part_behind}
use Rattle.http_front.proofs.BufferLemmas.{all_waits}
use Rattle.http_front.proofs.buffered.add.Goals as goal

pub returns-in_err-give_all-2 : goal.returns-in_err-give_all-2
returns-in_err-give_all-2 g c =
    let p = err_from_is_err_and c.from_residual-in_err-give_all-2.result c.from_residual-in_err-give_all-2.ensures.1 in
    rw p.1 (part_behind _ _ _ (take c.args.at c.args.buffer.now) c.args.piece.now c.in_ok-give_all.ensures c.in_err-give_all-2.ensures)

pub returns : goal.returns
returns g c = (
  omega arith,
  all_waits _ _ (take c.args.at c.args.buffer.now ++ c.args.piece.now) [] _
      (gave_both _ _ _ (take c.args.at c.args.buffer.now) c.args.piece.now c.in_ok-give_all.ensures c.in_ok-give_all-2.ensures)
      (sym (append-nil (take c.args.at c.args.buffer.now ++ c.args.piece.now))),
)
