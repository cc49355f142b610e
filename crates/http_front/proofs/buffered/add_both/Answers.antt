use Rattle.std.proofs.Common.{◌++◌, take, refl}
use Rattle.std.proofs.lemmas.Result.{err_from_is_err_and}
use Rattle.http_front.proofs.BufferLemmas.{begins, goes_on, fails, adds_last}
use Rattle.http_front.proofs.buffered.add_both.Goals as goal

pub returns-in_err-added : goal.returns-in_err-added
returns-in_err-added g c =
    let p = err_from_is_err_and c.from_residual.result c.from_residual.ensures.1 in
    let first = c.args.first.now in
    let second = c.args.second.now in
    rw p.1 (fails _ _ _ _ _ first second (begins _ (take c.args.at c.args.buffer.now) (first ++ second) _ refl) c.in_err-added.ensures)

pub returns : goal.returns
returns g c =
    let first = c.args.first.now in
    let second = c.args.second.now in
    adds_last _ _ _ (take c.args.at c.args.buffer.now) (first ++ second) _ second _ _
    (goes_on _ _ _ _ _ first second _ (begins _ (take c.args.at c.args.buffer.now) (first ++ second) _ refl) c.in_ok-added.ensures.1)
    c.add-2.ensures
