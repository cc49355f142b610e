use Rattle.std.proofs.Common.{◌++◌, take, codes, append_assoc, sym}
use Rattle.std.proofs.lemmas.Result.{err_from_is_err_and}
use Rattle.http_front.proofs.BufferLemmas.{begins, goes_on, fails, adds_last}
use Rattle.http_front.proofs.results.add_id.Goals as goal

pub returns-in_err-named : goal.returns-in_err-named
returns-in_err-named g c =
    let p = err_from_is_err_and c.from_residual.result c.from_residual.ensures.1 in
    let start = c.args.start.now in
    let id = c.args.id.now in
    rw p.1
    (fails _ _ _ _ _ (start ++ id) (codes "\"")
    (begins _ (take c.args.at c.args.buffer.now) (start ++ (id ++ codes "\"")) _ (sym (append_assoc start id (codes "\""))))
    (rw c.as_slice.ensures.same at c.in_err-named.ensures))

pub returns : goal.returns
returns g c =
    let start = c.args.start.now in
    let id = c.args.id.now in
    adds_last _ _ _ (take c.args.at c.args.buffer.now) (start ++ (id ++ codes "\"")) _ (codes "\"") _ _
    (goes_on _ _ _ _ _ (start ++ id) (codes "\"") _
    (begins _ (take c.args.at c.args.buffer.now) (start ++ (id ++ codes "\"")) _ (sym (append_assoc start id (codes "\""))))
    (rw c.as_slice.ensures.same at c.in_ok-named.ensures.1))
    c.add.ensures
