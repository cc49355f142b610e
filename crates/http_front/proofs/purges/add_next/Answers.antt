use Rattle.std.proofs.Common.{◌++◌, take, codes, refl}
use Rattle.std.proofs.lemmas.Result.{err_from_is_err_and}
use Rattle.http_front.specs.Bodies.{key_json}
use Rattle.http_front.proofs.BufferLemmas.{begins, goes_on, fails, adds_last}
use Rattle.http_front.proofs.purges.add_next.Goals as goal

pub returns-in_err-parted : goal.returns-in_err-parted
returns-in_err-parted g c =
    let p = err_from_is_err_and c.from_residual.result c.from_residual.ensures.1 in
    let text = key_json c.args.key.now in
    rw p.1 (fails _ _ _ _ _ (codes ",") text (begins _ (take c.args.at c.args.buffer.now) (codes "," ++ text) _ refl) c.in_err-parted.ensures)

pub returns : goal.returns
returns g c =
    let text = key_json c.args.key.now in
    adds_last _ _ _ (take c.args.at c.args.buffer.now) (codes "," ++ text) _ text _ _
    (goes_on _ _ _ _ _ (codes ",") text _ (begins _ (take c.args.at c.args.buffer.now) (codes "," ++ text) _ refl) c.in_ok-parted.ensures.1)
    c.add_key.ensures
