-- A key is added, and the keys behind it are left.
use Rattle.std.proofs.Common.{◌+◌, ◌++◌, take, drop, codes, ap, arith}
use Rattle.std.proofs.lemmas.Result.{err_from_is_err_and}
use Rattle.http_front.specs.Bodies.{key_json, keys_behind, keys_json}
use Rattle.http_front.proofs.BufferLemmas.{begins, goes_on, fails}
use Rattle.http_front.proofs.KeyTextLemmas.{keys_left}
use Rattle.http_front.proofs.purges.add_keys.Goals as goal

pub returns-in_err-end : goal.returns-in_err-end
returns-in_err-end g c =
    let p = err_from_is_err_and c.from_residual.result c.from_residual.ensures.1 in
    rw p.1
    (fails _ _ _ _ _ (key_json c.in-Some.first.now) (keys_behind c.in-Some.rest.now)
    (begins _ (take c.args.at c.args.buffer.now) (keys_json c.args.keys.now) _ (ap keys_json c.in-Some.ensures.cases.0)) c.in_err-end.ensures)

pub returns-in_err-end-2 : goal.returns-in_err-end-2
returns-in_err-end-2 g c =
    let p = err_from_is_err_and c.from_residual-in_err-end-2.result c.from_residual-in_err-end-2.ensures.1 in
    let rest = c.in-Some.rest.now in
    let i = c.loop-key.key-index in
    let key = c.key-item.result in
    let old = c.loop-key.invariant.buffered in
    rw p.1
    (fails _ _ _ _ _ (codes "," ++ key_json key) (keys_behind (drop (i + 1) rest))
    (rw (keys_left rest i key (omega arith) c.key-item.is) at old) c.in_err-end-2.ensures)

pub loop-key-preserved : goal.loop-key-preserved
loop-key-preserved g c =
    let rest = c.in-Some.rest.now in
    let i = c.loop-key.key-index in
    let key = c.key-item.result in
    let old = c.loop-key.invariant.buffered in
    record {
      within = c.in_ok-end-2.ensures.0;
      buffered =
          goes_on _ _ _ _ _ (codes "," ++ key_json key) (keys_behind (drop (i + 1) rest)) _
          (rw (keys_left rest i key (omega arith) c.key-item.is) at old) c.in_ok-end-2.ensures.1;
    }
