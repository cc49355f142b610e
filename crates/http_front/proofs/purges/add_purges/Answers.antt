-- A list of purges is its start, the texts of its keys and its end.
use Rattle.std.proofs.Common.{◌++◌, take, refl}
use Rattle.std.proofs.lemmas.Result.{err_from_is_err_and}
use Rattle.hub_model.specs.Reply.{told_of}
use Rattle.http_front.specs.Bodies.{keys_json, purges_end}
use Rattle.http_front.specs.ReplyText.{purges_body}
use Rattle.http_front.proofs.BufferLemmas.{begins, goes_on, fails, adds_last}
use Rattle.http_front.proofs.KeyTextLemmas.{purges_pieces}
use Rattle.http_front.proofs.purges.add_purges.Goals as goal

pub returns-in_err-started : goal.returns-in_err-started
returns-in_err-started g c =
    let p = err_from_is_err_and c.from_residual.result c.from_residual.ensures.1 in
    let reply = c.args.reply.now in
    let start = c.purges_start.result.now in
    rw p.1
    (fails _ _ _ _ _ start (keys_json reply.keys.items ++ purges_end reply)
    (begins _ (take c.args.at c.args.buffer.now) (purges_body (told_of reply)) _ (purges_pieces reply reply.keys.items start (purges_end reply) c.purges_start.ensures refl refl))
    c.in_err-started.ensures)

pub returns-in_err-listed : goal.returns-in_err-listed
returns-in_err-listed g c =
    let p = err_from_is_err_and c.from_residual-in_err-listed.result c.from_residual-in_err-listed.ensures.1 in
    let reply = c.args.reply.now in
    let start = c.purges_start.result.now in
    let keys = c.as_slice.result.now in
    rw p.1
    (fails _ _ _ _ _ (keys_json keys) (purges_end reply)
    (goes_on _ _ _ _ _ start (keys_json keys ++ purges_end reply) _
    (begins _ (take c.args.at c.args.buffer.now) (purges_body (told_of reply)) _ (purges_pieces reply keys start (purges_end reply) c.purges_start.ensures c.as_slice.ensures.value refl))
    c.in_ok-started.ensures.1)
    c.in_err-listed.ensures)

pub returns : goal.returns
returns g c =
    let reply = c.args.reply.now in
    let start = c.purges_start.result.now in
    let keys = c.as_slice.result.now in
    let end = c.purges_end.result.now in
    adds_last _ _ _ (take c.args.at c.args.buffer.now) (purges_body (told_of reply)) _ end _ _
    (goes_on _ _ _ _ _ (keys_json keys) end _
    (goes_on _ _ _ _ _ start (keys_json keys ++ end) _
    (begins _ (take c.args.at c.args.buffer.now) (purges_body (told_of reply)) _ (purges_pieces reply keys start end c.purges_start.ensures c.as_slice.ensures.value c.purges_end.ensures))
    c.in_ok-started.ensures.1)
    c.in_ok-listed.ensures.1)
    c.add-2.ensures
