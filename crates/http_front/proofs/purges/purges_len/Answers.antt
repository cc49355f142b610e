use Rattle.std.proofs.Common.{length, ap, arith}
use Rattle.http_front.specs.Bodies.{keys_json}
use Rattle.http_front.proofs.KeyTextLemmas.{purges_length}
use Rattle.http_front.proofs.purges.purges_len.Goals as goal

pub returns : goal.returns
returns c =
    let whole = purges_length c.args.reply.now in
    let keys = ap (λ keys. length (keys_json keys)) c.as_slice.ensures.value in
    let start = ap length c.purges_start-start.ensures in
    let end = ap length c.purges_end-end.ensures in
    omega (arith, whole, keys, start, end, c.keys_len-keys.ensures, c.saturating_add.ensures, c.saturating_add-2.ensures)
