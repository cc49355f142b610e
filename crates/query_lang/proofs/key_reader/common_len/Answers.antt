-- One of the texts has no byte left.
use Rattle.std.proofs.Common.{arith}
use Rattle.query_lang.proofs.KeyLoops.{common_all}
use Rattle.query_lang.proofs.key_reader.common_len.Goals as goal

pub returns : goal.returns
returns c =
    let len = c.min-len.ensures in
    let whole = common_all c.args.a.now c.args.b.now c.bytes.offset c.bytes.invariant (omega (arith, len)) in
    omega (arith, whole)
