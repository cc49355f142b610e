use Rattle.std.proofs.Common.{arith}
use Rattle.http_front.proofs.ReadLemmas.{read_back}
use Rattle.http_front.proofs.laws.replies_read_back.Goals as goal

pub returns : goal.returns
returns c =
    let code = c.as_u16-status.ensures.value in
    read_back c.args.head (omega (arith, code, c.as_u16-status.ensures.valid.0)) (omega (arith, code, c.as_u16-status.ensures.valid.1)) c.allow-allow.ensures.tellable
