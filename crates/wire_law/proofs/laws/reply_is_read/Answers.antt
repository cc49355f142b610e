use Rattle.std.proofs.Common.{arith, rules}
use Rattle.wire_law.proofs.PartLemmas.{IsInWidth}
use Rattle.wire_law.proofs.ReplyLemmas.{reply_read}
use Rattle.wire_law.proofs.laws.reply_is_read.Goals as goal

pub returns : goal.returns
returns c =
    let code = c.as_u16-status.ensures.value in
    let width : IsInWidth c.args.head = record {
      commit = λ n told. search rules;
      version = λ n told. search rules;
      until = λ n told. search rules;
      tag = λ n told. search rules;
      length = λ n told. search rules;
      ttl = search rules;
      shared = search rules;
      leave = c.allow-allow.ensures.tellable;
    } in
    reply_read c.args.head c.replies_read_back.ensures (omega (arith, code, c.as_u16-status.ensures.valid.1)) width
