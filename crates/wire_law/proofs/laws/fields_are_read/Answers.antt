use Rattle.std.proofs.Common.{rules}
use Rattle.wire_law.proofs.PartLemmas.{IsInWidth, fields_read}
use Rattle.wire_law.proofs.laws.fields_are_read.Goals as goal

pub returns : goal.returns
returns c =
    let width : IsInWidth c.args.head = record {
      commit = λ n told. search rules;
      version = λ n told. search rules;
      until = λ n told. search rules;
      tag = λ n told. search rules;
      length = λ n told. search rules;
      ttl = search rules;
      shared = search rules;
      leave = c.allow-allow.ensures.tellable;
    } in
    fields_read c.args.head width
