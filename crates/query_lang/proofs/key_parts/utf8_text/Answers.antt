-- Bytes are a text exactly where they are UTF-8.
use Rattle.std.proofs.Common.{Some, sym, ap, ◌∙◌}
use Rattle.query_lang.proofs.KeyLoops.{utf8_is, utf8_none}
use Rattle.query_lang.proofs.key_parts.utf8_text.Goals as goal

pub returns-in-Ok : goal.returns-in-Ok
returns-in-Ok c = ap Some c.in-Ok.ensures.cases.0 ∙ sym (utf8_is c.args.bytes.now c.in-Ok.ensures.cases.1)

pub returns-in-Err : goal.returns-in-Err
returns-in-Err c = sym (utf8_none c.args.bytes.now c.in-Err.ensures.cases.0)
