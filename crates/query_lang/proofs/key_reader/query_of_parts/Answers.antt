-- The parts are read, and the key is that of the normal form.
use Rattle.std.proofs.Common.{rules, sym, ◌∙◌}
use Rattle.query_lang.proofs.KeyParts.{parts_key, parts_none}
use Rattle.query_lang.proofs.key_reader.query_of_parts.Goals as goal

pub returns-in_ok-query-in-Ok : goal.returns-in_ok-query-in-Ok
returns-in_ok-query-in-Ok c =
    parts_key c.args.parts c.in-Some.collection (sym c.in_ok-collection.ensures ∙ c.in-Some.is) c.in-Ok.query c.in-Ok.field-0-1
    c.in_ok-normal-in-Ok.normal c.in_ok-query-in-Ok.field-0 c.in-Ok.ensures.exact c.in_ok-normal-in-Ok.ensures c.in_ok-query-in-Ok.ensures

pub returns-in-Err : goal.returns-in-Err
returns-in-Err c =
    parts_none c.args.parts c.in-Some.collection (sym c.in_ok-collection.ensures ∙ c.in-Some.is) c.in-Err.field-0 (λ memory. search rules) c.in-Err.ensures.exact
