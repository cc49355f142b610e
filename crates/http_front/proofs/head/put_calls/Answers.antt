use Rattle.std.proofs.Common.{◌∙◌, ap}
use Rattle.std.specs.Prelude.{Option}
use Rattle.http1.specs.Head.{print_headers}
use Rattle.http_front.specs.Reply.{calls_fields}
use Rattle.http_front.specs.declared.refused.Allow.{Allow}
use Rattle.http_front.proofs.HeadLines.{calls_lines, three_pieces}
use Rattle.http_front.proofs.head.put_calls.Goals as goal

pub returns-clause-text : goal.returns-clause-text
returns-clause-text c =
    three_pieces _ _ _ _ _ _ _ _ _ c.put-behind.ensures.text c.put-behind-2.ensures.text c.methods_text.ensures.text c.put.ensures.text
    (ap (λ (o : Option Allow). print_headers (calls_fields o)) c.in-Some.is ∙ calls_lines c.in-Some.allow)
