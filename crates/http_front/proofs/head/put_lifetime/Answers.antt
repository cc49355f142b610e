-- the lifetime is not 0, and none is told for shared caches
use Rattle.std.proofs.Common.{ap, sym, ◌∙◌, ◌++◌, take, ℕ}
use Rattle.http1.specs.Head.{print_headers}
use Rattle.http_front.specs.Reply.{lifetime_field}
use Rattle.http_front.proofs.HeadLines.{lifetime_line}
use Rattle.http_front.proofs.head.put_lifetime.Goals as goal

pub returns-then-shared-eq0-clause-text : goal.returns-then-shared-eq0-clause-text
returns-then-shared-eq0-clause-text c =
    c.put_field.ensures.text
    ∙ ap (λ t. take c.args.at c.args.buffer.now ++ t) (lifetime_line c.args.ttl _ c.if-ttl-eq0.false c.from.ensures)
    ∙ ap (λ (n : ℕ). take c.args.at c.args.buffer.now ++ print_headers (lifetime_field c.args.ttl n)) (sym c.if-shared-eq0.true)
