use Rattle.std.proofs.Common.{◌∙◌, ap, refl, List, ℕ}
use Rattle.std.specs.Option.{option_copied}
use Rattle.std.specs.Prelude.{Option}
use Rattle.http1.specs.Head.{print_headers}
use Rattle.http_front.specs.Reply.{origin_fields}
use Rattle.http_front.proofs.HeadLines.{origin_lines, three_pieces}
use Rattle.http_front.proofs.head.put_origin.Goals as goal

pub returns-clause-text : goal.returns-clause-text
returns-clause-text c =
    three_pieces _ _ _ _ _ _ _ _ _ c.put-behind.ensures.text c.put-behind-2.ensures.text refl c.put.ensures.text
    (ap (λ (o : Option (List ℕ)). print_headers (origin_fields o)) (ap option_copied c.in-Some.is) ∙ origin_lines c.in-Some.origin.now)
