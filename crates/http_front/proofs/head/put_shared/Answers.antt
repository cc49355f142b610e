-- both numbers behind one another
use Rattle.http_front.proofs.HeadLines.{shared_line, two_pieces}
use Rattle.http_front.proofs.head.put_shared.Goals as goal

pub returns-clause-text : goal.returns-clause-text
returns-clause-text c =
    two_pieces _ _ _ _ _ _ c.put_field-behind.ensures.text c.put_field.ensures.text
    (shared_line c.args.ttl c.args.shared _ _ c.requires.fresh c.requires.shared c.from-own.ensures c.from-other.ensures)
