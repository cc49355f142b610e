use Rattle.std.proofs.Common.{◌∙◌, ap, false, nat_lt}
use Rattle.http_front.specs.declared.head.Head.{Head}
use Rattle.http_front.proofs.NoteLemmas.{heads_alike}
use Rattle.http_front.proofs.note.note_of.Goals as goal

pub returns-clause-status : goal.returns-clause-status
returns-clause-status c = λ size close.
    c.as_u16-status.ensures.value ∙ ap (λ (h : Head). h.status) c.of-head.ensures ∙ (heads_alike c.args.shape.now c.args.told.now 0 size false close).status

pub returns-clause-copies : goal.returns-clause-copies
returns-clause-copies c = λ size close.
    ap (λ (h : Head). nat_lt 0 h.ttl) c.of-head.ensures ∙ ap (nat_lt 0) (heads_alike c.args.shape.now c.args.told.now 0 size false close).ttl
