use Rattle.http_front.proofs.BufferLemmas.{gave_rest}
use Rattle.http_front.proofs.results.give_result.Goals as goal

pub returns : goal.returns
returns g c = gave_rest _ _ _ _ _ c.give_all.result (rw c.shown.ensures at c.in_ok-end.ensures.1) c.give_all.ensures
