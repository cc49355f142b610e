-- below the guard no bit is clear, and from it on no copy of before is unexpired
use Rattle.durable_book.proofs.AcrossLemmas.{earlier_fresh}
use Rattle.durable_book.proofs.laws.earlier_replies_are_fresh.Goals as goal

pub returns : goal.returns
returns c = λ g later_g history later guard page key reply legal later_legal follows fetched issued accepted. earlier_fresh g later_g history later guard page key reply follows fetched issued accepted
