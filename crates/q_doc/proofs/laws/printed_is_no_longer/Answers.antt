use Rattle.q_doc.proofs.DataLength.{printed_judged}
use Rattle.q_doc.proofs.laws.printed_is_no_longer.Goals as goal

pub returns : goal.returns
returns c = printed_judged
