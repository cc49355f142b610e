use Rattle.q_doc.proofs.PrintedLaws.{plain_judged}
use Rattle.q_doc.proofs.laws.read_is_a_document.Goals as goal

pub returns : goal.returns
returns c = plain_judged
