use Rattle.q_doc.proofs.PrintedLaws.{printed_reads}
use Rattle.q_doc.proofs.laws.printed_reads.Goals as goal

pub returns : goal.returns
returns c = printed_reads
