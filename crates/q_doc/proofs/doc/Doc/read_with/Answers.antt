use Rattle.std.proofs.Common.{arith}
use Rattle.q_doc.proofs.DataLength.{printed_holds, no_longer, no_longer_found}
use Rattle.q_doc.proofs.WholeDocument.{judged_holds, document_holds}
use Rattle.q_doc.proofs.doc.Doc.read_with.Goals as goal

-- an object that was read nests no deeper than a document may, and has whole numbers
pub of-requires : goal.of-requires
of-requires c =
    let read = c.in-Ok.ensures in
    record {
      document = document_holds c.args.text.now c.in-Ok.node read.ok read.object read.nests;
      texts = read.texts;
      fits = printed_holds c.args.text.now c.in-Ok.node read.ok;
      short = omega arith;
    }

pub returns-in-Ok-clause-judged : goal.returns-in-Ok-clause-judged
returns-in-Ok-clause-judged c =
    let read = c.in-Ok.ensures in
    let holds = judged_holds c.args.text.now c.in-Ok.node (omega arith) read.ok read.object read.nests in
    rw holds c.of.ensures

pub returns-in-Ok-clause-no_longer : goal.returns-in-Ok-clause-no_longer
returns-in-Ok-clause-no_longer c = no_longer c.of.result c.args.text.now (returns-in-Ok-clause-judged c)

-- so is what the slow path reads
pub returns-in-Err-Unsure-clause-no_longer : goal.returns-in-Err-Unsure-clause-no_longer
returns-in-Err-Unsure-clause-no_longer c = no_longer_found c.read_any.result c.args.text.now c.read_any.ensures
