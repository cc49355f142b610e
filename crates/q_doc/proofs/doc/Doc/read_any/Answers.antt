use Rattle.std.proofs.Common.{arith, rules}
use Rattle.serde_json.specs.View.{view}
use Rattle.q_doc.proofs.DataLength.{printed_holds}
use Rattle.q_doc.proofs.ReadData.{found-IsRead}
use Rattle.q_doc.proofs.WholeLemmas.{document_whole}
use Rattle.q_doc.proofs.doc.Doc.read_any.Goals as goal

-- an object that was read, is not too deep and has whole numbers
pub of-requires : goal.of-requires
of-requires c =
    let read = found-IsRead c.args.text.now (view c.in-Ok.value) c.in-Ok.ensures.ok in
    record {
      document = document_whole (view c.in-Ok.value) c.in-Ok-node_of.node read c.in-Ok-node_of.ensures.ok (search rules) (omega arith);
      texts = c.in-Ok-node_of.ensures.texts;
      fits = printed_holds c.args.text.now c.in-Ok-node_of.node (view c.in-Ok.value, c.in-Ok.ensures.ok, c.in-Ok-node_of.ensures.ok);
      short = omega arith;
    }
