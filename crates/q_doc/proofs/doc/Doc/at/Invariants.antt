use Rattle.std.proofs.Common.{◌≡◌, drop}
use Rattle.q_doc.specs.Path.{tree_at}
use Rattle.q_doc.proofs.doc.Doc.at.Given as goal

abbrev pub invariant-loop-segment : goal.invariant-loop-segment
invariant-loop-segment l = tree_at l.segment-items l.self ≡ tree_at (drop l.segment-index l.segment-items) l.node
