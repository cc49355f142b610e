use Rattle.std.proofs.Common.{◌≡◌, take}
use Rattle.q_doc.proofs.clones.clone_of_segments.Given as goal

abbrev pub invariant-loop-segment : goal.invariant-loop-segment
invariant-loop-segment l = l.clones.items ≡ take l.segment-index l.segment-items
