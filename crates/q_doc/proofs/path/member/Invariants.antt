use Rattle.std.proofs.Common.{◌≡◌, drop}
use Rattle.q_doc.specs.Tree.{members_of}
use Rattle.q_doc.specs.Path.{value_at}
use Rattle.q_doc.proofs.path.member.Given as goal

abbrev pub invariant-loop-key : goal.invariant-loop-key
invariant-loop-key l = value_at l.name (members_of l.key-items) ≡ value_at l.name (members_of (drop l.key-index l.key-items))
