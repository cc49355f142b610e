use Rattle.std.proofs.Common.{◌-◌, length, drop}
use Rattle.q_doc.specs.Tree.{members_of}
use Rattle.q_doc.specs.Document.{PrecedesMembers}
use Rattle.q_doc.proofs.reading.index_for.Given as goal

abbrev pub invariant-loop-passed : goal.invariant-loop-passed
invariant-loop-passed l = PrecedesMembers l.name (members_of (drop (length l.members - l.passed) l.members))
