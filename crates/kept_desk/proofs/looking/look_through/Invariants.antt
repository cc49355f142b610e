-- the records so far keep this moment
use Rattle.kept_desk.proofs.ReadLemmas.{Looks}
use Rattle.kept_desk.proofs.looking.look_through.Given as goal

abbrev pub invariant-loop-n : goal.invariant-loop-n
invariant-loop-n g l = Looks (g.K.Disk.at l.fn.disk).history l.opening l.moment
