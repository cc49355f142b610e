-- the commits of the records so far were written
use Rattle.std.proofs.Common.{◌≡◌}
use Rattle.kept_desk.specs.Filling.{Fills}
use Rattle.kept_desk.proofs.ReadLemmas.{Reads}
use Rattle.kept_desk.proofs.filling.fill.Given as goal

abbrev pub invariant-loop-n : goal.invariant-loop-n
invariant-loop-n g l =
    Fills (g.D.Desk.setting l.initial.desk) (g.D.Desk.seen l.initial.desk) (g.D.Desk.seen l.desk) (g.D.Desk.mine l.initial.desk) (g.D.Desk.mine l.desk)
    × Reads l.initial.opening l.opening (g.D.Desk.mine l.initial.desk) (g.D.Desk.mine l.desk) l.filling.at.commits l.filling.at.moment
    × (g.D.Desk.anchor l.desk ≡ g.D.Desk.anchor l.initial.desk)
    × (g.D.Desk.setting l.desk ≡ g.D.Desk.setting l.initial.desk)
