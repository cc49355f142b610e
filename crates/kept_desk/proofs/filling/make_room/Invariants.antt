-- only such entries were made so far
use Rattle.std.proofs.Common.{◌≡◌, []}
use Rattle.kept_desk.specs.Filling.{Fills, Writes}
use Rattle.kept_desk.proofs.filling.make_room.Given as goal

abbrev pub invariant-loop-n : goal.invariant-loop-n
invariant-loop-n g l =
    Fills (g.D.Desk.setting l.initial.desk) (g.D.Desk.seen l.initial.desk) (g.D.Desk.seen l.desk) (g.D.Desk.mine l.initial.desk) (g.D.Desk.mine l.desk)
    × Writes (g.D.Desk.mine l.initial.desk) (g.D.Desk.mine l.desk) []
    × (g.D.Desk.anchor l.desk ≡ g.D.Desk.anchor l.initial.desk)
    × (g.D.Desk.setting l.desk ≡ g.D.Desk.setting l.initial.desk)
