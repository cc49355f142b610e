-- nothing was done
use Rattle.std.proofs.Common.{[]}
use Rattle.std.proofs.Common.{refl}
use Rattle.kept_desk.proofs.FillLemmas.{fills_none, writes_none}
use Rattle.kept_desk.proofs.keeper.fill_with_none.Goals as goal

pub returns-clause-fills : goal.returns-clause-fills
returns-clause-fills g c = fills_none (g.D.Desk.setting c.args.desk.now) (g.D.Desk.seen c.args.desk.now) (g.D.Desk.mine c.args.desk.now)

pub returns-clause-written : goal.returns-clause-written
returns-clause-written g c = ([], refl, writes_none (g.D.Desk.mine c.args.desk.now))
