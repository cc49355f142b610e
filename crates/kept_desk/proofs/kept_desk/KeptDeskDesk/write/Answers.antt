-- there was no memory for a record: nothing was made
use Rattle.std.proofs.Common.{inl}
use Rattle.kept_desk.proofs.FillLemmas.{learns_none}
use Rattle.kept_desk.proofs.kept_desk.KeptDeskDesk.write.Goals as goal

pub returns-in-Err-clause-memory : goal.returns-in-Err-clause-memory
returns-in-Err-clause-memory g c = learns_none (g.D.Desk.setting c.args.self.now.desk) (g.D.Desk.seen c.args.self.now.desk) (g.D.Desk.mine c.args.self.now.desk)

pub returns-in-Err-clause-accepted : goal.returns-in-Err-clause-accepted
returns-in-Err-clause-accepted g c = inl (c.args.self.now.told c.in-Err.ensures.failing)
