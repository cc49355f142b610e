-- a commit was written, or a moment was noted
use Rattle.kept_desk.proofs.FillLemmas.{fills_none}
use Rattle.kept_desk.proofs.ResultLemmas.{commit_written, commit_counted, moment_written, moment_counted}
use Rattle.kept_desk.proofs.filling.Filling.add.Goals as goal

pub returns-in-Commit-clause-written : goal.returns-in-Commit-clause-written
returns-in-Commit-clause-written g c = commit_written c.write.result c.args.said c.in-Commit.clock c.of.result c.in-Commit.change (g.D.Desk.mine c.args.desk.now) (g.D.Desk.mine c.write.new.desk) c.in-Commit.is c.of.ensures c.write.ensures.written

pub returns-in-Commit-clause-commits : goal.returns-in-Commit-clause-commits
returns-in-Commit-clause-commits g c = commit_counted c.write.result c.args.said c.in-Commit.clock c.in-Commit.change _ _ c.in-Commit.is c.write.ensures.commits

pub returns-in-Moment-clause-fills : goal.returns-in-Moment-clause-fills
returns-in-Moment-clause-fills g c = fills_none (g.D.Desk.setting c.args.desk.now) (g.D.Desk.seen c.args.desk.now) (g.D.Desk.mine c.args.desk.now)

pub returns-in-Moment-clause-written : goal.returns-in-Moment-clause-written
returns-in-Moment-clause-written g c = moment_written c.args.said c.in-Moment.clock (g.D.Desk.mine c.args.desk.now) c.in-Moment.is

pub returns-in-Moment-clause-commits : goal.returns-in-Moment-clause-commits
returns-in-Moment-clause-commits g c = moment_counted c.args.said c.in-Moment.clock _ c.in-Moment.is
