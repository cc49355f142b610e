-- a fixed clock has one moment
use Rattle.quaestor_prog.proofs.RunLemmas.{timed, timed_kept, untimed, untimed_kept}
use Rattle.quaestor_prog.proofs.program.pipe_at.Goals as goal

pub returns-in-Some-clause-run : goal.returns-in-Some-clause-run
returns-in-Some-clause-run g c = λ never. timed _ g.C.Clock.tick _ c.in-Some.at _ _ _ _ _ _ _ c.in-Some.is c.of.ensures (c.pipe.ensures.run never)

pub returns-in-Some-clause-kept : goal.returns-in-Some-clause-kept
returns-in-Some-clause-kept g c = timed_kept (g.Q.Keeper.opens c.args.keeper.now) g.Q.Hand.Keeping.log g.Q.Hand.Keeping.keeps (g.Q.Keeper.kept c.args.keeper.now) _ g.C.Clock.tick _ c.in-Some.at _ _ _ _ _ _ _ c.in-Some.is c.of.ensures c.pipe.ensures.kept

pub returns-in-None-clause-run : goal.returns-in-None-clause-run
returns-in-None-clause-run g c = λ never. untimed _ g.C.Clock.tick _ _ _ _ _ _ _ c.in-None.is (c.pipe-in-None.ensures.run never)

pub returns-in-None-clause-kept : goal.returns-in-None-clause-kept
returns-in-None-clause-kept g c = untimed_kept (g.Q.Keeper.opens c.args.keeper.now) g.Q.Hand.Keeping.log g.Q.Hand.Keeping.keeps (g.Q.Keeper.kept c.args.keeper.now) _ g.C.Clock.tick _ _ _ _ _ _ _ c.in-None.is c.pipe-in-None.ensures.kept
