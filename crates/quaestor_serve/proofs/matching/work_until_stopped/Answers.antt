-- one step more was made
use Rattle.std.proofs.Common.{rules}
use Rattle.quaestor_serve.proofs.MatchLemmas.{matches_none, matches_both}
use Rattle.quaestor_serve.proofs.matching.work_until_stopped.Goals as goal

pub loop-init : goal.loop-init
loop-init g c = (
  search rules,
  search rules,
  matches_none g.C.Clock.tick (g.D.Desk.setting c.args.desk.now) c.args.trim (g.D.Desk.seen c.args.desk.now) (g.D.Desk.mine c.args.desk.now) c.args.clock.now,
  search rules,
  search rules,
)

pub loop-preserved : goal.loop-preserved
loop-preserved g c = (
  search rules,
  search rules,
  matches_both g.C.Clock.tick (g.D.Desk.setting c.args.desk.now) (g.D.Desk.setting c.loop.desk) c.args.trim (g.D.Desk.seen c.args.desk.now) (g.D.Desk.seen c.loop.desk) _ (g.D.Desk.mine c.args.desk.now) (g.D.Desk.mine c.loop.desk) _ c.args.clock.now c.loop.clock _ c.loop.invariant.4 c.loop.invariant.2 c.match_and_tell-last.ensures.matches,
  search rules,
  search rules,
)
