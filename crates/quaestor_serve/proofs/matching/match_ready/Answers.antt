-- all commits were matched, or memory ran out
use Rattle.quaestor_serve.proofs.MatchLemmas.{matches_made, matches_in_vain}
use Rattle.quaestor_serve.proofs.matching.match_ready.Goals as goal

pub returns-in-Err-clause-matches : goal.returns-in-Err-clause-matches
returns-in-Err-clause-matches g c = λ trim. matches_in_vain g.C.Clock.tick (g.D.Desk.setting c.args.desk.now) trim (g.D.Desk.seen c.args.desk.now) _ (g.D.Desk.mine c.args.desk.now) _ c.args.clock.now c.now-moment.new.self c.now-moment.result c.in-Err.ensures.memory c.now-moment.ensures

pub returns-in-Ok-clause-matches : goal.returns-in-Ok-clause-matches
returns-in-Ok-clause-matches g c = λ trim. matches_made g.C.Clock.tick (g.D.Desk.setting c.args.desk.now) trim (g.D.Desk.seen c.args.desk.now) _ (g.D.Desk.mine c.args.desk.now) _ c.args.clock.now c.now-moment.new.self c.now-moment.result _ c.in-Ok.ensures.made c.now-moment.ensures
