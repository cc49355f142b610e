-- old changes were dropped
use Rattle.quaestor_serve.proofs.MatchLemmas.{drops_made}
use Rattle.quaestor_serve.proofs.matching.drop_ready.Goals as goal

pub returns-clause-matches : goal.returns-clause-matches
returns-clause-matches g c = drops_made g.C.Clock.tick (g.D.Desk.setting c.args.desk.now) c.args.trim (g.D.Desk.seen c.args.desk.now) _ (g.D.Desk.mine c.args.desk.now) _ c.args.clock.now c.now-moment.new.self c.now-moment.result _ c.drop_old-dropped.ensures.made c.now-moment.ensures
