-- the desk learned while it made ready, and then old changes were dropped
use Rattle.quaestor_serve.proofs.MatchLemmas.{matches_both, matches_learned}
use Rattle.quaestor_serve.proofs.matching.drop_once.Goals as goal

pub returns-then-is_err-clause-matches : goal.returns-then-is_err-clause-matches
returns-then-is_err-clause-matches g c = matches_learned g.C.Clock.tick (g.D.Desk.setting c.args.desk.now) c.args.trim (g.D.Desk.seen c.args.desk.now) _ (g.D.Desk.mine c.args.desk.now) _ c.args.clock.now c.ready.ensures.none

pub returns-clause-matches : goal.returns-clause-matches
returns-clause-matches g c = matches_both g.C.Clock.tick (g.D.Desk.setting c.args.desk.now) (g.D.Desk.setting c.ready.new.self) c.args.trim (g.D.Desk.seen c.args.desk.now) _ _ (g.D.Desk.mine c.args.desk.now) _ _ c.args.clock.now c.args.clock.now c.drop_ready.new.clock c.ready.ensures.setting
    (matches_learned g.C.Clock.tick (g.D.Desk.setting c.args.desk.now) c.args.trim (g.D.Desk.seen c.args.desk.now) _ (g.D.Desk.mine c.args.desk.now) _ c.args.clock.now c.ready.ensures.none)
    c.drop_ready.ensures.matches
