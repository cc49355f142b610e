-- all commits were matched, and then old changes were dropped
use Rattle.quaestor_serve.proofs.MatchLemmas.{matches_both}
use Rattle.quaestor_serve.proofs.matching.match_and_drop.Goals as goal

pub returns-then-is_settled_at-clause-matches : goal.returns-then-is_settled_at-clause-matches
returns-then-is_settled_at-clause-matches g c = c.match_once-front.ensures.matches c.args.trim

pub returns-clause-matches : goal.returns-clause-matches
returns-clause-matches g c = matches_both g.C.Clock.tick (g.D.Desk.setting c.args.desk.now) (g.D.Desk.setting c.match_once-front.new.desk) c.args.trim (g.D.Desk.seen c.args.desk.now) _ _ (g.D.Desk.mine c.args.desk.now) _ _ c.args.clock.now c.match_once-front.new.clock c.drop_once-horizon.new.clock c.match_once-front.ensures.setting
    (c.match_once-front.ensures.matches c.args.trim)
    c.drop_once-horizon.ensures.matches
