-- the desk learned while it took the figures
use Rattle.quaestor_serve.proofs.MatchLemmas.{matches_both, matches_learned}
use Rattle.quaestor_serve.proofs.matching.match_and_tell.Goals as goal

pub returns-then-is_asking-clause-matches : goal.returns-then-is_asking-clause-matches
returns-then-is_asking-clause-matches g c = matches_both g.C.Clock.tick (g.D.Desk.setting c.args.desk.now) (g.D.Desk.setting c.match_and_drop-last.new.desk) c.args.trim (g.D.Desk.seen c.args.desk.now) _ _ (g.D.Desk.mine c.args.desk.now) _ _ c.args.clock.now c.match_and_drop-last.new.clock c.match_and_drop-last.new.clock c.match_and_drop-last.ensures.setting
    c.match_and_drop-last.ensures.matches
    (matches_learned g.C.Clock.tick (g.D.Desk.setting c.match_and_drop-last.new.desk) c.args.trim (g.D.Desk.seen c.match_and_drop-last.new.desk) _ (g.D.Desk.mine c.match_and_drop-last.new.desk) _ c.match_and_drop-last.new.clock c.figures-figures.ensures.none)
