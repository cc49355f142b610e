-- a visit with the desk and its clock
use Rattle.std.proofs.Common.{rules}
use Rattle.quaestor_server.proofs.VisitLemmas.{visited_by}
use Rattle.quaestor_server.proofs.visits.serve_visit.Goals as goal

pub returns-clause-visit : goal.returns-clause-visit
returns-clause-visit g c = visited_by (λ a. a.desk.now) (λ a. a.clock.now) g.D.Desk.setting g.D.Desk.may_be_unready g.D.Desk.seen g.D.Desk.mine g.D.Desk.anchor g.D.Desk.is_kept g.C.Clock.tick _ _ _ _ _ _ _ _ c.hold_visit.ensures.visit (search rules) (search rules)
