use Rattle.std.proofs.Common.{ap, ◌∙◌}
use Rattle.client_session.specs.Noted.{noted}
use Rattle.client_session.specs.Session.{SessionView}
use Rattle.client_session.proofs.SessionLemmas.{floor_is}
use Rattle.client_session.proofs.session.Session.floor.Goals as goal

-- the floor by what was noted is that of the past
pub returns-clause-floor : goal.returns-clause-floor
returns-clause-floor c = λ past has.
    c.floor_from.ensures c.args.key.now (c.noted.ensures ∙ ap (λ (s : SessionView). noted s.floors c.args.key.now) c.self.view_is)
    ∙ floor_is c.args.self.now.level c.args.self.now past c.args.key.now has
