use Rattle.client_session.proofs.SessionLemmas.{past_kept}
use Rattle.client_session.specs.Session.{is_newer}
use Rattle.client_session.proofs.session.Session.refresh.Goals as goal

-- a page was held or dropped
pub returns-in-Ok-clause-past : goal.returns-in-Ok-clause-past
returns-in-Ok-clause-past g c = λ past has.
    past_kept (is_newer c.args.self.now.page c.in-Ok.page) c.args.self.now c.keep.new.self c.in-Ok.page _ c.keep.ensures past has
