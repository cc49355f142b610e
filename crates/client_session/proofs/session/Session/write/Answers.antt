use Rattle.std.proofs.Common.{sym, subst}
use Rattle.client_session.specs.Read.{Holds}
use Rattle.client_session.specs.Session.{SessionView, HasPast, past_written}
use Rattle.client_session.proofs.SessionLemmas.{after_write}
use Rattle.client_session.proofs.session.Session.write.Goals as goal

-- the held page is as before
pub returns-clause-holds : goal.returns-clause-holds
returns-clause-holds g c = λ holds.
    subst (λ (s : SessionView). Holds (g.L.Link.at c.write_noting.new.link) s.page) (sym c.write_noting.ensures.session) (c.write_noting.ensures.holds c.args.self.now.page holds)

-- the commit is one of the past
pub returns-clause-past : goal.returns-clause-past
returns-clause-past g c = λ past has.
    subst (λ (s : SessionView). HasPast s (past_written c.write_noting.result past)) (sym c.write_noting.ensures.session) (after_write c.args.self.now past has c.write_noting.result)
