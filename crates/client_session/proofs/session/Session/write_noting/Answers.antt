use Rattle.std.proofs.Common.{[], ◌∷◌, refl}
use Rattle.client_session.specs.Link.{direct}
use Rattle.client_session.proofs.ReadLemmas.{passed_holds}
use Rattle.client_session.proofs.session.Session.write_noting.Goals as goal

-- the server was asked once
pub returns-clause-by : goal.returns-clause-by
returns-clause-by g c =
    (direct c.args.ask.now c.direct.result ∷ [], (c.direct.new.self, (c.direct.ensures.answered, c.direct.ensures.went), refl), (refl, c.commit_by-told.ensures))

pub returns-clause-holds : goal.returns-clause-holds
returns-clause-holds g c = λ held holds.
    passed_holds g.L.Link.at g.L.Link.answers c.args.link.now (direct c.args.ask.now c.direct.result ∷ []) c.direct.new.self
    (c.direct.new.self, (c.direct.ensures.answered, c.direct.ensures.went), refl) held holds
