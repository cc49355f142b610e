use Rattle.std.proofs.Common.{◌≤◌, ℕ, Option, refl, sym, subst}
use Rattle.std.specs.Prelude.{IfOk}
use Rattle.query_normal.specs.Pages.{Page}
use Rattle.client_session.specs.Read.{Holds}
use Rattle.client_session.proofs.SessionLemmas.{floor_is}
use Rattle.client_session.proofs.session.Session.read.Goals as goal

-- the sight of the key is that of the held page
pub returns-clause-fresh : goal.returns-clause-fresh
returns-clause-fresh g c = λ holds. c.read_noting.ensures.fresh c.args.self.now.page refl holds

-- the held page is as before
pub returns-clause-holds : goal.returns-clause-holds
returns-clause-holds g c = λ holds.
    subst (λ (held : Option Page). Holds (g.L.Link.at c.read_noting.new.link) held) (sym c.read_noting.ensures.page) (c.read_noting.ensures.holds c.args.self.now.page holds)

-- the floor is that of the past
pub returns-clause-floor : goal.returns-clause-floor
returns-clause-floor g c = λ past has.
    subst (λ (floor : ℕ). IfOk c.read_noting.result (λ out. floor ≤ out.commit)) (floor_is c.args.self.now.level c.args.self.now past c.args.key.now has) c.read_noting.ensures.floor
