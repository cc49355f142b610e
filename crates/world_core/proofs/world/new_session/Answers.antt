-- what is not dropped is the session that was made
use Rattle.std.proofs.Common.{◌≡◌, sym, subst}
use Rattle.client_session.specs.Session.{SessionView}
use Rattle.world_core.specs.World.{IsFresh}
use Rattle.world_core.proofs.world.new_session.Goals as goal

pub returns : goal.returns
returns c =
    subst (λ (s : SessionView). IsFresh c.args.level s) (sym c.new-2.ensures)
    (record { level = c.in_ok-session.ensures.level; page = c.in_ok-session.ensures.page; past = c.in_ok-session.ensures.empty })
