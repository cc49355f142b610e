-- what was given is of the history
use Rattle.std.proofs.Common.{◌≡◌, ◌∙◌, subst}
use Rattle.std.specs.Prelude.{IfOk, IfSome}
use Rattle.std.proofs.lemmas.Result.{IfOk-weaker}
use Rattle.world_core.specs.Hostile.{HostileView, earlier}
use Rattle.world_core.specs.Link.{IsHeldReply}
use Rattle.world_core.specs.Store.{state_in}
use Rattle.world_core.proofs.HostileLemmas.{found_told}
use Rattle.world_core.proofs.hostile.HostileLink.again.Goals as goal

pub returns-clause-found : goal.returns-clause-found
returns-clause-found c =
    subst (λ (v : HostileView). IfOk c.copied.result (λ found. found ≡ earlier c.args.back c.args.key.now v.given)) c.self.view_is
    (IfOk-weaker c.copied.result _ _ (λ found is. is ∙ c.earlier.ensures) c.copied.ensures)

pub returns-clause-told : goal.returns-clause-told
returns-clause-told c =
    subst (λ (v : HostileView). IfOk c.copied.result (λ found. IfSome found (λ reply. IsHeldReply (state_in v.link.store) c.args.key.now reply))) c.self.view_is
    (found_told (state_in c.self.inside.link.store) c.args.back c.args.key.now c.self.inside.given.items c.copied.result c.self.invariant
    (IfOk-weaker c.copied.result _ _ (λ found is. is ∙ c.earlier.ensures) c.copied.ensures))
