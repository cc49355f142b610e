-- as many keys are active in the state as in the copies
use Rattle.std.proofs.Common.{sym, ◌∙◌}
use Rattle.hub_core.proofs.HubLemmas.{parts-at}
use Rattle.hub_core.proofs.LifeLemmas.{active-number}
use Rattle.hub_core.proofs.hub.Hub.active_count.Goals as goal

pub returns : goal.returns
returns c = λ s at.
    c.active_count.ensures
    ∙ sym (active-number c.self.inside.copies s
    (parts-at c.self.inside.book c.self.inside.front c.self.inside.copies c.self.inside.queries.entries c.self.inside.life c.args.self.now s c.self.view_is at).copies)
