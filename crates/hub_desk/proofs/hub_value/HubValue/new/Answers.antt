-- the law of a hub that represents no entry
use Rattle.std.proofs.Common.{[], refl, sym, subst}
use Rattle.hub_core.specs.HubState.{HubView, Represents}
use Rattle.hub_desk.proofs.hub_value.HubValue.new.Goals as goal

pub returns-clause-stands : goal.returns-clause-stands
returns-clause-stands c =
    record {
      represents = subst (λ (h : HubView). Represents h []) (sym c.in_ok-hub.ensures.ok) (c.hubs_represent_histories.ensures.begins _ c.in_ok-new.ensures.begins);
      counted = refl;
    }
