-- a new hub represents the empty history
use Rattle.hub_desk.proofs.HistoryLemmas.{new_represents}
use Rattle.hub_desk.proofs.owned.Owned.new.Goals as goal

pub invariant_of-result : goal.invariant_of-result
invariant_of-result c = new_represents _ _ c.in_ok-hub.ensures.begins c.no_entry_is_legal.ensures.state c.no_entry_is_legal.ensures.legal c.new-2.ensures.items
