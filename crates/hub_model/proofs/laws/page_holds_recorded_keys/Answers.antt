use Rattle.hub_model.proofs.Bits.{page_holds-recorded, page_holds-early}
use Rattle.hub_model.proofs.laws.page_holds_recorded_keys.Goals as goal

-- each of its positions is set
pub returns-clause-recorded : goal.returns-clause-recorded
returns-clause-recorded c = page_holds-recorded

-- all are
pub returns-clause-guarded : goal.returns-clause-guarded
returns-clause-guarded c = page_holds-early
