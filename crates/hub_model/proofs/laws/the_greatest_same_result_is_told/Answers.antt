use Rattle.hub_model.proofs.Known.{known-greatest, none-known}
use Rattle.hub_model.proofs.laws.the_greatest_same_result_is_told.Goals as goal

-- by the greatest of the listed commits that pass
pub returns-clause-told : goal.returns-clause-told
returns-clause-told c = known-greatest

pub returns-clause-none : goal.returns-clause-none
returns-clause-none c = none-known
