use Rattle.hub_model.proofs.Results.{result_at-append}
use Rattle.hub_model.proofs.laws.result_of_prefix.Goals as goal

-- the definition goes down from the commit
pub returns : goal.returns
returns c = result_at-append
