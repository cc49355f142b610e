use Rattle.hub_model.proofs.Histories.{clock-greatest}
use Rattle.hub_model.proofs.laws.clock_is_greatest.Goals as goal

-- each entry moves the clock to the greater of both
pub returns : goal.returns
returns c = clock-greatest
