use Rattle.http_message.proofs.SplitLemmas.{one_expectation}
use Rattle.http_message.proofs.laws.one_expectation_holds.Goals as goal

pub returns : goal.returns
returns c = one_expectation
