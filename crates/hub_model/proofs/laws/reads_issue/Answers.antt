use Rattle.hub_model.proofs.Issues.{live-read}
use Rattle.hub_model.proofs.laws.reads_issue.Goals as goal

-- a copy with a lifetime is unexpired when it is issued
pub returns : goal.returns
returns c = live-read
