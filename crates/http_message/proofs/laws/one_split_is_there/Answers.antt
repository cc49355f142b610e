use Rattle.http_message.proofs.SplitLemmas.{split_unique}
use Rattle.http_message.proofs.laws.one_split_is_there.Goals as goal

pub returns : goal.returns
returns c = split_unique
