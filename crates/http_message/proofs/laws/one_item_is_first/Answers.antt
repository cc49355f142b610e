use Rattle.http_message.proofs.SplitLemmas.{item_unique}
use Rattle.http_message.proofs.laws.one_item_is_first.Goals as goal

pub returns : goal.returns
returns c = item_unique
