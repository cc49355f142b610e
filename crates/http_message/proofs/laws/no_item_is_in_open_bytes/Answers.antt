use Rattle.http_message.proofs.SplitLemmas.{open_no_item}
use Rattle.http_message.proofs.laws.no_item_is_in_open_bytes.Goals as goal

pub returns : goal.returns
returns c = open_no_item
