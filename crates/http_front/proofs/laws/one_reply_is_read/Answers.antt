use Rattle.http_front.proofs.ReadLemmas.{one_reply}
use Rattle.http_front.proofs.laws.one_reply_is_read.Goals as goal

pub returns : goal.returns
returns c = one_reply
