use Rattle.http_front.proofs.ReadLemmas.{one_text}
use Rattle.http_front.proofs.laws.replies_have_one_text.Goals as goal

pub returns : goal.returns
returns c = one_text
