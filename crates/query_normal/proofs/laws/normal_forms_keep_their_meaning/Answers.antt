use Rattle.query_normal.proofs.NormalMeaning.{normal_holds}
use Rattle.std.proofs.Common.{false}
use Rattle.query_normal.proofs.laws.normal_forms_keep_their_meaning.Goals as goal

pub returns : goal.returns
returns c = λ f t. normal_holds t false f
