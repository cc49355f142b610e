use Rattle.query_normal.specs.SameKey.{same_key-Decides}
use Rattle.query_normal.proofs.laws.same_key_is_equality.Goals as goal

pub returns : goal.returns
returns c = same_key-Decides
