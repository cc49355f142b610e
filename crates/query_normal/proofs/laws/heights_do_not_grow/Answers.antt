use Rattle.query_normal.proofs.SizeForms.{normal_low}
use Rattle.std.proofs.Common.{false}
use Rattle.query_normal.proofs.laws.heights_do_not_grow.Goals as goal

pub returns : goal.returns
returns c = normal_low false
