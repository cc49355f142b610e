use Rattle.std.proofs.Common.{rules}
use Rattle.std.specs.Prelude.{not}
use Rattle.std.proofs.lemmas.Fn.{filter_same}
use Rattle.query_normal.specs.Normal.{is_constant}
use Rattle.query_normal.proofs.filters.without_constant.Goals as goal

-- the closure is the test
pub returns : goal.returns
returns c = filter_same _ (λ f. not (is_constant c.args.value f)) _ (λ x b f' r. search rules) _ _ c.retain.ensures.filtered
