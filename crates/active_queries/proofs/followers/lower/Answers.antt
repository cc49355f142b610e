use Rattle.std.proofs.Common.{List, subst, sym, ◌∙◌}
use Rattle.query_normal.specs.declared.key.KeyShape.{KeyShape}
use Rattle.active_queries.specs.Following.{Following}
use Rattle.active_queries.specs.Queries.{AreListed}
use Rattle.active_queries.proofs.LiftLemmas.{lifted-none}
use Rattle.active_queries.proofs.ListedLemmas.{listed-lifted}
use Rattle.active_queries.proofs.followers.lower.Goals as goal

pub returns-clause-same : goal.returns-clause-same
returns-clause-same c = lifted-none c.settle_each.new.held.entries ∙ c.settle_each.ensures.entries

pub returns-clause-listed : goal.returns-clause-listed
returns-clause-listed c = λ listed are. subst (λ (es : List (KeyShape × Following)). AreListed es listed) (sym c.settle_each.ensures.entries) (listed-lifted c.args.seen.now c.args.from.now c.args.held.now.entries listed are)
