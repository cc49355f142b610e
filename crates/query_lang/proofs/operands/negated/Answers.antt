-- One more negation is made in each turn.
use Rattle.std.proofs.Common.{◌≡◌, ◌+◌, ◌-◌, suc, sym, ap, ◌∙◌, arith}
use Rattle.query_core.specs.Filters.{negated}
use Rattle.query_lang.specs.FilterReading.{negated_times}
use Rattle.query_lang.proofs.operands.negated.Goals as goal

pub nots-preserved : goal.nots-preserved
nots-preserved c =
    let left : c.args.nots - c.nots.counter ≡ suc (c.args.nots - (c.nots.counter + 1)) = omega arith in
    c.nots.invariant ∙ ap (λ n. negated_times n c.nots.filter) left ∙ ap (λ f. negated_times (c.args.nots - (c.nots.counter + 1)) (negated f)) (sym c.in_ok-new.ensures.ok)
