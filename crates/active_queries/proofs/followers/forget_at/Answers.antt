use Rattle.std.proofs.Common.{◌≡◌, false, IfSome, subst, sym, ap, ◌∙◌}
use Rattle.std.specs.Map.{lookup}
use Rattle.indexmap.specs.IndexMap.{set_value_at}
use Rattle.query_normal.specs.declared.key.KeyShape.{KeyShape}
use Rattle.query_normal.specs.Keys.{same_key}
use Rattle.active_queries.specs.Following.{Following, AreAbove}
use Rattle.active_queries.specs.Queries.{all_forgotten, has_changed}
use Rattle.active_queries.proofs.ListedLemmas.{forgotten-again, forgotten-fewer, forgotten-there, forgotten-still}
use Rattle.active_queries.proofs.followers.forget_at.Goals as goal

pub returns-in-Some-clause-same : goal.returns-in-Some-clause-same
returns-in-Some-clause-same c =
    ap (λ (a : Following). all_forgotten c.args.to (set_value_at c.args.held.now.entries c.in-Some.index a)) c.forget.ensures
    ∙ forgotten-again c.args.to c.args.held.now.entries c.in-Some.index c.index_mut.result.now c.index_mut.ensures.value

pub returns-in-Some-clause-fewer : goal.returns-in-Some-clause-fewer
returns-in-Some-clause-fewer c =
    subst (λ (a : Following). (other : KeyShape) → has_changed (lookup (same_key other) c.args.held.now.entries) ≡ false → has_changed (lookup (same_key other) (set_value_at c.args.held.now.entries c.in-Some.index a)) ≡ false) (sym c.forget.ensures)
    (forgotten-fewer c.args.to c.args.key.now c.args.held.now.entries c.in-Some.index c.index_mut.result.now (sym c.in-Some.ensures.index) c.index_mut.ensures.value)

pub returns-in-Some-clause-above : goal.returns-in-Some-clause-above
returns-in-Some-clause-above c =
    subst (λ (a : Following). IfSome (lookup (same_key c.args.key.now) (set_value_at c.args.held.now.entries c.in-Some.index a)) (λ x. AreAbove c.args.to x.changed)) (sym c.forget.ensures)
    (forgotten-there c.args.to c.args.key.now c.args.held.now.entries c.in-Some.index c.index_mut.result.now (sym c.in-Some.ensures.index))

pub returns-in-Some-clause-still : goal.returns-in-Some-clause-still
returns-in-Some-clause-still c =
    subst
    (λ (a : Following). (other : KeyShape) → IfSome (lookup (same_key other) c.args.held.now.entries) (λ x. AreAbove c.args.to x.changed) → IfSome (lookup (same_key other) (set_value_at c.args.held.now.entries c.in-Some.index a)) (λ x. AreAbove c.args.to x.changed))
    (sym c.forget.ensures)
    (forgotten-still c.args.to c.args.key.now c.args.held.now.entries c.in-Some.index c.index_mut.result.now (sym c.in-Some.ensures.index))
