use Rattle.std.proofs.Common.{◌≡◌, ℕ, List, ◌++◌, Some, take, drop, map, slice_get, subst, sym, ap, ◌∙◌, add-one}
use Rattle.indexmap.specs.IndexMap.{set_value_at}
use Rattle.query_normal.specs.declared.key.KeyShape.{KeyShape}
use Rattle.active_queries.specs.Following.{Following, lifted}
use Rattle.active_queries.specs.Queries.{all_lifted}
use Rattle.active_queries.proofs.LiftLemmas.{settled-written}
use Rattle.active_queries.proofs.followers.settle_each.Goals as goal

-- one query more has its own
pub loop-index-preserved : goal.loop-index-preserved
loop-index-preserved c =
    let i = c.loop-index.index in
    let held = c.loop-index.held.entries in
    let old = c.args.held.now.entries in
    let there = subst (λ (es : List (KeyShape × Following)). slice_get (map (λ e. e.1) es) i ≡ Some c.index_mut.result.now) c.loop-index.invariant.entries c.index_mut.ensures.value in
    record {
      entries =
          ap (set_value_at held i) c.settle.ensures
          ∙ ap (λ (es : List (KeyShape × Following)). set_value_at es i (lifted c.args.seen c.args.from c.index_mut.result.now)) c.loop-index.invariant.entries
          ∙ settled-written c.args.seen c.args.from i old c.index_mut.result.now there
          ∙ ap (λ (n : ℕ). all_lifted c.args.seen c.args.from (take n old) ++ drop n old) (sym (add-one i));
      end = c.loop-index.invariant.end;
      spare = c.loop-index.invariant.spare;
    }
