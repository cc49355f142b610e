use Rattle.std.proofs.Common.{List, ap, ◌∙◌, rules}
use Rattle.std.specs.List.{list_any}
use Rattle.std.specs.Map.{lookup}
use Rattle.std.proofs.lemmas.Fn.{filter_same}
use Rattle.hub_model.proofs.KeySets.{among-filter}
use Rattle.query_normal.specs.declared.key.KeyShape.{KeyShape}
use Rattle.query_normal.specs.Keys.{same_key}
use Rattle.active_queries.specs.Queries.{has_changed}
use Rattle.active_queries.proofs.followers.forget_unchanged.Goals as goal

-- those whose query lists a changed commit are kept
pub returns : goal.returns
returns c = λ key.
    let kept = filter_same _ (λ (k : KeyShape). has_changed (lookup (same_key k) c.args.held.now.entries)) _ (λ n b g called. search rules) _ _ c.retain.ensures.filtered in
    ap (λ (keys : List KeyShape). list_any (same_key key) keys) kept
    ∙ among-filter (λ (k : KeyShape). has_changed (lookup (same_key k) c.args.held.now.entries)) c.args.listed.now.keys key
