use Rattle.std.proofs.Common.{◌≡◌, true, ℕ, List, IfSome, subst, ap, ◌∙◌}
use Rattle.std.specs.List.{list_any}
use Rattle.std.specs.Map.{lookup}
use Rattle.query_normal.specs.declared.key.KeyShape.{KeyShape}
use Rattle.query_normal.specs.Keys.{same_key}
use Rattle.active_queries.specs.Following.{AreAbove}
use Rattle.active_queries.specs.Queries.{all_lifted}
use Rattle.active_queries.proofs.ListedLemmas.{all-forgotten}
use Rattle.active_queries.proofs.followers.Followers.forget.Goals as goal

-- those that list a commit forget, and the others have none
pub returns-clause-entries : goal.returns-clause-entries
returns-clause-entries c = rw (← c.self.view_is)
    (ap (λ (n : ℕ). all_lifted c.self.inside.seen n c.forget_each.new.held.entries) c.max-self-inside.ensures
    ∙ all-forgotten c.args.to c.self.inside.seen c.self.inside.from c.self.inside.held.entries c.forget_each.new.held.entries c.self.inside.listed.keys c.forget_each.ensures.same c.self.invariant.listed (rw (← c.self.view_is) at c.len.ensures.once) c.forget_each.ensures.fewer
    (subst (λ (keys : List KeyShape). (key : KeyShape) → list_any (same_key key) keys ≡ true → IfSome (lookup (same_key key) c.forget_each.new.held.entries) (λ a. AreAbove c.args.to a.changed)) c.as_slice.ensures.keys c.forget_each.ensures.above))
