use Rattle.std.proofs.Common.{ℕ, refl, rules, nat_lt}
use Rattle.std.proofs.lemmas.Fn.{filter_same}
use Rattle.active_queries.proofs.query.ActiveQuery.forget.Goals as goal

-- those above the commit are kept
pub returns : goal.returns
returns c =
    let kept = filter_same _ (λ (n : ℕ). nat_lt c.args.to n) _ (λ n b g called. search rules) _ _ c.retain.ensures.filtered in
    rw (← c.self.view_is, kept, c.max-self-inside.ensures) refl
