-- Steps that are drawn, one after another.
use Rattle.std.proofs.Common.{◌≡◌, ℕ, suc, List, [], ◌∷◌, ◌++◌, ap, sym, ◌∙◌, append_assoc}
use Rattle.world_core.specs.declared.step.Step.{Step}
use Rattle.world_core.specs.Steps.{next_step, steps_of}

-- one more is drawn
pub steps_on : (xs : List Step) (s : Step) (n m k j : ℕ) → (s, m) ≡ next_step n → k ≡ suc j → (xs ++ s ∷ []) ++ steps_of j m ≡ xs ++ steps_of k n
steps_on xs s n m k j e f =
    append_assoc xs (s ∷ []) (steps_of j m)
    ∙ ap (λ (p : Step × ℕ). xs ++ p.0 ∷ steps_of j p.1) e
    ∙ ap (λ (i : ℕ). xs ++ steps_of i n) (sym f)
