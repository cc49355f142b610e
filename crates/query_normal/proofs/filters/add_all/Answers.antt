use Rattle.std.proofs.Common.{◌≡◌, ◌++◌, List, [], ◌∷◌, length, append_assoc, append-nil, refl, ap, ◌∙◌, sym, arith}
use Rattle.std.specs.Vec.Iter.{into_iter_items}
use Rattle.query_normal.proofs.filters.add_all.Goals as goal

none_left : {A : Type 0} (xs : List A) → length xs ≡ 0 → xs ≡ []
none_left [] e = refl
none_left (x ∷ xs) e = absurd (omega arith)

-- an item goes from what is left to what is done
pub loop-operand-preserved : goal.loop-operand-preserved
loop-operand-preserved c =
    let l = c.loop-operand in
    let left = into_iter_items c.next.new.self in
    let taken = c.in-Some.ensures.steps.0 in
    record {
      done = rw c.in_ok-push.ensures.items (append_assoc l.parts.items (c.in-Some.operand ∷ []) left ∙ ap (λ vs. l.parts.items ++ vs) (sym taken) ∙ l.invariant.done);
      length = omega (arith, c.in-Some.ensures.steps.1, ap length c.in-Some.ensures.steps.0);
    }

-- none is left
pub returns : goal.returns
returns c =
    let l = c.loop-operand in
    let none : into_iter_items l.operand-iterator ≡ [] = none_left (into_iter_items l.operand-iterator) (sym l.invariant.length ∙ c.in-None.ensures.steps.0) in
    sym (append-nil l.parts.items) ∙ ap (λ vs. l.parts.items ++ vs) (sym none) ∙ l.invariant.done
