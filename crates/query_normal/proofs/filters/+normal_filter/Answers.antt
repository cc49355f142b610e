use Rattle.std.proofs.Common.{◌≡◌, ◌++◌, List, [], ◌∷◌, length, append_assoc, append-nil, refl, ap, ◌∙◌, sym, arith}
use Rattle.std.specs.Vec.Iter.{into_iter_items}
use Rattle.query_core.specs.Filters.{operands_height, operands_of}
use Rattle.query_normal.specs.Normal.{normal_filter, normal_parts, parts_of}
use Rattle.query_normal.proofs.filters.+normal_filter.Goals as goal

none_left : {A : Type 0} (xs : List A) → length xs ≡ 0 → xs ≡ []
none_left [] e = refl
none_left (x ∷ xs) e = absurd (omega arith)

-- an operand has a smaller height than the filter
pub normal_parts-normal_filter-requires : goal.normal_parts-normal_filter-requires
normal_parts-normal_filter-requires t c =
    (omega (arith, c.loop-operand.invariant.heights, ap (λ fs. operands_height (operands_of fs)) c.in-Some.ensures.steps.0), tt)

-- an operand goes from what is left to what is done
pub normal_parts-loop-operand-preserved : goal.normal_parts-loop-operand-preserved
normal_parts-loop-operand-preserved t c =
    let l = c.loop-operand in
    let left = into_iter_items c.next.new.self in
    let taken = c.in-Some.ensures.steps.0 in
    let own = parts_of c.args.is_and (normal_filter c.args.negative c.in-Some.operand) in
    let others = normal_parts c.args.negative c.args.is_and (operands_of left) in
    record {
      done = rw (c.in_ok-add_parts.ensures, c.in_ok-part.ensures) (
          append_assoc l.parts.items own others
          ∙ ap (λ fs. l.parts.items ++ normal_parts c.args.negative c.args.is_and (operands_of fs)) (sym taken)
          ∙ l.invariant.done);
      heights = omega (arith, l.invariant.heights, ap (λ fs. operands_height (operands_of fs)) taken);
      length = omega (arith, c.in-Some.ensures.steps.1, ap length taken);
    }

-- none is left
pub normal_parts-returns : goal.normal_parts-returns
normal_parts-returns t c =
    let l = c.loop-operand in
    let none : into_iter_items l.operand-iterator ≡ [] = none_left (into_iter_items l.operand-iterator) (sym l.invariant.length ∙ c.in-None.ensures.steps.0) in
    sym (append-nil l.parts.items) ∙ ap (λ fs. l.parts.items ++ normal_parts c.args.negative c.args.is_and (operands_of fs)) (sym none) ∙ l.invariant.done
