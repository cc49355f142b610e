use Rattle.std.proofs.Common.{◌≡◌, ◌++◌, List, [], ◌∷◌, length, map, append_assoc, append-nil, refl, ap, ◌∙◌, sym, arith}
use Rattle.std.specs.Vec.Iter.{into_iter_items}
use Rattle.query_normal.specs.Printed.{filter_of_printed}
use Rattle.query_normal.proofs.sorting.without_texts.Goals as goal

none_left : {A : Type 0} (xs : List A) → length xs ≡ 0 → xs ≡ []
none_left [] e = refl
none_left (x ∷ xs) e = absurd (omega arith)

-- an item goes from what is left to what is done
pub loop-item-preserved : goal.loop-item-preserved
loop-item-preserved c =
    let l = c.loop-item in
    let left = into_iter_items c.next.new.self in
    let taken = c.in-Some.ensures.steps.0 in
    record {
      done = rw c.in_ok-push.ensures.items (
          append_assoc l.all.items (c.in-Some.item.filter ∷ []) (map filter_of_printed left)
          ∙ ap (λ vs. l.all.items ++ map filter_of_printed vs) (sym taken)
          ∙ l.invariant.done);
      length = omega (arith, c.in-Some.ensures.steps.1, ap length taken);
    }

-- none is left
pub returns : goal.returns
returns c =
    let l = c.loop-item in
    let none : into_iter_items l.item-iterator ≡ [] = none_left (into_iter_items l.item-iterator) (sym l.invariant.length ∙ c.in-None.ensures.steps.0) in
    sym (append-nil l.all.items) ∙ ap (λ vs. l.all.items ++ map filter_of_printed vs) (sym none) ∙ l.invariant.done
