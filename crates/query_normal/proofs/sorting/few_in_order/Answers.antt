use Rattle.std.proofs.Common.{◌≡◌, List, [], ◌∷◌, length, refl, ap, ◌∙◌, sym, arith}
use Rattle.std.specs.List.{fold}
use Rattle.std.specs.Vec.Iter.{into_iter_items}
use Rattle.query_core.specs.Window.{placed}
use Rattle.query_normal.specs.Normal.{text_cmp}
use Rattle.query_normal.proofs.sorting.few_in_order.Goals as goal

none_left : {A : Type 0} (xs : List A) → length xs ≡ 0 → xs ≡ []
none_left [] e = refl
none_left (x ∷ xs) e = absurd (omega arith)

-- a filter goes from what is left to what is done
pub loop-filter-preserved : goal.loop-filter-preserved
loop-filter-preserved c =
    let l = c.loop-filter in
    let taken = c.in-Some.ensures.steps.0 in
    record {
      done = rw c.in_ok-put_in_order.ensures (ap (fold (placed text_cmp) l.sorted.items) (sym taken) ∙ l.invariant.done);
      length = omega (arith, c.in-Some.ensures.steps.1, ap length taken);
    }

-- none is left
pub returns : goal.returns
returns c =
    let l = c.loop-filter in
    let none : into_iter_items l.filter-iterator ≡ [] = none_left (into_iter_items l.filter-iterator) (sym l.invariant.length ∙ c.in-None.ensures.steps.0) in
    ap (fold (placed text_cmp) l.sorted.items) (sym none) ∙ l.invariant.done
