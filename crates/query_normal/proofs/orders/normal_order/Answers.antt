use Rattle.std.proofs.Common.{◌≡◌, ◌++◌, List, [], ◌∷◌, length, append-nil, refl, ap, ◌∙◌, sym, arith, rules}
use Rattle.std.specs.Vec.Iter.{into_iter_items}
use Rattle.std.specs.List.{filter}
use Rattle.query_normal.specs.Normal.{normal_order}
use Rattle.query_normal.proofs.OrderForms.{new_to, order_begun, one_item_more}
use Rattle.query_normal.proofs.orders.normal_order.Goals as goal

none_left : {A : Type 0} (xs : List A) → length xs ≡ 0 → xs ≡ []
none_left [] e = refl
none_left (x ∷ xs) e = absurd (omega arith)

-- no item was read
pub loop-item-init : goal.loop-item-init
loop-item-init c =
    let items = into_iter_items c.into_iter-item-iterator.result in
    record {
      done = rw c.in_ok-kept.ensures.items (let all : items ≡ c.args.order = search rules in order_begun items ∙ ap normal_order all);
      length = search rules;
    }

-- an item goes from what is left to what is done
pub loop-item-preserved : goal.loop-item-preserved
loop-item-preserved c =
    let l = c.loop-item in
    let left = into_iter_items c.next.new.self in
    let taken = c.in-Some.ensures.steps.0 in
    record {
      done = rw c.in_ok-add_item.ensures (
          one_item_more l.kept.items c.in-Some.item left
          ∙ ap (λ vs. l.kept.items ++ filter (new_to l.kept.items) (normal_order vs)) (sym taken)
          ∙ l.invariant.done);
      length = omega (arith, c.in-Some.ensures.steps.1, ap length c.in-Some.ensures.steps.0);
    }

-- none is left
pub returns : goal.returns
returns c =
    let l = c.loop-item in
    let none : into_iter_items l.item-iterator ≡ [] = none_left (into_iter_items l.item-iterator) (sym l.invariant.length ∙ c.in-None.ensures.steps.0) in
    c.of.ensures ∙ sym (append-nil l.kept.items) ∙ ap (λ vs. l.kept.items ++ filter (new_to l.kept.items) (normal_order vs)) (sym none) ∙ l.invariant.done
