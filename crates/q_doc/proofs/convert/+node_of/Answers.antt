use Rattle.std.proofs.Common.{◌≡◌, List, [], ◌∷◌, length, option_map, string_bytes, refl, ap, ◌∙◌, sym, arith}
use Rattle.std.specs.Vec.Iter.{into_iter_items}
use Rattle.serde_json.specs.View.{view, items_view, members_view}
use Rattle.q_doc.specs.Found.{whole_items, whole_members}
use Rattle.q_doc.proofs.ConvertLemmas.{items_before, one_more_item, items_done, ItemsHaveTexts-push, members_before, one_more_member, members_done, MembersHaveTexts-push}
use Rattle.q_doc.proofs.convert.+node_of.Goals as goal

none_left : {A : Type 0} (xs : List A) → length xs ≡ 0 → xs ≡ []
none_left [] e = refl
none_left (x ∷ xs) e = absurd (omega arith)

-- the member goes from what is left to what is done
pub member_nodes_of-loop-key-preserved : goal.member_nodes_of-loop-key-preserved
member_nodes_of-loop-key-preserved t c =
    let l = c.loop-key in
    let taken = ap (λ es. option_map (members_before l.nodes.items) (whole_members (members_view es))) c.in-Some.ensures.steps in
    let key = string_bytes c.in-Some.key in
    let more = one_more_member l.nodes.items key c.in_ok-node.node (view c.in-Some.value) (whole_members (members_view c.next.new.self)) c.in_ok-node.ensures.ok in
    record {
      whole = rw (c.in_ok-push.ensures.items, c.in_ok-from_string.ensures.value) (l.invariant.whole ∙ taken ∙ more);
      texts = rw c.in_ok-push.ensures.items (MembersHaveTexts-push l.nodes.items _ _ l.invariant.texts c.in_ok-from_string.ensures.utf8 c.in_ok-node.ensures.texts);
    }

-- no member is left
pub member_nodes_of-returns-clause-ok : goal.member_nodes_of-returns-clause-ok
member_nodes_of-returns-clause-ok t c =
    let l = c.loop-key in
    let over = ap (λ es. option_map (members_before l.nodes.items) (whole_members (members_view es))) c.in-None.ensures.steps.0 in
    members_done l.nodes.items _ (l.invariant.whole ∙ over)

-- the element goes from what is left to what is done
pub nodes_of-loop-item-preserved : goal.nodes_of-loop-item-preserved
nodes_of-loop-item-preserved t c =
    let l = c.loop-item in
    let left = into_iter_items c.next.new.self in
    let taken = ap (λ vs. option_map (items_before l.nodes.items) (whole_items (items_view vs))) c.in-Some.ensures.steps.0 in
    let more = one_more_item l.nodes.items c.in_ok-node_of.field-0 (view c.in-Some.item) (whole_items (items_view left)) c.in_ok-node_of.ensures.ok in
    record {
      whole = rw c.in_ok-push.ensures.items (l.invariant.whole ∙ taken ∙ more);
      texts = rw c.in_ok-push.ensures.items (ItemsHaveTexts-push l.nodes.items _ l.invariant.texts c.in_ok-node_of.ensures.texts);
      length = omega (arith, c.in-Some.ensures.steps.1, ap length c.in-Some.ensures.steps.0);
    }

-- no element is left
pub nodes_of-returns-clause-ok : goal.nodes_of-returns-clause-ok
nodes_of-returns-clause-ok t c =
    let l = c.loop-item in
    let none : into_iter_items l.item-iterator ≡ [] = none_left (into_iter_items l.item-iterator) (sym l.invariant.length ∙ c.in-None.ensures.steps.0) in
    let over = ap (λ vs. option_map (items_before l.nodes.items) (whole_items (items_view vs))) none in
    items_done l.nodes.items _ (l.invariant.whole ∙ over)
