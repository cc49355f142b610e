use Rattle.std.proofs.Common.{◌∙◌, ap, sym, arith}
use Rattle.q_doc.specs.Tree.{depth}
use Rattle.q_doc.proofs.TreeLemmas.{item_depth, member_depth, items_end, members_end}
use Rattle.q_doc.proofs.order.+order_of.Goals as goal

-- an element is less deep than its array
pub order_of_items-order_of-order-requires : goal.order_of_items-order_of-order-requires
order_of_items-order_of-order-requires t c =
    (omega (arith, ap depth c.index-xs-i.is, item_depth c.args.xs.now c.loop-i.i c.index-xs-i.result (omega arith)), tt)

-- no two elements differ, so the lengths decide
pub order_of_items-returns : goal.order_of_items-returns
order_of_items-returns t c =
    c.cmp.ensures ∙ sym (items_end c.loop-i.i c.args.xs.now c.args.ys.now (omega arith)) ∙ sym c.loop-i.invariant

-- a member's value is less deep than its object
pub order_of_members-order_of-order-requires : goal.order_of_members-order_of-order-requires
order_of_members-order_of-order-requires t c =
    (omega (arith, member_depth c.args.xs.now c.loop-i.i c.index-xs-i-in-loop-i.result (omega arith)), tt)

-- no two members differ, so the lengths decide
pub order_of_members-returns : goal.order_of_members-returns
order_of_members-returns t c =
    c.cmp.ensures ∙ sym (members_end c.loop-i.i c.args.xs.now c.args.ys.now (omega arith)) ∙ sym c.loop-i.invariant
