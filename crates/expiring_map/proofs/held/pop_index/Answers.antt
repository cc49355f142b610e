use Rattle.std.proofs.Common.{refl, arith}
use Rattle.expiring_map.proofs.HeldLemmas.{covered_popped, covered_same, covered_but, earliest_at, overdue_popped, all_later}
use Rattle.expiring_map.proofs.held.pop_index.Goals as goal

-- the index that came out is the one that may not be covered
pub leaves-requires-clause-covered : goal.leaves-requires-clause-covered
leaves-requires-clause-covered g c = covered_popped _ _ _ c.in-Some.due c.in-Some.index c.in-Some.ensures.popped c.loop-due.invariant.covered

pub returns-then-leaves-clause-earliest : goal.returns-then-leaves-clause-earliest
returns-then-leaves-clause-earliest g c =
    earliest_at c.args.moment c.in-Some.due c.in-Some.index _ _ c.loop-due.invariant.covered c.in-Some.ensures.first c.in-Some.ensures.past (c.leaves.ensures.past c.if-leaves.true)

pub returns-then-leaves-clause-others : goal.returns-then-leaves-clause-others
returns-then-leaves-clause-others g c =
    covered_but _ _ _ c.in-Some.index (c.leaves.ensures.same c.if-leaves.true) (covered_popped _ _ _ c.in-Some.due c.in-Some.index c.in-Some.ensures.popped c.loop-due.invariant.covered)

-- what was put in again is due later
pub loop-due-smaller : goal.loop-due-smaller
loop-due-smaller g c =
    let popped = overdue_popped c.args.moment c.in-Some.due c.in-Some.index _ _ c.in-Some.ensures.popped in
    let less = c.leaves.ensures.later c.args.moment c.if-leaves.false c.in-Some.ensures.past in
    omega (arith, popped, less)

-- no index is due any more
pub returns-clause-later : goal.returns-clause-later
returns-clause-later g c = all_later c.args.moment _ _ (covered_same _ _ _ _ refl c.in_default.ensures.same c.loop-due.invariant.covered) c.in_default.ensures.later

pub returns-clause-covered : goal.returns-clause-covered
returns-clause-covered g c = covered_same _ _ _ _ refl c.in_default.ensures.same c.loop-due.invariant.covered
