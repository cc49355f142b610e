-- the text shows one number
use Rattle.std.proofs.Common.{arith}
use Rattle.command_line.proofs.WordLemmas.{same_number}
use Rattle.command_line.proofs.numbers.number_within.Goals as goal

pub returns-then-number-least-clause-none : goal.returns-then-number-least-clause-none
returns-then-number-least-clause-none c = λ n is low high.
    let same = same_number _ _ n c.in-Some.ensures.some.0 is c.in-Some.ensures.some.1 (omega (arith, high, c.ranges.most.fits)) in
    absurd (omega (arith, same, low, c.if-number-least.true))

pub returns-then-number-most-clause-none : goal.returns-then-number-most-clause-none
returns-then-number-most-clause-none c = λ n is low high.
    let same = same_number _ _ n c.in-Some.ensures.some.0 is c.in-Some.ensures.some.1 (omega (arith, high, c.ranges.most.fits)) in
    absurd (omega (arith, same, high, c.if-number-most.true))
