use Rattle.std.proofs.Common.{ℕ, ◌≤◌, sym, subst, arith}
use Rattle.issued_expiries.proofs.MaximaLemmas.{step_up, joined, parted}
use Rattle.issued_expiries.proofs.maxima.greatest_between.Goals as goal

pub loop-low-preserved : goal.loop-low-preserved
loop-low-preserved c =
    let within = c.loop-low.invariant.high in
    let step = λ (n : ℕ). step_up c.args.tree.now c.loop-low.low c.loop-low.high n c.requires.maxima (c.loop-low.invariant.low c.loop-low-test.true) c.loop-low-test.true within in
    record {
      low = λ some. (let least = c.loop-low.invariant.low c.loop-low-test.true in omega (arith, least));
      high = omega (arith, within);
      bound = λ n. (
        λ all. (
            let was = (c.loop-low.invariant.bound n).0 all in
            let now = (step n).0 was.1 in (
              joined c.loop-low.greatest c.first_if_odd.result c.last_if_odd.result c.max.result c.max-greatest.result n c.max.ensures c.max-greatest.ensures was.0
                  (subst (λ (k : ℕ). k ≤ n) (sym c.first_if_odd.ensures) now.0) (subst (λ (k : ℕ). k ≤ n) (sym c.last_if_odd.ensures) now.1),
              now.2,
            )),
        λ parts. (
            let each = parted c.loop-low.greatest c.first_if_odd.result c.last_if_odd.result c.max.result c.max-greatest.result n c.max.ensures c.max-greatest.ensures parts.0 in
            (c.loop-low.invariant.bound n).1 (
              each.0,
              (step n).1 (subst (λ (k : ℕ). k ≤ n) c.first_if_odd.ensures each.1, subst (λ (k : ℕ). k ≤ n) c.last_if_odd.ensures each.2, parts.1),
            )),
      );
    }

pub returns : goal.returns
returns c = λ n. (
  λ all. ((c.loop-low.invariant.bound n).0 all).0,
  λ most. (c.loop-low.invariant.bound n).1 (most, λ i from below. absurd (omega (arith, from, below, c.loop-low-test.false))),
)
