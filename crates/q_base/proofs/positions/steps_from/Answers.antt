use Rattle.std.proofs.Common.{◌≡◌, ◌%◌, ◌^◌, ◌<◌, All, map, take, sym, subst, ◌∙◌, ap, List, ℕ, arith, length-set}
use Rattle.std.specs.List.{range_with_len}
use Rattle.q_base.specs.Positions.{position}
use Rattle.q_base.proofs.PositionLemmas.{sum_next, made_next, all_within, low_bits}
use Rattle.q_base.proofs.positions.steps_from.Goals as goal

-- the low bits of the sum are the next position
pub loop-i-preserved : goal.loop-i-preserved
loop-i-preserved c = record {
  sum = sum_next _ _ _ _ c.loop-i.invariant.sum;
  long = length-set _ _ _ ∙ c.loop-i.invariant.long;
  made =
      made_next c.args.log2_bits c.args.first c.args.step c.loop-i.i _ c.loop-i.values (omega arith) c.loop-i.invariant.made
      (low_bits c.loop-i.at c.args.log2_bits c.requires.bits ∙ ap (λ n. n % 2 ^ c.args.log2_bits) c.loop-i.invariant.sum);
}

-- each is a position
pub returns-clause-within : goal.returns-clause-within
returns-clause-within c =
    let last : c.loop-i.i ≡ c.args.count = omega arith in
    let made : take c.args.count c.loop-i.values ≡ map (position c.args.log2_bits c.args.first c.args.step) (range_with_len 0 c.loop-i.i) =
    ap (λ n. take n c.loop-i.values) (sym last) ∙ c.loop-i.invariant.made in
    subst (λ (xs : List ℕ). All (λ p. p < 2 ^ c.args.log2_bits) xs) (sym made) (all_within _ _ _ _)
