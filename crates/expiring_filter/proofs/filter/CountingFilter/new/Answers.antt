use Rattle.std.proofs.Common.{◌/◌, replicate, ap, ◌∙◌}
use Rattle.expiring_map.specs.Map.{Expiring}
use Rattle.expiring_filter.proofs.FilterLemmas.{counted_first, size_shifted, eights}
use Rattle.expiring_filter.proofs.filter.CountingFilter.new.Goals as goal

-- nothing is held at first
pub invariant_of-result : goal.invariant_of-result
invariant_of-result c =
    let shifted = size_shifted c.args.log2_bits c.requires.most in
    let counts = c.in_ok-counts.ensures.items_if_clones_equal (λ y e. e) ∙ ap (λ n. replicate n 0) shifted in
    let bits = c.in_ok-bits.ensures.items_if_clones_equal (λ y e. e) ∙ ap (λ n. replicate (n / 8) 0) shifted in
    record {
      counted =
          counted_first _ _ _ _ _ c.requires.most c.requires.few (ap (λ (m : Expiring (Unit {0})). m.entries) c.new.ensures) counts bits
          (eights c.args.log2_bits c.requires.least);
    }
