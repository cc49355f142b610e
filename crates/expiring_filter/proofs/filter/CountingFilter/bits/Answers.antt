use Rattle.std.proofs.Common.{◌≡◌, ap, ◌∙◌, subst}
use Rattle.query_normal.specs.Bits.{flat_bits}
use Rattle.expiring_filter.specs.Filter.{Filter, bits_of}
use Rattle.expiring_filter.proofs.FilterLemmas.{bits_counted}
use Rattle.expiring_filter.proofs.filter.CountingFilter.bits.Goals as goal

-- the bits are those of the counts
pub returns : goal.returns
returns c =
    subst (λ (filter : Filter). flat_bits c.as_slice.result.now ≡ bits_of filter) c.self.view_is
    (ap flat_bits c.as_slice.ensures.value ∙ bits_counted c.self.invariant.counted)
