use Rattle.std.proofs.Common.{◌≡◌, ◌∙◌, subst}
use Rattle.expiring_filter.specs.Filter.{Filter, is_held}
use Rattle.expiring_filter.proofs.FilterLemmas.{found_among}
use Rattle.expiring_filter.proofs.filter.CountingFilter.holds.Goals as goal

-- a key is held where the map finds it
pub returns : goal.returns
returns c =
    subst (λ (filter : Filter). c.contains.result ≡ is_held filter c.args.key.now) c.self.view_is
    (c.contains.ensures ∙ found_among _ c.args.key.now)
