use Rattle.std.proofs.Common.{ℕ, List, map, sym, subst}
use Rattle.std.specs.List.{IsDistinct}
use Rattle.query_normal.specs.declared.key.KeyShape.{KeyShape}
use Rattle.query_normal.specs.Keys.{same_key}
use Rattle.expiring_filter.specs.Filter.{Filter}
use Rattle.expiring_filter.proofs.FilterLemmas.{keys_shown}
use Rattle.expiring_filter.proofs.filter.CountingFilter.keys.Goals as goal

-- the map has each key once
pub returns-clause-once : goal.returns-clause-once
returns-clause-once c =
    subst (λ (f : Filter). IsDistinct same_key (map (λ (e : KeyShape × ℕ). e.0) f.held)) c.self.view_is
    (subst (λ (ks : List KeyShape). IsDistinct same_key ks) (sym (keys_shown c.self.inside.keys.entries)) c.len.ensures.once)
