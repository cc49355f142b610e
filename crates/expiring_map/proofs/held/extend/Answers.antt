use Rattle.std.proofs.Common.{ℕ, ap, ◌∙◌}
use Rattle.indexmap.specs.IndexMap.{set_value_at}
use Rattle.indexmap.proofs.CallerLemmas.{index_map_len-with_value_at}
use Rattle.expiring_map.proofs.HeldLemmas.{extended_is}
use Rattle.expiring_map.proofs.held.extend.Goals as goal

pub returns-clause-entries : goal.returns-clause-entries
returns-clause-entries g c =
    ap (λ (n : ℕ). set_value_at c.args.held.now.entries c.args.index (record { until = n; value = c.index_mut-timed.result.now.value })) c.max-timed.ensures
    ∙ extended_is c.args.held.now.entries c.args.index c.args.until c.index_mut-timed.result.now c.index_mut-timed.ensures.value

pub returns-clause-len : goal.returns-clause-len
returns-clause-len g c = index_map_len-with_value_at c.args.held.now c.args.index (record { until = c.max-timed.result; value = c.index_mut-timed.result.now.value })
