use Rattle.std.proofs.Common.{false, sym, ◌∙◌, arith}
use Rattle.std.proofs.lemmas.Bool.{lt-ltb, le-ltb}
use Rattle.expiring_filter.proofs.CountLemmas.{byte_within, flat_written, flat_kept}
use Rattle.expiring_filter.proofs.counters.lower_one.Goals as goal

-- there is a bit for each counter
pub clear-requires : goal.clear-requires
clear-requires c = byte_within _ _ _ c.requires.flat c.requires.within

-- the counter leaves 0, or becomes 0
pub returns-then-after-eq0-clause-flat : goal.returns-then-after-eq0-clause-flat
returns-then-after-eq0-clause-flat c = flat_written _ _ _ _ _ false c.requires.flat (le-ltb 0 _ (omega (arith, c.if-after-eq0.true))) c.clear.ensures.bits

-- the bit stays
pub returns-else-after-eq0-clause-flat : goal.returns-else-after-eq0-clause-flat
returns-else-after-eq0-clause-flat c = flat_kept _ _ _ _ c.requires.flat (lt-ltb 0 _ (omega (arith, c.if-after-eq0.false)) ∙ sym (lt-ltb 0 _ c.requires.some))
