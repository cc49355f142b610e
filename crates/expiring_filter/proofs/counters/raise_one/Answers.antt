use Rattle.std.proofs.Common.{true, sym, ◌∙◌, arith}
use Rattle.std.proofs.lemmas.Bool.{lt-ltb}
use Rattle.expiring_filter.proofs.CountLemmas.{byte_within, flat_written, flat_kept}
use Rattle.expiring_filter.proofs.counters.raise_one.Goals as goal

-- there is a bit for each counter
pub set-requires : goal.set-requires
set-requires c = byte_within _ _ _ c.requires.flat c.requires.within

-- the counter leaves 0, or becomes 0
pub returns-then-before-eq0-clause-flat : goal.returns-then-before-eq0-clause-flat
returns-then-before-eq0-clause-flat c = flat_written _ _ _ _ _ true c.requires.flat (lt-ltb 0 _ (omega arith)) c.set.ensures.bits

-- the bit stays
pub returns-else-before-eq0-clause-flat : goal.returns-else-before-eq0-clause-flat
returns-else-before-eq0-clause-flat c = flat_kept _ _ _ _ c.requires.flat (lt-ltb 0 _ (omega arith) ∙ sym (lt-ltb 0 _ (omega (arith, c.if-before-eq0.false))))
