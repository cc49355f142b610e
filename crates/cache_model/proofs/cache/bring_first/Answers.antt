use Rattle.cache_model.proofs.CacheLemmas.{promoted_is, promoted_holds}
use Rattle.cache_model.proofs.cache.bring_first.Goals as goal

pub returns-clause-pairs : goal.returns-clause-pairs
returns-clause-pairs c = rw c.promote.ensures.entries (promoted_is c.args.key.now c.args.entries.now.entries)

pub returns-clause-held : goal.returns-clause-held
returns-clause-held c = rw c.promote.ensures.entries (promoted_holds c.args.key.now c.args.entries.now.entries)
