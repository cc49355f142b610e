use Rattle.cache_model.proofs.CacheLemmas.{put_is}
use Rattle.cache_model.proofs.cache.store.Goals as goal

pub returns-clause-pairs : goal.returns-clause-pairs
returns-clause-pairs c =
    rw c.in_ok-put.ensures.entries (put_is c.args.key c.args.reply c.args.entries.now.entries c.args.entries.now.cap)
