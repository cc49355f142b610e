use Rattle.expiring_map.proofs.KeyLemmas.{on-ok, one-more}
use Rattle.expiring_map.proofs.map.reserve_new.Goals as goal

pub returns-clause-ok : goal.returns-clause-ok
returns-clause-ok g c = on-ok c.add.result (one-more c.args.key c.args.reserved.now c.add.new.self) c.add.ensures.ok
