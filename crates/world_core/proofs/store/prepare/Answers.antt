-- memory that is reserved is no entry
use Rattle.world_core.proofs.StoreLemmas.{learnt}
use Rattle.world_core.proofs.store.prepare.Goals as goal

pub returns-clause-entries : goal.returns-clause-entries
returns-clause-entries c = learnt c.args.desk.now.setting c.args.desk.now.entries c.ready.new.self.entries c.ready.ensures.none
