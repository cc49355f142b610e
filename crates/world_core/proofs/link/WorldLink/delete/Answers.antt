-- the write is that of a deletion
use Rattle.std.proofs.Common.{None, sym}
use Rattle.world_core.proofs.LinkLemmas.{wrote_same}
use Rattle.world_core.proofs.StoreLemmas.{same_store}
use Rattle.world_core.proofs.link.WorldLink.delete.Goals as goal

pub returns-in_err-change-clause-grown : goal.returns-in_err-change-clause-grown
returns-in_err-change-clause-grown c = same_store c.args.self.now.store

pub returns-in_err-condition-clause-grown : goal.returns-in_err-condition-clause-grown
returns-in_err-condition-clause-grown c = same_store c.args.self.now.store

pub returns-clause-ok : goal.returns-clause-ok
returns-clause-ok c =
    wrote_same c.args.self.now c.write.new.self c.in_ok-change.change (record { collection = c.args.collection.now; id = c.args.id.now; document = None }) c.in_ok-condition.condition c.args.condition.now c.write.result
    c.in_ok-change.ensures (sym c.in_ok-condition.ensures.cases) c.write.ensures.ok
