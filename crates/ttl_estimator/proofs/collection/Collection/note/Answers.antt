use Rattle.std.proofs.Common.{sym}
use Rattle.ttl_estimator.proofs.EntryLemmas.{noted}
use Rattle.ttl_estimator.proofs.collection.Collection.note.Goals as goal

-- the clocks of the id were written
pub returns : goal.returns
returns c =
    rw (← c.self.view_is)
    (record { written = noted c.self.inside.records c.in-Some.index c.args.id.now c.index_mut.result.now c.note.new.self c.args.clock (sym c.in-Some.ensures.index) c.index_mut.ensures.value c.note.ensures })
