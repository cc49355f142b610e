-- the slot is that of a new record of a collection which is in the index
use Rattle.commit_book.proofs.PlaceLemmas.{collection-within, new-under, new-added}
use Rattle.commit_book.proofs.index.put_record.Goals as goal

pub pair_mut-records-requires : goal.pair_mut-records-requires
pair_mut-records-requires c = collection-within c.args.collections.now c.requires.0 c.args.collection c.requires.1.0

pub put_under-requires-clause-new : goal.put_under-requires-clause-new
put_under-requires-clause-new c = c.requires.1.1

pub put_under-requires-clause-spare : goal.put_under-requires-clause-spare
put_under-requires-clause-spare c =
    let records = c.pair_mut-records.result.1.now in
    (new-under c.args.collections.now c.requires.0 c.args.collection _ records records c.pair_mut-records.ensures.value c.args.new.id c.args.new c.requires.1).0

pub put_under-requires-clause-absent : goal.put_under-requires-clause-absent
put_under-requires-clause-absent c =
    let records = c.pair_mut-records.result.1.now in
    (new-under c.args.collections.now c.requires.0 c.args.collection _ records records c.pair_mut-records.ensures.value c.args.new.id c.args.new c.requires.1).1

pub returns : goal.returns
returns c = λ name there.
    new-added c.args.collections.now name c.args.collection _ c.pair_mut-records.result.1.now c.put_under.new.records c.pair_mut-records.ensures.value c.args.commit c.args.new c.pair_mut-records.ensures.unique there
    c.put_under.ensures.own c.put_under.ensures.others c.put_under.ensures.bases c.put_under.ensures.ids
