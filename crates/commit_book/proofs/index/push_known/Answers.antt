-- the slot is that of a record which is in the index
use Rattle.commit_book.proofs.PlaceLemmas.{collection-within, known-under, known-added}
use Rattle.commit_book.proofs.index.push_known.Goals as goal

pub pair_mut-records-requires : goal.pair_mut-records-requires
pair_mut-records-requires c = collection-within c.args.collections.now c.requires.0 c.args.collection c.requires.2.0

pub push_under-requires : goal.push_under-requires
push_under-requires c =
    let records = c.pair_mut-records.result.1.now in
    let under = known-under c.args.collections.now c.requires.0 c.args.collection _ records records c.pair_mut-records.ensures.value c.requires.1 c.args.index c.requires.2 in
    (c.requires.1, under.0, under.1)

pub returns : goal.returns
returns c = λ name id there.
    known-added c.args.collections.now name c.args.collection _ c.pair_mut-records.result.1.now c.push_under.new.records c.pair_mut-records.ensures.value id c.args.index c.args.commit c.pair_mut-records.ensures.unique there
    c.push_under.ensures.own c.push_under.ensures.others c.push_under.ensures.bases c.push_under.ensures.ids
