-- the index is that of an id which is there
use Rattle.std.proofs.Common.{arith, refl}
use Rattle.indexmap.proofs.CallerLemmas.{keys-with_value_at}
use Rattle.commit_book.proofs.PlaceLemmas.{bases-stay, commits-more, commits-stay, id-within, space-found}
use Rattle.commit_book.proofs.index.push_under.Goals as goal

pub pair_mut-record-requires : goal.pair_mut-record-requires
pair_mut-record-requires c = id-within c.args.records.now c.requires.0 c.args.index c.requires.1

pub push_back_reserved-requires : goal.push_back_reserved-requires
push_back_reserved-requires c =
    let space = space-found c.args.records.now c.requires.0 c.args.index _ c.pair_mut-record.result.1.now c.requires.1 c.pair_mut-record.ensures.value c.requires.2 in
    omega (arith, space)

pub returns-clause-own : goal.returns-clause-own
returns-clause-own c = λ id at.
    commits-more c.args.records.now id c.args.index _ c.pair_mut-record.result.1.now at c.pair_mut-record.ensures.value _ c.pair_mut-record.ensures.unique c.args.commit c.push_back_reserved.ensures.items

pub returns-clause-others : goal.returns-clause-others
returns-clause-others c = λ id other at.
    commits-stay c.args.records.now id c.args.index _ c.pair_mut-record.result.1.now at c.pair_mut-record.ensures.value _ c.pair_mut-record.ensures.unique other

pub returns-clause-ids : goal.returns-clause-ids
returns-clause-ids c = keys-with_value_at c.args.records.now c.args.index _

pub returns-clause-bases : goal.returns-clause-bases
returns-clause-bases c = λ id at other. bases-stay c.args.records.now id c.args.index _ c.pair_mut-record.result.1.now at c.pair_mut-record.ensures.value _ c.pair_mut-record.ensures.unique refl other
