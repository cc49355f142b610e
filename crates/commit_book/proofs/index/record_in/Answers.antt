-- the records at the index of a collection are its records
use Rattle.std.proofs.Common.{sym, ap, ◌∙◌}
use Rattle.commit_book.proofs.NameLemmas.{record-at, record_from}
use Rattle.commit_book.proofs.PlaceLemmas.{collection-missing, collection-value, collection-within}
use Rattle.commit_book.proofs.index.record_in.Goals as goal

pub index-requires : goal.index-requires
index-requires c = collection-within c.args.collections.now c.args.collection.now c.in-Some.index (sym c.in-Some.ensures)

pub returns-in-Some : goal.returns-in-Some
returns-in-Some c =
    let maps = c.args.collections.now in
    let name = c.args.collection.now in
    c.get.ensures.value ∙ sym (record-at maps name c.args.id.now c.index.result.now (collection-value maps name c.in-Some.index c.index.result.now (sym c.in-Some.ensures) c.index.ensures))

pub returns-in-None : goal.returns-in-None
returns-in-None c =
    sym (ap (λ o. record_from o c.args.id.now) (collection-missing c.args.collections.now c.args.collection.now (sym c.in-None.ensures)))
