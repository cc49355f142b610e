-- the entries at the indexes of two names are those of the names
use Rattle.std.proofs.Common.{sym, ◌∙◌}
use Rattle.commit_book.proofs.NameLemmas.{record-at}
use Rattle.commit_book.proofs.PlaceLemmas.{id-within, known-under, record-found, records-found}
use Rattle.commit_book.proofs.index.known_record.Goals as goal

pub returns-in_err-record : goal.returns-in_err-record
returns-in_err-record c = λ name id there.
    let maps = c.args.collections.now in
    let records = c.in_ok-records.records.now in
    let under = known-under maps name c.args.collection _ records records (sym c.in_ok-records.ensures.entry) id c.args.index there in
    absurd (let no = c.in_err-record.ensures.found.1 (id-within records id c.args.index under.0) in cc)

pub returns : goal.returns
returns c = λ name id there.
    let maps = c.args.collections.now in
    let records = c.in_ok-records.records.now in
    let entry = sym c.in_ok-records.ensures.entry in
    let found = records-found maps name c.args.collection _ records records entry there.0 in
    let under = known-under maps name c.args.collection _ records records entry id c.args.index there in
    sym (record-at maps name id records found ∙ record-found records id c.args.index _ c.in_ok-record.record.now under.0 (sym c.in_ok-record.ensures.entry))
