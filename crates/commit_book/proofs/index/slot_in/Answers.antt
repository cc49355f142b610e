-- the collection keeps what it has reserved
use Rattle.std.proofs.Common.{sym, ◌∙◌}
use Rattle.std.proofs.lemmas.Result.{IfOk-weaker}
use Rattle.commit_book.specs.Index.{IsSlotUnder, IsSlotIn}
use Rattle.indexmap.specs.IndexMap.{with_value_at}
use Rattle.commit_book.proofs.NameLemmas.{collection-place, keeps-written, slot-written}
use Rattle.commit_book.proofs.PlaceLemmas.{collection-missing, collection-within, found-at, writes-at}
use Rattle.commit_book.proofs.index.slot_in.Goals as goal

pub pair_mut-records-requires : goal.pair_mut-records-requires
pair_mut-records-requires c = collection-within c.args.collections.now c.args.collection.now c.in-Some.index (sym c.in-Some.ensures)

pub new_slot-requires : goal.new_slot-requires
new_slot-requires c = collection-missing c.args.collections.now c.args.collection.now (sym c.in-None.ensures)

pub returns-in-Some-clause-keeps : goal.returns-in-Some-clause-keeps
returns-in-Some-clause-keeps c =
    let maps = c.args.collections.now in
    let name = c.args.collection.now in
    let records = c.pair_mut-records.result.1.now in
    let at = sym (collection-place maps name) ∙ sym c.in-Some.ensures in
    let found = found-at name maps.entries c.in-Some.index _ records at c.pair_mut-records.ensures.value in
    keeps-written maps (with_value_at maps c.in-Some.index c.slot_under.new.records) name records c.slot_under.new.records found
    (writes-at maps name c.in-Some.index records c.slot_under.new.records at found c.pair_mut-records.ensures.unique) c.slot_under.ensures.keeps

pub returns-in-Some-clause-ok : goal.returns-in-Some-clause-ok
returns-in-Some-clause-ok c =
    let maps = c.args.collections.now in
    let name = c.args.collection.now in
    let records = c.pair_mut-records.result.1.now in
    let now = c.slot_under.new.records in
    let at = sym (collection-place maps name) ∙ sym c.in-Some.ensures in
    let found = found-at name maps.entries c.in-Some.index _ records at c.pair_mut-records.ensures.value in
    IfOk-weaker c.slot_under.result (λ slot. IsSlotUnder now c.in-Some.index c.args.id.now slot) (λ slot. IsSlotIn (with_value_at maps c.in-Some.index now) name c.args.id.now slot)
    (λ slot there. slot-written maps (with_value_at maps c.in-Some.index now) name c.args.id.now c.in-Some.index records now slot at found (writes-at maps name c.in-Some.index records now at found c.pair_mut-records.ensures.unique) there)
    c.slot_under.ensures.ok
