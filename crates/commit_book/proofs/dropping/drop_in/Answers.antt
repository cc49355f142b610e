-- the records at the index of the collection are its own
use Rattle.std.proofs.Common.{◌<◌, ℕ, List, IsSome, length, refl, sym, ap, ◌∙◌, subst, arith}
use Rattle.indexmap.specs.IndexMap.{with_value_at}
use Rattle.commit_book.specs.Index.{base_kept, commits_kept}
use Rattle.commit_book.proofs.DropLemmas.{drops-written, drops-removed, not-none}
use Rattle.commit_book.proofs.NameLemmas.{commits-at, record-at, record_from}
use Rattle.commit_book.proofs.PlaceLemmas.{collection-missing, records-found, records-written}
use Rattle.commit_book.proofs.dropping.drop_in.Goals as goal

pub drop_under-was-requires : goal.drop_under-was-requires
drop_under-was-requires c =
    let maps = c.args.collections.now in
    let name = c.args.collection.now in
    let records = c.pair_mut-records.result.1.now in
    let found = records-found maps name c.in-Some.index _ records records c.pair_mut-records.ensures.value (sym c.in-Some.ensures) in
    subst (λ (xs : List ℕ). 0 < length xs) (commits-at maps name c.args.id.now records found) c.requires

-- a record that has a commit has a collection
pub unreachable-requires : goal.unreachable-requires
unreachable-requires c =
    let none = ap (λ o. length (commits_kept (record_from o c.args.id.now))) (collection-missing c.args.collections.now c.args.collection.now (sym c.in-None.ensures)) in
    omega (arith, none, c.requires)

pub returns-then-is_empty-clause-was : goal.returns-then-is_empty-clause-was
returns-then-is_empty-clause-was c =
    let maps = c.args.collections.now in
    let name = c.args.collection.now in
    let records = c.pair_mut-records.result.1.now in
    let found = records-found maps name c.in-Some.index _ records records c.pair_mut-records.ensures.value (sym c.in-Some.ensures) in
    c.drop_under-was.ensures.was ∙ sym (ap base_kept (record-at maps name c.args.id.now records found))

pub returns-else-is_empty-clause-was : goal.returns-else-is_empty-clause-was
returns-else-is_empty-clause-was c =
    let maps = c.args.collections.now in
    let name = c.args.collection.now in
    let records = c.pair_mut-records.result.1.now in
    let found = records-found maps name c.in-Some.index _ records records c.pair_mut-records.ensures.value (sym c.in-Some.ensures) in
    c.drop_under-was.ensures.was ∙ sym (ap base_kept (record-at maps name c.args.id.now records found))

pub returns-then-is_empty-clause-drops : goal.returns-then-is_empty-clause-drops
returns-then-is_empty-clause-drops c =
    let maps = c.args.collections.now in
    let name = c.args.collection.now in
    let records = c.pair_mut-records.result.1.now in
    let now = c.drop_under-was.new.records in
    let found = records-found maps name c.in-Some.index _ records records c.pair_mut-records.ensures.value (sym c.in-Some.ensures) in
    let writes = records-written maps name c.in-Some.index _ records now c.pair_mut-records.ensures.value c.pair_mut-records.ensures.unique (sym c.in-Some.ensures) in
    drops-removed maps c.swap_remove.new.self name c.args.id.now c.args.base records now found c.drop_under-was.ensures.drops (with_value_at maps c.in-Some.index now)
    ((writes.3 (subst IsSome (sym found) refl)).0) c.swap_remove.ensures.updates.0 (c.is_empty.ensures.0 c.if-is_empty.true)

pub returns-else-is_empty-clause-drops : goal.returns-else-is_empty-clause-drops
returns-else-is_empty-clause-drops c =
    let maps = c.args.collections.now in
    let name = c.args.collection.now in
    let records = c.pair_mut-records.result.1.now in
    let now = c.drop_under-was.new.records in
    let found = records-found maps name c.in-Some.index _ records records c.pair_mut-records.ensures.value (sym c.in-Some.ensures) in
    let writes = records-written maps name c.in-Some.index _ records now c.pair_mut-records.ensures.value c.pair_mut-records.ensures.unique (sym c.in-Some.ensures) in
    drops-written maps (with_value_at maps c.in-Some.index now) name c.args.id.now c.args.base records now found c.drop_under-was.ensures.drops
    ((writes.3 (subst IsSome (sym found) refl)).0) (not-none (length now.entries) c.is_empty.result c.is_empty.ensures.1 c.if-is_empty.false)
