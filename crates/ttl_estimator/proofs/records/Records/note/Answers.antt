use Rattle.std.proofs.Common.{IsTrue, Option, is_some, option_and_then, bytes_eq, sym, subst}
use Rattle.std.specs.Map.{lookup}
use Rattle.ttl_estimator.specs.Records.{Ids, Names, entry_of}
use Rattle.ttl_estimator.proofs.EntryLemmas.{noted_in}
use Rattle.ttl_estimator.proofs.PlaceLemmas.{value_of}
use Rattle.ttl_estimator.proofs.records.Records.note.Goals as goal

-- the record is among those of the collection
pub note-requires : goal.note-requires
note-requires c =
    subst (λ (o : Option Ids). IsTrue (is_some (option_and_then (λ ids. lookup (bytes_eq c.args.id.now) ids) o)))
    (value_of c.self.inside.collections c.in-Some.index c.args.collection.now (sym c.in-Some.ensures.index) c.index_mut.result.now c.index_mut.ensures.value)
    (subst (λ (names : Names). IsTrue (is_some (entry_of names c.args.collection.now c.args.id.now))) (sym c.self.view_is) c.requires)

-- the records of the collection were written
pub returns : goal.returns
returns c =
    rw (← c.self.view_is)
    (record { written = noted_in c.self.inside.collections c.in-Some.index c.args.collection.now c.index_mut.result.now c.note.new.self (sym c.in-Some.ensures.index) c.index_mut.ensures.value c.args.id.now c.args.clock c.note.ensures.written })
