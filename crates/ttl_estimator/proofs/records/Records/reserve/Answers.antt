use Rattle.std.proofs.Common.{ℕ, IsTrue, List, Option, is_some, ap, sym, subst, ◌∙◌}
use Rattle.indexmap.specs.IndexMap.{set_value_at}
use Rattle.std.proofs.lemmas.Result.{on_err_weaker, on_ok_weaker}
use Rattle.ttl_estimator.specs.Records.{Ids}
use Rattle.ttl_estimator.proofs.EntryLemmas.{entry_in, extends_in, others_in}
use Rattle.ttl_estimator.proofs.PlaceLemmas.{same_at}
use Rattle.ttl_estimator.proofs.records.Records.reserve.Goals as goal

-- the record is among those of the collection
pub returns-in-Some-clause-known : goal.returns-in-Some-clause-known
returns-in-Some-clause-known c =
    on_ok_weaker c.reserve.result
    (λ known. subst (λ (o : Option (List ℕ)). IsTrue (is_some o)) (sym (entry_in c.self.inside.collections c.in-Some.index c.args.collection.now c.index_mut.result.now c.reserve.new.self (sym c.in-Some.ensures.index) c.index_mut.ensures.value c.args.id.now)) known)
    c.reserve.ensures.known

-- the entries of the collection are kept or new
pub returns-in-Some-clause-extends : goal.returns-in-Some-clause-extends
returns-in-Some-clause-extends c =
    rw (← c.self.view_is)
    (extends_in c.self.inside.collections c.in-Some.index c.args.collection.now c.index_mut.result.now c.reserve.new.self (sym c.in-Some.ensures.index) c.index_mut.ensures.value c.reserve.ensures.extends)

pub returns-in-Some-clause-others : goal.returns-in-Some-clause-others
returns-in-Some-clause-others c =
    rw (← c.self.view_is)
    (others_in c.self.inside.collections c.in-Some.index c.args.collection.now c.index_mut.result.now c.reserve.new.self (sym c.in-Some.ensures.index) c.index_mut.ensures.value c.args.id.now c.reserve.ensures.others)

-- the collection is as it was
pub returns-in-Some-clause-err : goal.returns-in-Some-clause-err
returns-in-Some-clause-err c =
    let names = c.self.inside.collections.entries in
    rw (← c.self.view_is)
    (on_err_weaker c.reserve.result
    (λ same.
    ap (λ (ids : Ids). set_value_at names c.in-Some.index ids) same
    ∙ same_at names c.in-Some.index c.index_mut.result.now c.index_mut.ensures.value)
    c.reserve.ensures.err)
