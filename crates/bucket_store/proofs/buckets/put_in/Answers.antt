use Rattle.std.proofs.Common.{is_some, sym, ap, subst}
use Rattle.std.proofs.lemmas.Result.{on_ok_weaker, on_err_weaker}
use Rattle.bucket_store.specs.Kept.{AreKept, IsKept, last_documents}
use Rattle.bucket_store.proofs.JournalLemmas.{kept_entries, kept_put, kept_still}
use Rattle.bucket_store.proofs.buckets.put_in.Goals as goal

-- the buckets of the collection have the change
pub returns-in-Some-clause-ok : goal.returns-in-Some-clause-ok
returns-in-Some-clause-ok c = λ journal number kept.
    let change = c.args.change.now in
    let old = c.args.collections.now in
    let after = c.change_under.new.shared in
    let new = c.get_mut.follows.lender after in
    let was = c.in-Some.ensures.value in
    let updates = (c.get_mut.follows.holds after).3 (ap is_some (sym was)) in
    let had = subst (IsKept (last_documents journal change.collection)) (sym was) (kept.each change.collection) in
    on_ok_weaker c.change_under.result (λ has. kept_put c.older_commits_stay.ensures.documents journal change old new kept updates.2 c.args.commit number after updates.1 has) (c.change_under.ensures.ok (last_documents journal change.collection) had)

pub returns-in-Some-clause-err : goal.returns-in-Some-clause-err
returns-in-Some-clause-err c = λ journal kept.
    let old = c.args.collections.now in
    let after = c.change_under.new.shared in
    let was = c.in-Some.ensures.value in
    let updates = (c.get_mut.follows.holds after).3 (ap is_some (sym was)) in
    on_err_weaker c.change_under.result (λ same. kept_still journal c.args.change.now.collection old (c.get_mut.follows.lender after) c.in-Some.shared.now after kept updates.2 was updates.1 same) c.change_under.ensures.err

-- nothing was put
pub returns-in-None-clause-err : goal.returns-in-None-clause-err
returns-in-None-clause-err c = λ journal kept.
    let old = c.get_mut.follows.lender-at-none in
    on_err_weaker c.put_new.result (λ same. kept_entries journal old c.put_new.new.collections same (subst (AreKept journal) (sym c.get_mut.follows.holds-at-none) kept)) c.put_new.ensures.err
