use Rattle.std.proofs.Common.{◌≡◌, false, List, ℕ, Some, sym, subst}
use Rattle.std.specs.Arc.{arc_value}
use Rattle.std.specs.Str.{bytes_eq}
use Rattle.indexmap.specs.IndexMap.{get_by}
use Rattle.commit_book.specs.Journal.{put_at}
use Rattle.bucket_store.proofs.JournalLemmas.{has_first, kept_deleted, kept_put, none_is}
use Rattle.bucket_store.proofs.buckets.put_new.Goals as goal

-- a deletion of what is not there
pub returns-then-is_none-clause-ok : goal.returns-then-is_none-clause-ok
returns-then-is_none-clause-ok c = λ journal number kept.
    kept_deleted c.older_commits_stay.ensures.documents journal c.args.change.now c.args.collections.now kept c.requires (none_is c.args.change.now.document c.is_none.result c.is_none.ensures c.if-is_none.true)

-- the first document
pub returns-clause-ok : goal.returns-clause-ok
returns-clause-ok c = λ journal number kept.
    let change = c.args.change.now in
    let old = c.args.collections.now in
    let new = c.insert.new.self in
    let same : change.collection ≡ c.in_ok-clone.field-0 = c.in_ok-clone.ensures.cases in
    let updates = c.in_ok-insert.ensures.updates in
    kept_put c.older_commits_stay.ensures.documents journal change old new kept (λ collection e. updates.2 collection (subst (λ (k : List ℕ). bytes_eq k collection ≡ false) same e)) c.args.commit number c.in_ok-made.made
    (subst (λ (k : List ℕ). get_by (bytes_eq k) new ≡ Some c.in_ok-made.made) (sym same) updates.1)
    (has_first c.older_commits_stay.ensures.documents journal change old (put_at c.args.commit change.document) (arc_value c.in_ok-made.made) kept c.requires c.in_ok-made.ensures)
