use Rattle.std.proofs.Common.{sym, ◌∙◌, subst, arith}
use Rattle.std.specs.Arc.{arc_value}
use Rattle.std.proofs.lemmas.Result.{on_ok_weaker, on_err_weaker}
use Rattle.commit_book.specs.Journal.{put_at}
use Rattle.bucket_store.specs.Buckets.{HasBuckets}
use Rattle.bucket_store.proofs.BucketLemmas.{changed_in, kept_in}
use Rattle.bucket_store.proofs.collection.Collection.change.Goals as goal

-- the bucket of the id has changed, and no other
pub returns-clause-ok : goal.returns-clause-ok
returns-clause-ok c = λ found has.
    let change = c.args.change.now in
    let size = c.self.invariant in
    on_ok_weaker c.change_in.result
    (λ changed. changed_in arc_value found change.id (put_at c.args.commit change.document) c.self.inside.buckets.items c.bucket_of-index.result _ c.change_in.new.shared
    c.bucket_of-index.ensures.value (omega (arith, size, c.bucket_of-index.ensures.within)) c.index_mut.ensures.value changed (subst (HasBuckets found) (sym c.self.view_is) has))
    c.change_in.ensures.ok

pub returns-clause-err : goal.returns-clause-err
returns-clause-err c =
    on_err_weaker c.change_in.result
    (λ same. kept_in arc_value c.self.inside.buckets.items c.bucket_of-index.result _ c.change_in.new.shared c.index_mut.ensures.value same ∙ c.self.view_is)
    c.change_in.ensures.err
