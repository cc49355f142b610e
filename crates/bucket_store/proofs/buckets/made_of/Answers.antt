use Rattle.std.proofs.Common.{None, sym, subst}
use Rattle.commit_book.specs.Journal.{put_at}
use Rattle.bucket_store.specs.Buckets.{HasBuckets, with_document}
use Rattle.bucket_store.proofs.buckets.made_of.Goals as goal

-- there was none before
pub returns : goal.returns
returns c =
    let change = c.args.change.now in
    subst (HasBuckets (with_document change.id (put_at c.args.commit change.document) (λ x. None))) (sym c.in_ok-new.ensures.ok) (c.in_ok-change.ensures.ok (λ x. None) c.in_ok-made.ensures)
