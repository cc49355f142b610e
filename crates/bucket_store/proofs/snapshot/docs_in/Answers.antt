use Rattle.std.proofs.Common.{◌≡◌, List, sym, subst}
use Rattle.std.specs.List.{flat_map}
use Rattle.std.proofs.lemmas.Result.{IfOk-weaker}
use Rattle.commit_book.specs.Documents.{HasDocuments}
use Rattle.query_core.specs.Window.{Row}
use Rattle.bucket_store.specs.Buckets.{HasBuckets}
use Rattle.bucket_store.specs.Kept.{IsKept}
use Rattle.bucket_store.proofs.BucketLemmas.{all_documents}
use Rattle.bucket_store.proofs.snapshot.docs_in.Goals as goal

-- all buckets together have each document once
pub returns-in-Some : goal.returns-in-Some
returns-in-Some c = λ found kept.
    let has = subst (HasBuckets found) (sym c.deref.ensures) (subst (IsKept found) c.in-Some.is kept) in
    IfOk-weaker c.docs.result (λ docs. docs ≡ flat_map (λ (rows : List Row). rows) c.deref.result.now) (λ docs. HasDocuments found docs) (λ docs e. subst (HasDocuments found) (sym e) (all_documents found c.deref.result.now has)) c.docs.ensures
