use Rattle.std.proofs.Common.{◌≡◌, List, ℕ, length, sym, ap, ◌∙◌, subst}
use Rattle.std.proofs.lemmas.Result.{IfOk-weaker}
use Rattle.commit_book.specs.Documents.{docs}
use Rattle.query_core.specs.Window.{window}
use Rattle.bucket_store.specs.Kept.{Taken, last_documents}
use Rattle.bucket_store.proofs.JournalLemmas.{same_window}
use Rattle.bucket_store.proofs.snapshot.Snapshot.window.Goals as goal

-- the documents of the buckets are those of the journal, in another order
pub returns : goal.returns
returns c =
    let past = c.self.inside.past.value in
    let name = c.self.inside.collection.value in
    let query = c.args.query.now in
    let found = c.in_ok-docs.docs in
    let same =
    same_window c.window_depends_on_ids_alone.ensures (last_documents past name) query found (docs past (length past) name) (c.in_ok-docs.ensures (last_documents past name) c.self.invariant.kept)
    (c.collections_have_the_documents_of_their_records.ensures past (length past) name) in
    let seen = subst (λ (t : Taken). window query found ≡ window query (docs t.journal (length t.journal) t.collection)) c.self.view_is same in
    let journal = c.args.self.now.journal in
    IfOk-weaker c.window.result (λ rows. rows ≡ window query found) (λ rows. rows ≡ window query (docs journal (length journal) query.collection))
    (λ rows e. e ∙ seen ∙ ap (λ (own : List ℕ). window query (docs journal (length journal) own)) (sym c.requires)) c.window.ensures
