use Rattle.std.proofs.Common.{◌≡◌, ◌≤◌, ℕ, List, Option, length, filter, sym, ap, ◌∙◌, subst}
use Rattle.std.proofs.lemmas.Result.{IfOk-weaker}
use Rattle.q_doc.specs.Tree.{Tree}
use Rattle.commit_book.specs.Contents.{Contents}
use Rattle.commit_book.specs.Documents.{list_of, row_of, is_row_of, HasDocuments}
use Rattle.commit_book.specs.Index.{base_kept, commits_kept, document_in, document_under, AreCommits}
use Rattle.commit_book.specs.Journal.{document_at}
use Rattle.commit_book.proofs.DocumentLemmas.{has_same}
use Rattle.commit_book.proofs.LookLemmas.{are-commits, look-up}
use Rattle.commit_book.proofs.NameLemmas.{record_from}
use Rattle.commit_book.proofs.book.Book.documents_of.Goals as goal

-- the entry of an id has its commits
pub documents_under-requires : goal.documents_under-requires
documents_under-requires c = λ id.
    subst (λ o. AreCommits c.self.inside.horizon c.self.inside.rows.items (commits_kept (record_from o id))) (sym c.in-Some.ensures.value)
    (are-commits _ _ _ _ c.self.inside.rows c.self.inside.past c.self.inside.collections c.self.inside.reserved c.self.invariant c.args.collection.now id)

-- the document under an id is that of its record
same : (c : goal.After-documents_under) (id : List ℕ) → document_under c.self.inside.horizon c.self.inside.rows.items c.in-Some.records.now c.args.commit id ≡ document_at c.args.self.now.journal c.args.commit c.args.collection.now id
same c id =
    let low = subst (λ (b : Contents). b.horizon ≤ c.args.commit) (sym c.self.view_is) c.requires.kept in
    let high = subst (λ (b : Contents). c.args.commit ≤ length b.journal) (sym c.self.view_is) c.requires.within in
    ap (λ o. document_in c.self.inside.horizon c.self.inside.rows.items (base_kept (record_from o id)) (commits_kept (record_from o id)) c.args.commit) c.in-Some.ensures.value
    ∙ look-up _ _ _ _ c.self.inside.rows c.self.inside.past c.self.inside.collections c.self.inside.reserved c.self.invariant c.args.collection.now id c.args.commit low high
    ∙ ap (λ (b : Contents). document_at b.journal c.args.commit c.args.collection.now id) c.self.view_is

pub returns-in-Some : goal.returns-in-Some
returns-in-Some c =
    IfOk-weaker c.documents_under.result (λ found. HasDocuments (document_under c.self.inside.horizon c.self.inside.rows.items c.in-Some.records.now c.args.commit) found.items)
    (λ rows. HasDocuments (document_at c.args.self.now.journal c.args.commit c.args.collection.now) rows.items) (λ rows has. has_same _ _ rows.items (same c) has) c.documents_under.ensures

-- a collection that is not there has no record
pub returns-in-None : goal.returns-in-None
returns-in-None c = λ id.
    let low = subst (λ (b : Contents). b.horizon ≤ c.args.commit) (sym c.self.view_is) c.requires.kept in
    let high = subst (λ (b : Contents). c.args.commit ≤ length b.journal) (sym c.self.view_is) c.requires.within in
    let empty = ap (λ o. document_in c.self.inside.horizon c.self.inside.rows.items (base_kept (record_from o id)) (commits_kept (record_from o id)) c.args.commit) c.in-None.ensures.value
    ∙ look-up _ _ _ _ c.self.inside.rows c.self.inside.past c.self.inside.collections c.self.inside.reserved c.self.invariant c.args.collection.now id c.args.commit low high
    ∙ ap (λ (b : Contents). document_at b.journal c.args.commit c.args.collection.now id) c.self.view_is in
    ap (filter (is_row_of id)) c.new.ensures.items ∙ ap (λ (o : Option (ℕ × Tree)). list_of (row_of id o)) empty
