use Rattle.std.proofs.Common.{◌≡◌, ◌≤◌, Option, length, sym, ap, ◌∙◌, subst}
use Rattle.commit_book.specs.declared.index.Record.{Record}
use Rattle.commit_book.specs.Contents.{Contents}
use Rattle.commit_book.specs.Index.{base_kept, commits_kept, document_in, AreCommits}
use Rattle.commit_book.specs.Journal.{document_at, printed_of}
use Rattle.commit_book.proofs.LookLemmas.{are-commits, look-up}
use Rattle.commit_book.proofs.book.Book.found_at.Goals as goal

-- the entry of the record has its commits
pub found_in-requires : goal.found_in-requires
found_in-requires c =
    subst (λ (o : Option Record). AreCommits c.self.inside.horizon c.self.inside.rows.items (commits_kept o)) (sym c.in-Some.ensures)
    (are-commits _ _ _ _ c.self.inside.rows c.self.inside.past c.self.inside.collections c.self.inside.reserved c.self.invariant c.args.collection.now c.args.id.now)

-- what is kept of the record has its document
documents-found : (c : goal.After-found_in) → document_in c.self.inside.horizon c.self.inside.rows.items c.in-Some.record.now.base c.in-Some.record.now.commits.items c.args.commit ≡ document_at c.args.self.now.journal c.args.commit c.args.collection.now c.args.id.now
documents-found c =
    let low = subst (λ (b : Contents). b.horizon ≤ c.args.commit) (sym c.self.view_is) c.requires.kept in
    let high = subst (λ (b : Contents). c.args.commit ≤ length b.journal) (sym c.self.view_is) c.requires.within in
    ap (λ (o : Option Record). document_in c.self.inside.horizon c.self.inside.rows.items (base_kept o) (commits_kept o) c.args.commit) c.in-Some.ensures
    ∙ look-up _ _ _ _ c.self.inside.rows c.self.inside.past c.self.inside.collections c.self.inside.reserved c.self.invariant c.args.collection.now c.args.id.now c.args.commit low high
    ∙ ap (λ (b : Contents). document_at b.journal c.args.commit c.args.collection.now c.args.id.now) c.self.view_is

pub returns-in-Some-clause-documents : goal.returns-in-Some-clause-documents
returns-in-Some-clause-documents c = c.found_in.ensures.documents ∙ documents-found c

pub returns-in-Some-clause-texts : goal.returns-in-Some-clause-texts
returns-in-Some-clause-texts c = c.found_in.ensures.texts ∙ ap printed_of (documents-found c)

-- a record that is not in the index has none
pub returns-in-None-clause-documents : goal.returns-in-None-clause-documents
returns-in-None-clause-documents c =
    let low = subst (λ (b : Contents). b.horizon ≤ c.args.commit) (sym c.self.view_is) c.requires.kept in
    let high = subst (λ (b : Contents). c.args.commit ≤ length b.journal) (sym c.self.view_is) c.requires.within in
    ap (λ (o : Option Record). document_in c.self.inside.horizon c.self.inside.rows.items (base_kept o) (commits_kept o) c.args.commit) c.in-None.ensures
    ∙ look-up _ _ _ _ c.self.inside.rows c.self.inside.past c.self.inside.collections c.self.inside.reserved c.self.invariant c.args.collection.now c.args.id.now c.args.commit low high
    ∙ ap (λ (b : Contents). document_at b.journal c.args.commit c.args.collection.now c.args.id.now) c.self.view_is

pub returns-in-None-clause-texts : goal.returns-in-None-clause-texts
returns-in-None-clause-texts c =
    let low = subst (λ (b : Contents). b.horizon ≤ c.args.commit) (sym c.self.view_is) c.requires.kept in
    let high = subst (λ (b : Contents). c.args.commit ≤ length b.journal) (sym c.self.view_is) c.requires.within in
    ap printed_of (
    ap (λ (o : Option Record). document_in c.self.inside.horizon c.self.inside.rows.items (base_kept o) (commits_kept o) c.args.commit) c.in-None.ensures
    ∙ look-up _ _ _ _ c.self.inside.rows c.self.inside.past c.self.inside.collections c.self.inside.reserved c.self.invariant c.args.collection.now c.args.id.now c.args.commit low high
    ∙ ap (λ (b : Contents). document_at b.journal c.args.commit c.args.collection.now c.args.id.now) c.self.view_is)
