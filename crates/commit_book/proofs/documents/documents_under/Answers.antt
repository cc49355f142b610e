use Rattle.std.proofs.Common.{◌≡◌, ◌++◌, List, Option, take, sym, ap, ◌∙◌, subst, arith}
use Rattle.std.specs.List.{filter_map}
use Rattle.std.specs.Map.{keys_of}
use Rattle.std.proofs.lemmas.Map.Entries.{length-keys_of}
use Rattle.std.proofs.lemmas.List.{take_all}
use Rattle.commit_book.specs.declared.index.Record.{Record}
use Rattle.commit_book.specs.Documents.{Row, list_of, row_of, HasDocuments}
use Rattle.commit_book.specs.Index.{base_kept, commits_kept, document_in, document_under, AreCommits}
use Rattle.commit_book.proofs.DocumentLemmas.{listed_more, key_at, none_under, documents_listed}
use Rattle.commit_book.proofs.documents.documents_under.Goals as goal

-- the commits at an index are those under its id
pub push_document-requires : goal.push_document-requires
push_document-requires c = subst (AreCommits c.args.horizon c.args.rows.now.items) (ap commits_kept c.in-Some.ensures.value) (c.requires c.in-Some.id.now)

-- the document of one id more
pub loop-index-preserved : goal.loop-index-preserved
loop-index-preserved c =
    let found = document_under c.args.horizon c.args.rows.now.items c.args.records.now c.args.commit in
    let keys = keys_of c.args.records.now.entries in
    c.in_ok-push_document-in-Some.ensures
    ∙ ap (λ (rows : List Row). rows ++ list_of (row_of c.in-Some.id.now (document_in c.args.horizon c.args.rows.now.items c.in-Some.record.now.base c.in-Some.record.now.commits.items c.args.commit))) c.loop-index.invariant
    ∙ ap (λ (o : Option Record). filter_map (λ id. row_of id (found id)) (take c.loop-index.index keys)
    ++ list_of (row_of c.in-Some.id.now (document_in c.args.horizon c.args.rows.now.items (base_kept o) (commits_kept o) c.args.commit))) (sym c.in-Some.ensures.value)
    ∙ sym (listed_more (λ id. row_of id (found id)) keys c.loop-index.index c.in-Some.id.now
    (key_at c.args.records.now.entries c.loop-index.index c.in-Some.id.now c.in-Some.record.now (sym c.in-Some.ensures.entry)))

-- all ids were seen
pub returns : goal.returns
returns c =
    let found = document_under c.args.horizon c.args.rows.now.items c.args.records.now c.args.commit in
    let keys = keys_of c.args.records.now.entries in
    let size = length-keys_of c.args.records.now.entries in
    let all : c.loop-index.found.items ≡ filter_map (λ id. row_of id (found id)) keys =
    c.loop-index.invariant ∙ ap (filter_map (λ id. row_of id (found id))) (take_all c.loop-index.index keys (omega (arith, size, c.len-count.ensures.len, c.loop-index-test.false))) in
    subst (HasDocuments found) (sym all) (documents_listed found keys c.len-count.ensures.unique (none_under c.args.horizon c.args.rows.now.items c.args.records.now c.args.commit))
