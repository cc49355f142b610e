use Rattle.std.proofs.Common.{◌≡◌, ℕ, Some, Option, option_map, sym, ap, ◌∙◌, arith, ◌-◌}
use Rattle.std.proofs.lemmas.Option.{slice_get-get_or}
use Rattle.commit_book.specs.declared.change.Change.{Change}
use Rattle.commit_book.specs.Index.{document_in, document_over}
use Rattle.commit_book.specs.Journal.{put_at, printed_of}
use Rattle.commit_book.proofs.IndexLemmas.{version_among, change_at}
use Rattle.commit_book.proofs.found.found_in.Goals as goal

pub overflow_sub-version : goal.overflow_sub-version
overflow_sub-version c = let at = version_among c.args.horizon c.args.rows.now.items c.args.record.now.commits.items c.args.commit _ c.requires c.in-Some.ensures in omega (arith, at.0)

pub overflow_sub-version-in-Some : goal.overflow_sub-version-in-Some
overflow_sub-version-in-Some c = let at = version_among c.args.horizon c.args.rows.now.items c.args.record.now.commits.items c.args.commit _ c.requires c.in-Some.ensures in omega (arith, at.0)

pub index-requires : goal.index-requires
index-requires c =
    let at = version_among c.args.horizon c.args.rows.now.items c.args.record.now.commits.items c.args.commit _ c.requires c.in-Some.ensures in
    omega (arith, at.0, at.1, c.args.rows.now.ok.0)

-- the index of the row is what its number is above the horizon, less one
told : (c : goal.After-found_in_row) → put_at c.in-Some.version c.index.result.now.document ≡ document_in c.args.horizon c.args.rows.now.items c.args.record.now.base c.args.record.now.commits.items c.args.commit
told c =
    let at = version_among c.args.horizon c.args.rows.now.items c.args.record.now.commits.items c.args.commit _ c.requires c.in-Some.ensures in
    let here = slice_get-get_or c.args.rows.now.items (c.in-Some.version - c.args.horizon - 1) c.index.result.now (omega (arith, at.0, at.1)) in
    sym (
    ap (λ (o : Option ℕ). document_over c.args.record.now.base (change_at c.args.horizon c.args.rows.now.items o)) (sym c.in-Some.ensures)
    ∙ ap (λ (o : Option Change). document_over c.args.record.now.base (option_map (λ (change : Change). (c.in-Some.version, change)) o)) (here ∙ ap Some (sym c.index.ensures))
    )

pub returns-in-Some-clause-documents : goal.returns-in-Some-clause-documents
returns-in-Some-clause-documents c = c.found_in_row.ensures.documents ∙ told c

pub returns-in-Some-clause-texts : goal.returns-in-Some-clause-texts
returns-in-Some-clause-texts c = c.found_in_row.ensures.texts ∙ ap printed_of (told c)
