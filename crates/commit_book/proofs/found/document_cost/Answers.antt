-- the document is that of what is kept of the record
use Rattle.std.proofs.Common.{ap, subst, sym, ◌∙◌, Option, option_map}
use Rattle.commit_book.specs.declared.change.Change.{Change}
use Rattle.commit_book.specs.declared.index.Record.{Record}
use Rattle.commit_book.specs.Index.{AreCommits, base_cost, base_kept, commits_kept, document_in}
use Rattle.commit_book.proofs.found.document_cost.Goals as goal

pub found_in-requires : goal.found_in-requires
found_in-requires c = subst (λ (o : Option Record). AreCommits c.args.horizon c.args.rows.now.items (commits_kept o)) (ap (option_map (λ r. r.now)) c.in-Some.is) c.requires

pub returns-in-Some : goal.returns-in-Some
returns-in-Some c =
    let record' = c.in-Some.record.now in
    c.found_cost.ensures (document_in c.args.horizon c.args.rows.now.items record'.base record'.commits.items c.args.commit) c.found_in.ensures.texts
    ∙ ap (λ (x : Change). base_cost x.collection x.id (document_in c.args.horizon c.args.rows.now.items record'.base record'.commits.items c.args.commit)) c.change.ensures
    ∙ ap (λ (o : Option Record). base_cost c.args.row.now.collection c.args.row.now.id (document_in c.args.horizon c.args.rows.now.items (base_kept o) (commits_kept o) c.args.commit)) (sym (ap (option_map (λ r. r.now)) c.in-Some.is))

pub returns-in-None : goal.returns-in-None
returns-in-None c =
    ap (λ (o : Option Record). base_cost c.args.row.now.collection c.args.row.now.id (document_in c.args.horizon c.args.rows.now.items (base_kept o) (commits_kept o) c.args.commit)) (sym (ap (option_map (λ r. r.now)) c.in-None.is))
