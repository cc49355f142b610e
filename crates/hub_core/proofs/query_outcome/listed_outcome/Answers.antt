-- the commit itself is the greatest with its result, and the book keeps the texts of the rows
use Rattle.std.proofs.Common.{sym, ap, ◌∙◌}
use Rattle.query_normal.specs.declared.key.KeyShape.TheVariants.{Query}
use Rattle.hub_model.specs.Journal.{result_at}
use Rattle.hub_model.specs.Reply.{outcome_of}
use Rattle.hub_core.proofs.QueryLemmas.{itself-greatest, rows-kept}
use Rattle.hub_core.proofs.query_outcome.listed_outcome.Goals as goal

pub returns-then-is_listed : goal.returns-then-is_listed
returns-then-is_listed c =
    let key = Query c.args.kind c.args.query.now in
    let journal = c.args.book.now.journal in
    ap (outcome_of (result_at key journal c.args.commit))
    (sym ((c.the_greatest_same_result_is_told.ensures.told key journal c.args.book.now.horizon c.args.commit c.args.tags.now c.args.commit).1
    (itself-greatest key journal c.args.book.now.horizon c.args.commit c.args.tags.now c.requires.above (sym c.is_listed.ensures ∙ c.if-is_listed.true))))

pub text_of-requires-clause-kept : goal.text_of-requires-clause-kept
text_of-requires-clause-kept c =
    rows-kept c.args.book.now.journal c.args.commit c.args.query.now c.args.rows.now
    (c.collections_have_the_documents_of_their_records.ensures c.args.book.now.journal c.args.commit c.args.query.now.collection) c.requires.rows
