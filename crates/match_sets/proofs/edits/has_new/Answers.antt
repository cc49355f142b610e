use Rattle.std.proofs.Common.{◌∙◌}
use Rattle.match_sets.proofs.EditLemmas.{is_kept}
use Rattle.match_sets.proofs.edits.has_new.Goals as goal

-- the version does not count
pub returns-in-Some : goal.returns-in-Some
returns-in-Some c = c.keeps_with.ensures c.args.row.now.commit ∙ is_kept c.args.order.now c.args.whole c.args.rows.now c.args.row.now c.in-Some.document c.args.after c.in-Some.is c.if-after.true
