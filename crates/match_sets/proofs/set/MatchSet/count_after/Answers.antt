use Rattle.match_sets.specs.Rows.{new_row}
use Rattle.match_sets.proofs.EditLemmas.{counted_rows}
use Rattle.match_sets.proofs.set.MatchSet.count_after.Goals as goal

-- the old row is counted off, and the new one counted
pub returns : goal.returns
returns c =
    rw (← c.self.view_is)
    (counted_rows c.self.inside.query.order c.self.inside.whole c.args.verdict.before c.args.row.now c.self.inside.rows.items c.as_slice-rows.result.now (new_row c.args.row.now c.args.verdict.after) c.has_old.result c.has_new.result c.count.result c.count-2.result c.as_slice-rows.ensures.value c.has_old.ensures c.count.ensures c.has_new.ensures c.count-2.ensures)
