use Rattle.match_sets.proofs.EditLemmas.{applied_rows, applied_whole, applied_placed}
use Rattle.match_sets.proofs.UndoLemmas.{made_from}
use Rattle.match_sets.proofs.set.MatchSet.apply.Goals as goal

-- more memory leaves the rows
pub returns-clause-rows : goal.returns-clause-rows
returns-clause-rows c = applied_rows c.args.self.now c.reserve.new.self c.args.row.now c.args.verdict c.in_ok-new.new c.reserve.ensures.same c.in_ok-new.ensures _ c.change.ensures.rows

pub returns-clause-whole : goal.returns-clause-whole
returns-clause-whole c = applied_whole c.args.self.now c.reserve.new.self c.args.row.now c.args.verdict c.in_ok-new.new c.reserve.ensures.same c.in_ok-new.ensures _ c.change.ensures.whole

pub returns-clause-placed : goal.returns-clause-placed
returns-clause-placed c = applied_placed c.args.self.now c.reserve.new.self c.args.row.now c.args.verdict c.in_ok-new.new c.reserve.ensures.same c.in_ok-new.ensures _ c.change.ensures.placed

pub returns-clause-undo : goal.returns-clause-undo
returns-clause-undo c = made_from c.args.self.now c.reserve.new.self c.change.new.self _ c.reserve.ensures.same c.change.ensures.undo
