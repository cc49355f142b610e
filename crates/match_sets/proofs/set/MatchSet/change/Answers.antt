use Rattle.std.proofs.Common.{◌∙◌, refl}
use Rattle.match_sets.proofs.EditLemmas.{rows_changed, whole_changed, placed_changed}
use Rattle.match_sets.proofs.set.MatchSet.change.Goals as goal

-- edit by edit
pub returns-clause-rows : goal.returns-clause-rows
returns-clause-rows c =
    rw (← c.self.view_is)
    (λ ready few.
    rows_changed c.self.inside.query.order c.self.inside.whole c.args.before _ c.limit_of.result c.limit_of.ensures c.args.row.now c.self.inside.rows.items c.as_slice.result.now _ _ _ c.as_slice.ensures.value c.args.new _ _ _ c.cut-cut.result c.kept_part-new.ensures c.take_out-taken.ensures.taken c.take_out-taken.ensures.own c.take_out-taken.ensures.without
    c.put_in-put.ensures.put c.put_in-put.ensures.placed c.cut-cut.ensures.kept c.cut-cut.ensures.is_cut ready few)

pub returns-clause-whole : goal.returns-clause-whole
returns-clause-whole c =
    rw (← c.self.view_is)
    (λ ready.
    c.still_whole-self-inside.ensures
    ∙ whole_changed c.self.inside.query.order c.self.inside.whole c.args.before _ c.limit_of.result c.limit_of.ensures c.args.row.now c.self.inside.rows.items c.as_slice.result.now _ _ _ c.as_slice.ensures.value c.args.new _ _ _ c.cut-cut.result c.kept_part-new.ensures c.take_out-taken.ensures.taken c.take_out-taken.ensures.own c.take_out-taken.ensures.without
    c.put_in-put.ensures.put c.put_in-put.ensures.placed c.cut-cut.ensures.kept c.cut-cut.ensures.is_cut ready)

pub returns-clause-placed : goal.returns-clause-placed
returns-clause-placed c =
    rw (← c.self.view_is)
    (λ ready.
    placed_changed c.self.inside.query.order c.self.inside.whole c.args.before _ c.limit_of.result c.limit_of.ensures c.args.row.now c.self.inside.rows.items c.as_slice.result.now _ _ _ c.as_slice.ensures.value c.args.new _ _ _ c.cut-cut.result c.kept_part-new.ensures c.take_out-taken.ensures.taken c.take_out-taken.ensures.own c.take_out-taken.ensures.without
    c.put_in-put.ensures.put c.put_in-put.ensures.placed c.cut-cut.ensures.kept c.cut-cut.ensures.is_cut ready _ c.position_taken.ensures refl)
