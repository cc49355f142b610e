use Rattle.std.proofs.Common.{◌∙◌, ap, sym}
use Rattle.std.specs.Prelude.{slice_get, List}
use Rattle.query_core.specs.Window.{Row}
use Rattle.match_sets.specs.Rows.{is_of_some}
use Rattle.match_sets.proofs.Positions.{gone_found, none_found, own_found}
use Rattle.match_sets.proofs.edits.take_out_row.Goals as goal

-- the row at the position is that of the id
pub returns-then-is_at-clause-without : goal.returns-then-is_at-clause-without
returns-then-is_at-clause-without c = λ up old.
    let here =
    ap (λ (l : List Row). is_of_some c.args.id.now (slice_get l c.position_of-position.result)) (sym c.as_slice-2.ensures.value) ∙ sym c.is_at.ensures.is_at ∙ c.if-is_at.true in
    c.remove-row.ensures.items ∙ gone_found c.args.order.now c.args.id.now c.args.document.now c.as_slice.result.now c.args.rows.now.items c.position_of-position.result c.as_slice.ensures.value c.position_of-position.ensures.point here up old

-- there is none of the id
pub returns-else-is_at-clause-without : goal.returns-else-is_at-clause-without
returns-else-is_at-clause-without c = λ up old.
    let here =
    ap (λ (l : List Row). is_of_some c.args.id.now (slice_get l c.position_of-position.result)) (sym c.as_slice-2.ensures.value) ∙ sym c.is_at.ensures.is_at ∙ c.if-is_at.false in
    none_found c.args.order.now c.args.id.now c.args.document.now c.as_slice.result.now c.args.rows.now.items c.position_of-position.result c.as_slice.ensures.value c.position_of-position.ensures.point here up old

-- and it is of the id
pub returns-then-is_at-clause-own : goal.returns-then-is_at-clause-own
returns-then-is_at-clause-own c =
    own_found c.args.id.now c.args.rows.now.items c.position_of-position.result c.remove-row.result
    (ap (λ (l : List Row). is_of_some c.args.id.now (slice_get l c.position_of-position.result)) (sym c.as_slice-2.ensures.value) ∙ sym c.is_at.ensures.is_at ∙ c.if-is_at.true) c.remove-row.ensures.value
