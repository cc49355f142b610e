use Rattle.std.proofs.Common.{Bool, ◌∙◌, sym, ap}
use Rattle.match_sets.specs.Told.{place_where}
use Rattle.match_sets.proofs.TellLemmas.{position_std}
use Rattle.match_sets.proofs.set.place_where.Goals as goal

-- the first position of the id
pub returns-then-wanted : goal.returns-then-wanted
returns-then-wanted c = c.position_by_id.ensures ∙ position_std c.args.id.now c.args.rows.now ∙ sym (ap (λ (b : Bool). place_where b c.args.id.now c.args.rows.now) c.if-wanted.true)
