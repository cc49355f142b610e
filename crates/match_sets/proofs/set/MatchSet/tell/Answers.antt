use Rattle.std.proofs.Common.{◌≡◌, IfOk, List, subst}
use Rattle.query_core.specs.Window.{Row}
use Rattle.match_sets.specs.declared.steps.MatchStep.{MatchStep}
use Rattle.match_sets.specs.Told.{step_in}
use Rattle.match_sets.proofs.set.MatchSet.tell.Goals as goal

pub returns : goal.returns
returns c =
    rw (← c.self.view_is)
    (subst (λ (rows : List Row). IfOk c.told.result (λ (step : MatchStep). step ≡ step_in c.self.inside.query rows c.args.places.old c.args.places.new)) c.as_slice.ensures.value c.told.ensures)
