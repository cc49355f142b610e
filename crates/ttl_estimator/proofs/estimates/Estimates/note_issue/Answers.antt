use Rattle.std.proofs.Common.{Some, sym}
use Rattle.ttl_estimator.proofs.EstimateLemmas.{known_after}
use Rattle.ttl_estimator.proofs.estimates.Estimates.note_issue.Goals as goal

-- the entry of the key was written
pub returns-clause-known : goal.returns-clause-known
returns-clause-known c =
    rw (← c.self.view_is)
    (known_after c.self.inside.keys _ c.args.key.now c.in-Some.kept.now (Some c.issued.result) (sym c.in-Some.ensures.value) (c.get_mut.follows.holds (Some c.issued.result)))
