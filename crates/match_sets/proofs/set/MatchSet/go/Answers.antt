use Rattle.match_sets.proofs.EditLemmas.{told_made}
use Rattle.match_sets.proofs.set.MatchSet.go.Goals as goal

-- what is told comes from the positions
pub returns-in-Ok-clause-told : goal.returns-in-Ok-clause-told
returns-in-Ok-clause-told c = told_made c.args.self.now c.apply.new.self c.args.row.now c.args.verdict c.in_ok-made.made.0 c.in-Ok.step c.apply.ensures.query c.in_ok-made.ensures.placed c.in-Ok.ensures
