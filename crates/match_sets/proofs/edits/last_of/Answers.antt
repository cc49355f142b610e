use Rattle.std.proofs.Common.{◌∙◌}
use Rattle.match_sets.proofs.KeptLemmas.{last_get}
use Rattle.match_sets.proofs.edits.last_of.Goals as goal

pub returns : goal.returns
returns c = c.last.ensures.value ∙ last_get c.args.rows.now
