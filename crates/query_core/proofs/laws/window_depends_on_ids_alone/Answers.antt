use Rattle.query_core.proofs.WindowLemmas.{window_alike}
use Rattle.query_core.proofs.laws.window_depends_on_ids_alone.Goals as goal

-- rows that tie have one id
pub returns : goal.returns
returns c = window_alike
