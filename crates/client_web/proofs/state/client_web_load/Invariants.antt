use Rattle.client_core.specs.Table.{HasPast}
use Rattle.client_web.specs.State.{past_to}
use Rattle.client_web.proofs.state.client_web_load.Given as goal

-- floors and rows are of the past that the entries before this one tell
abbrev pub invariant-loop-i : goal.invariant-loop-i
invariant-loop-i l = HasPast l.floors l.rows (past_to l.text l.i)
