use Rattle.std.proofs.Common.{ℕ, ◌<◌, IsTrue}
use Rattle.client_web.specs.State.{is_entry}
use Rattle.client_web.proofs.state.has_entries.Given as goal

-- each entry before this one is one
abbrev pub invariant-loop-i : goal.invariant-loop-i
invariant-loop-i l = (j : ℕ) → j < l.i → IsTrue (is_entry l.text j)
