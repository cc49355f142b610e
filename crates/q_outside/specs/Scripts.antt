-- Internal. What one call of a source or sink in memory moves.
use Rattle.std.specs.Prelude.{ℕ, max}
use Rattle.q_outside.specs.declared.script.ScriptStep.{ScriptStep}
use Rattle.q_outside.specs.declared.script.ScriptStep.TheVariants.{Fails, Moves}

-- the most bytes that it moves: at least one, and without a limit where it is no fault after all
abbrev pub most_of : ScriptStep → ℕ
most_of Fails = 18446744073709551615
most_of (Moves most) = max most 1
