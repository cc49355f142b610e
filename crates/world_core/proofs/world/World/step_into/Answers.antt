-- the line of the step, if any, was appended
use Rattle.std.specs.Prelude.{option_to_list}
use Rattle.world_core.proofs.world.World.step_into.Goals as goal

pub returns : goal.returns
returns c = (option_to_list c.in_ok-line.line, c.in_ok-line.ensures, c.in_ok-append.ensures)
