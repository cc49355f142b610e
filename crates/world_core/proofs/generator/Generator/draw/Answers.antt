-- each step of the generator wraps, and so does their sum
use Rattle.std.proofs.Common.{◌*◌}
use Rattle.std.proofs.Math.Nat.{mod-add-mod}
use Rattle.world_core.specs.Draws.{next_number}
use Rattle.world_core.proofs.generator.Generator.draw.Goals as goal

pub returns-clause-number : goal.returns-clause-number
unfolding next_number
returns-clause-number c = mod-add-mod (c.args.self.now.number * 6364136223846793005) 18446744073709551616 1442695040888963407
