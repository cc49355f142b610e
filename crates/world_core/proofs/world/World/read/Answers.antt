-- the line is that of what was read
use Rattle.std.proofs.Common.{[], ◌∷◌, ap}
use Rattle.std.proofs.lemmas.Result.{IfOk-weaker}
use Rattle.world_core.specs.declared.line.ReadLine.{ReadLine}
use Rattle.world_core.proofs.world.World.read.Goals as goal

pub returns : goal.returns
returns c = IfOk-weaker c.of.result _ _ (λ line e. (c.in_ok-out.out, c.in_ok-out.ensures, ap (λ (l : ReadLine). l ∷ []) e)) c.of.ensures
