use Rattle.std.proofs.Common.{rules}
use Rattle.turnstile.proofs.Steps.{observe_keeps}
use Rattle.turnstile.proofs.gate.Turnstile.observe.Goals as goal

pub load-requires : goal.load-requires
load-requires g c = (search rules, search rules, observe_keeps _ _ _ _ _ _ _ c.requires.1)
