use Rattle.std.proofs.Common.{rules}
use Rattle.turnstile.proofs.Steps.{acquire_keeps}
use Rattle.turnstile.proofs.gate.Turnstile.try_acquire.Goals as goal

-- the word 0 is set to 1 where it was 0
pub compare_exchange-requires : goal.compare_exchange-requires
compare_exchange-requires g c = (search rules, search rules, acquire_keeps _ _ _ _ _ _ _ c.requires.1)
