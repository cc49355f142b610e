use Rattle.turnstile.proofs.Outs.{out_none}
use Rattle.turnstile.proofs.gate.Turnstile.settle.Goals as goal

pub returns-clause-alone : goal.returns-clause-alone
returns-clause-alone g c o = out_none _ _ o
