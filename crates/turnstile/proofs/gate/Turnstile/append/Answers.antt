use Rattle.std.proofs.Common.{rules}
use Rattle.turnstile.proofs.Steps.{append_keeps}
use Rattle.turnstile.proofs.gate.Turnstile.append.Goals as goal

pub fetch_add-requires : goal.fetch_add-requires
fetch_add-requires g c = (search rules, search rules, append_keeps _ _ _ _ _ _ _ _ _ c.requires.own.1 c.requires.known c.requires.count c.requires.space c.requires.legal)
