use Rattle.std.proofs.Common.{rules}
use Rattle.turnstile.proofs.Outs.{out_after_split}
use Rattle.turnstile.proofs.Steps.{split_keeps}
use Rattle.turnstile.proofs.gate.Turnstile.split.Goals as goal

pub split_seat-requires : goal.split_seat-requires
split_seat-requires g c = (search rules, search rules, split_keeps _ _ _ _ _ _ c.requires.1)

pub returns-clause-out : goal.returns-clause-out
returns-clause-out g c n o = out_after_split _ _ _ _ _ c.split_seat.ensures.2 c.split_seat.ensures.4 n o
