use Rattle.std.proofs.Common.{rules}
use Rattle.turnstile.proofs.Outs.{out_after_join, out_none}
use Rattle.turnstile.proofs.Steps.{join_keeps}
use Rattle.turnstile.proofs.gate.Turnstile.join.Goals as goal

pub join_seat-requires : goal.join_seat-requires
join_seat-requires g c = (search rules, search rules, search rules, search rules, join_keeps _ _ _ _ _ _ _ _ c.requires.own.0.1 c.requires.idle.0.0 c.requires.idle.1.0)

pub returns-clause-out : goal.returns-clause-out
returns-clause-out g c n o part = out_after_join c.args.into.now.me.0 c.args.other.me.0 _ _ _ c.join_seat.ensures.2 c.observe.ensures.observed.1 n o part

pub returns-clause-alone : goal.returns-clause-alone
returns-clause-alone g c o = out_none _ _ o
