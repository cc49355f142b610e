-- one matcher more was joined
use Rattle.std.proofs.Common.{◌+◌, length, ap, arith}
use Rattle.quaestor_serve.proofs.HallLemmas.{one_less_out, none_out}
use Rattle.quaestor_serve.proofs.ServesLemmas.{gathered_none, gathered_both, work_rest}
use Rattle.quaestor_serve.proofs.matchers.join_matchers.Goals as goal

pub loop-n-init : goal.loop-n-init
loop-n-init g c = (c.requires.ready, gathered_none g.C.Clock.tick c.args.trim (g.C.Clone.is_clone c.args.given.now) c.args.hall.now, c.requires.work, omega arith, λ others was. was)

pub loop-n-preserved : goal.loop-n-preserved
loop-n-preserved g c = (
  c.end_matcher.ensures.ready,
  gathered_both g.C.Clock.tick c.args.trim (g.C.Clone.is_clone c.args.given.now) c.args.hall.now c.loop-n.hall c.end_matcher.new.hall c.loop-n.invariant.1 c.end_matcher.ensures.gathers,
  work_rest g.C.Clock.tick c.args.trim (g.C.Clone.is_clone c.args.given.now) c.loop-n.hall c.end_matcher.new.hall c.loop-n.matchers.items c.pop_front.new.self.items c.in-Some.matcher c.in-Some.ensures.items c.end_matcher.ensures.gathers.turnstile c.loop-n.invariant.2,
  (let size = ap length c.in-Some.ensures.items in let before = c.loop-n.invariant.3 in omega (arith, size, before)),
  λ others was. c.end_matcher.ensures.out (others + length c.pop_front.new.self.items) (one_less_out c.loop-n.matchers.items c.pop_front.new.self.items c.in-Some.matcher c.loop-n.hall.seat others c.in-Some.ensures.items (c.loop-n.invariant.4 others was)),
)

pub returns-clause-out : goal.returns-clause-out
returns-clause-out g c = λ others was. none_out c.loop-n.matchers.items c.loop-n.hall.seat others (let before = c.loop-n.invariant.3 in omega (arith, before, c.loop-n-test.false)) (c.loop-n.invariant.4 others was)
