-- one matcher more works in the hall
use Rattle.std.proofs.Common.{◌+◌, length, rules}
use Rattle.std.specs.Arc.{arc_value}
use Rattle.quaestor_serve.proofs.HallLemmas.{one_more_out}
use Rattle.quaestor_serve.proofs.ServesLemmas.{work_more, works_with}
use Rattle.quaestor_serve.proofs.matchers.start_matchers.Goals as goal

pub loop-n-preserved : goal.loop-n-preserved
loop-n-preserved g c = (
  search rules,
  search rules,
  work_more g.C.Clock.tick c.args.crew.trim (g.C.Clone.is_clone c.args.clock.now) (arc_value c.loop-n.hall.turnstile) c.loop-n.matchers.items c.push_back_reserved.new.self.items c.begin_matcher-matcher.result (search rules) c.loop-n.invariant.2
      (works_with g.C.Clock.tick c.args.crew.trim (g.C.Clone.is_clone c.args.clock.now) c.in_ok-clock.clock _ _ c.begin_matcher-matcher.result (search rules) c.in_ok-clock.ensures.cases c.begin_matcher-matcher.ensures),
  search rules,
  search rules,
  λ others was. one_more_out c.loop-n.matchers.items c.push_back_reserved.new.self.items c.begin_matcher-matcher.result c.split-seat.new.seat others c.push_back_reserved.ensures.items (c.split-seat.ensures.out (others + length c.loop-n.matchers.items) (c.loop-n.invariant.5 others was)).0,
)
