-- the matcher that had its turn is behind the others
use Rattle.std.proofs.Common.{[], ◌∷◌, length, ap, ◌∙◌, arith, length-append}
use Rattle.quaestor_serve.proofs.ServesLemmas.{work_turned}
use Rattle.quaestor_serve.proofs.matchers.step_all.Goals as goal

pub loop-n-preserved : goal.loop-n-preserved
loop-n-preserved g c = (
  work_turned g.C.Clock.tick c.args.trim (g.C.Clone.is_clone c.args.given.now) c.args.turnstile.now c.loop-n.matchers.items c.pop_front.new.self.items c.push_back_reserved.new.self.items c.in-Some.matcher c.step-matcher.result c.in-Some.ensures.items c.push_back_reserved.ensures.items c.loop-n.invariant.0 c.step-matcher.ensures,
  (let taken = ap length c.in-Some.ensures.items in let put = ap length c.push_back_reserved.ensures.items ∙ length-append c.pop_front.new.self.items (c.step-matcher.result ∷ []) in let before = c.loop-n.invariant.1 in omega (arith, taken, put, before)),
)
