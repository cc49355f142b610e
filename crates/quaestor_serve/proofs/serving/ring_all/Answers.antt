-- the cause is that of the last round
use Rattle.quaestor_serve.specs.Served.{IsAtLog, KeptBy}
use Rattle.std.proofs.Common.{◌≡◌, true, arith, rules, sym, ap, subst, ◌∙◌}
use Rattle.hub_model.specs.Setting.{Setting}
use Rattle.quaestor_serve.specs.Kept.{HubTurnstile, setting_at}
use Rattle.quaestor_serve.specs.Matchers.{WorksAt}
use Rattle.turnstile.specs.Places.{AllOf}
use Rattle.quaestor_serve.specs.declared.serve_end.ServeWhy.TheVariants.{Memory, Closed, DoorFault}
use Rattle.quaestor_serve.proofs.ServesLemmas.{ended_by}
use Rattle.quaestor_serve.proofs.serving.ring_all.Goals as goal
use Rattle.quaestor_serve.proofs.serving.ring_all.Goals.{in-NoMemory, in-Closed, in-Fault}

pub returns-in-loop-given-clause-ends : goal.returns-in-loop-given-clause-ends
returns-in-loop-given-clause-ends g c = λ base first going.
    let before = c.loop-given.invariant.4 base first going in
    let less = c.loop-given-test.true in
    elim c.match-ring.branch [
      | in-NoMemory w ↦ ended_by g.P.From.Source.at g.P.To.Sink.at g.P.To.Sink.ended g.C.Clock.tick (KeptBy g.Q.Hand.Keeping.log g.Q.Hand.Keeping.keeps) (g.C.Clone.is_clone c.args.clock.now) (IsAtLog g.Q.Hand.Keeping.log (g.Q.Keeper.log c.args.keeper.now)) base first _ _ c.loop-given.given c.args.connections c.match-ring.why Memory w.why-is (w.in-NoMemory.ensures.going (g.Q.Keeper.log c.args.keeper.now) base first c.loop-given.invariant.8 before) (omega (arith, less))
      | in-Closed w ↦ ended_by g.P.From.Source.at g.P.To.Sink.at g.P.To.Sink.ended g.C.Clock.tick (KeptBy g.Q.Hand.Keeping.log g.Q.Hand.Keeping.keeps) (g.C.Clone.is_clone c.args.clock.now) (IsAtLog g.Q.Hand.Keeping.log (g.Q.Keeper.log c.args.keeper.now)) base first _ _ c.loop-given.given c.args.connections c.match-ring.why Closed w.why-is (w.in-Closed.ensures.going (g.Q.Keeper.log c.args.keeper.now) base first c.loop-given.invariant.8 before) less
      | in-Fault w ↦ let failed = w.in-Fault.ensures.going (g.Q.Keeper.log c.args.keeper.now) base first c.loop-given.invariant.8 before in ended_by g.P.From.Source.at g.P.To.Sink.at g.P.To.Sink.ended g.C.Clock.tick (KeptBy g.Q.Hand.Keeping.log g.Q.Hand.Keeping.keeps) (g.C.Clone.is_clone c.args.clock.now) (IsAtLog g.Q.Hand.Keeping.log (g.Q.Keeper.log c.args.keeper.now)) base first _ _ c.loop-given.given c.args.connections c.match-ring.why DoorFault w.why-is failed.0 (less, failed.1)
    ]

pub loop-given-preserved : goal.loop-given-preserved
loop-given-preserved g c = (
  search rules,
  search rules,
  search rules,
  subst (λ (t : HubTurnstile). AllOf (λ m. WorksAt g.C.Clock.tick c.args.trim (g.C.Clone.is_clone c.args.clock.now) t m) c.step_all.new.matchers.items) c.deref.ensures c.step_all.ensures.work,
  λ base first going. c.in-Came.ensures.going (g.Q.Keeper.log c.args.keeper.now) base first c.loop-given.invariant.8 (c.loop-given.invariant.4 base first going),
  λ others was. c.ring.ensures.out others (c.loop-given.invariant.5 others was),
  c.step_all.ensures.count ∙ c.loop-given.invariant.6,
  c.ring.ensures.keeper ∙ c.loop-given.invariant.7,
  c.ring.ensures.log ∙ c.loop-given.invariant.8,
)

pub returns-in-loop-given-clause-out : goal.returns-in-loop-given-clause-out
returns-in-loop-given-clause-out g c = λ others was. c.ring.ensures.out others (c.loop-given.invariant.5 others was)

pub ring-requires-clause-keeps : goal.ring-requires-clause-keeps
ring-requires-clause-keeps g c = λ lifetimes outlives fails. subst (λ (s : Setting). s.keeps ≡ true) (sym (ap setting_at c.loop-given.invariant.2.0)) (c.requires.keeps (sym c.loop-given.invariant.7 ∙ fails))
