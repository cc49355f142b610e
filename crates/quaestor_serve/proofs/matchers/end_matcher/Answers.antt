-- the matcher's seat was joined
use Rattle.std.proofs.Common.{refl, ap, subst}
use Rattle.quaestor_serve.specs.Kept.{HubTurnstile}
use Rattle.quaestor_serve.specs.Matchers.{HasRested}
use Rattle.quaestor_serve.proofs.HallLemmas.{gathered}
use Rattle.quaestor_serve.proofs.matchers.end_matcher.Goals as goal

pub returns-clause-gathers : goal.returns-clause-gathers
returns-clause-gathers g c =
    let ended = c.finish_matcher-seat.ensures in
    gathered g.C.Clock.tick c.args.trim (g.C.Clone.is_clone c.args.given.now) c.args.hall.now _ ended.0 c.finish_matcher-seat.result refl ended.1 (subst (λ (t : HubTurnstile). HasRested g.C.Clock.tick c.args.trim t ended.0 c.finish_matcher-seat.result) c.deref.ensures ended.2)
    c.join.ensures.this c.join.ensures.that (ap (λ m. m.0.met) c.join.ensures.view) c.join.ensures.sound.once

pub returns-clause-out : goal.returns-clause-out
returns-clause-out g c = λ others was. c.join.ensures.out others was c.finish_matcher-seat.ensures.2.part
