-- no seat is out but the main one, which has seen the history as it is
use Rattle.std.proofs.Common.{refl, ap, length}
use Rattle.quaestor_serve.proofs.HallLemmas.{beside_none, settled}
use Rattle.quaestor_serve.proofs.ServesLemmas.{gathered_both, gathered_seen}
use Rattle.quaestor_serve.proofs.matchers.stop_matchers.Goals as goal

pub returns-clause-gathers : goal.returns-clause-gathers
returns-clause-gathers g c =
    gathered_both g.C.Clock.tick c.args.trim (g.C.Clone.is_clone c.args.given.now) c.args.hall.now c.join_matchers.new.hall _ c.join_matchers.ensures.gathers
    (gathered_seen g.C.Clock.tick c.args.trim (g.C.Clone.is_clone c.args.given.now) c.join_matchers.new.hall _ refl c.settle.ensures.more (ap (λ m. m.0.met) c.settle.ensures.view))

pub returns-clause-whole : goal.returns-clause-whole
returns-clause-whole g c = λ out. settled c.join_matchers.new.hall.seat c.settle.new.seat c.settle.ensures.view c.join_matchers.new.hall.seated.2 (c.join_matchers.ensures.out 0 (beside_none (length c.args.matchers.items) c.args.hall.now.seat out)) c.settle.ensures.alone c.settle.ensures.whole c.settle.ensures.sound
