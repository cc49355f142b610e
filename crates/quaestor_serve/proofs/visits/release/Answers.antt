-- a connection has left, and its seat was joined
use Rattle.quaestor_serve.specs.Served.{KeptBy}
use Rattle.std.proofs.Common.{refl, ap, sym, subst}
use Rattle.hub_desk.specs.HubValue.{hub_setting}
use Rattle.quaestor_serve.specs.Kept.{HubTurnstile}
use Rattle.turnstile.specs.Seats.{IsSeatOf}
use Rattle.quaestor_serve.proofs.HallLemmas.{keeps_without, ready_without, released, seat_at}
use Rattle.quaestor_serve.proofs.visits.release.Goals as goal

pub join-requires-clause-own : goal.join-requires-clause-own
join-requires-clause-own g c = (
  subst (λ (t : HubTurnstile). IsSeatOf hub_setting t c.args.hall.now.seat) (sym c.deref.ensures) c.args.hall.now.seated.0,
  seat_at g.S.Source.at g.K.Sink.at g.K.Sink.ended g.C.Clock.tick (KeptBy g.H.Keeping.log g.H.Keeping.keeps) _ c.deref.result.now c.args.hall.now.running.items c.swap_remove_back.new.self.items c.in-Some.running c.finish-seat.result c.in-Some.ensures.permutation c.deref.ensures c.requires.ready.0 c.finish-seat.ensures,
)

pub returns-clause-ready : goal.returns-clause-ready
returns-clause-ready g c = ready_without _ c.deref.result.now c.args.hall.now.running.items c.swap_remove_back.new.self.items c.in-Some.running _ c.in-Some.ensures.permutation c.deref.ensures c.requires.ready.0 c.join.ensures.legal

pub returns-clause-releases : goal.returns-clause-releases
returns-clause-releases g c = released g.S.Source.at g.K.Sink.at g.K.Sink.ended g.C.Clock.tick (KeptBy g.H.Keeping.log g.H.Keeping.keeps) c.args.hall.now _ c.in-Some.running c.finish-seat.result c.in-Some.ensures.permutation refl c.requires.ready.0 c.finish-seat.ensures c.join.ensures.this c.join.ensures.that (ap (λ m. m.0.met) c.join.ensures.view) c.join.ensures.sound.once

pub returns-clause-out : goal.returns-clause-out
returns-clause-out g c = keeps_without c.args.hall.now.running.items c.swap_remove_back.new.self.items c.args.hall.now.seat c.join.new.into c.in-Some.running c.in-Some.ensures.permutation (λ n was. c.join.ensures.out n was c.finish-seat.ensures.part)
