-- all was matched at one seat
use Rattle.std.proofs.Common.{rules, ap}
use Rattle.std.specs.Arc.{arc_value}
use Rattle.hub_desk.specs.Seated.{turnstile_of, seat_of}
use Rattle.quaestor_serve.proofs.RestLemmas.{rested_fresh, rested_after}
use Rattle.quaestor_serve.proofs.matchers.match_there.Goals as goal

pub returns : goal.returns
returns g c =
    let first = c.new-desk.result in
    let last = c.work_until_stopped.new.desk in
    let tied = c.work_until_stopped.ensures.anchor in
    rested_after g.C.Clock.tick c.args.trim (arc_value c.args.turnstile) (turnstile_of first) (turnstile_of last) c.args.seat (seat_of first) (seat_of last) c.into_seat.result c.args.clock c.args.clock c.work_until_stopped.new.clock
    (search rules) c.new-desk.ensures.seat (ap (λ a. a.0) tied) (ap (λ a. a.1.1.0) tied) (ap (λ a. a.1.1.1.1.1) tied) c.into_seat.ensures.seat c.into_seat.ensures.own c.into_seat.ensures.idle (rested_fresh g.C.Clock.tick c.args.trim (arc_value c.args.turnstile) c.args.seat c.args.clock c.requires) c.work_until_stopped.ensures.matches
