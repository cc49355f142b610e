-- all was matched at one seat
use Rattle.std.proofs.Common.{ap}
use Rattle.hub_desk.specs.Seated.{turnstile_of, seat_of}
use Rattle.quaestor_serve.proofs.RestLemmas.{rested_after}
use Rattle.quaestor_serve.proofs.matchers.match_here.Goals as goal

pub returns : goal.returns
returns g c = λ begun is.
    let first = c.new-desk.result in
    let last = c.match_and_tell.new.desk in
    let tied = c.match_and_tell.ensures.anchor in
    rested_after g.C.Clock.tick c.args.trim c.args.turnstile.now (turnstile_of first) (turnstile_of last) c.args.rested.seat (seat_of first) (seat_of last) c.into_seat.result begun c.args.rested.clock c.match_and_tell.new.clock
    c.new-desk.ensures.turnstile c.new-desk.ensures.seat (ap (λ a. a.0) tied) (ap (λ a. a.1.1.0) tied) (ap (λ a. a.1.1.1.1.1) tied) c.into_seat.ensures.seat c.into_seat.ensures.own c.into_seat.ensures.idle is c.match_and_tell.ensures.matches
