-- the store was filled at one seat
use Rattle.std.proofs.Common.{ap, ◌∙◌}
use Rattle.hub_desk.specs.Seated.{turnstile_of, seat_of}
use Rattle.quaestor_serve.proofs.FilledLemmas.{filled_after, written_after}
use Rattle.turnstile.specs.Seats.{mine}
use Rattle.quaestor_serve.proofs.serving.fill_at.Goals as goal

pub returns-clause-filled : goal.returns-clause-filled
returns-clause-filled g c =
    let first = c.unpaced-desk.result in
    let last = c.fill-filled.new.desk in
    let tied = c.fill-filled.ensures.anchor in
    filled_after c.args.turnstile.now (turnstile_of first) (turnstile_of last) c.args.seat (seat_of first) (seat_of last) c.into_seat-seat.result c.settle.new.seat
    c.unpaced-desk.ensures.turnstile c.unpaced-desk.ensures.seat (ap (λ a. a.0) tied) (ap (λ a. a.1.1.0) tied) (ap (λ a. a.1.1.1.1.1) tied) c.into_seat-seat.ensures.seat c.into_seat-seat.ensures.own c.into_seat-seat.ensures.idle
    c.requires c.fill-filled.ensures.fills c.settle.ensures.same c.settle.ensures.view c.settle.ensures.sound

pub returns-clause-written : goal.returns-clause-written
returns-clause-written g c =
    written_after c.fill-filled.result (g.Q.Keeper.kept c.args.keeper.now) (mine (seat_of c.unpaced-desk.result)) (mine (seat_of c.fill-filled.new.desk)) (mine c.settle.new.seat)
    (ap mine c.unpaced-desk.ensures.seat ∙ c.requires.mine) (ap (λ m. m.0.mine) c.settle.ensures.view ∙ ap mine c.into_seat-seat.ensures.seat) c.fill-filled.ensures.written

pub returns-clause-none : goal.returns-clause-none
returns-clause-none g c = λ never. ap (λ m. m.0.mine) c.settle.ensures.view ∙ ap mine c.into_seat-seat.ensures.seat ∙ (c.fill-filled.ensures.none never).1 ∙ ap mine c.unpaced-desk.ensures.seat ∙ c.requires.mine
