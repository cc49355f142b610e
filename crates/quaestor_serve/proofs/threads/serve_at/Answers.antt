-- the conversation was at the thread's seat
use Rattle.quaestor_serve.specs.Served.{KeptBy}
use Rattle.std.proofs.Common.{◌≡◌, true, refl, ap, sym, ◌∙◌, subst}
use Rattle.hub_desk.specs.HubValue.{hub_setting}
use Rattle.hub_desk.specs.Seated.{turnstile_of, seat_of}
use Rattle.quaestor_serve.specs.Kept.{HubTurnstile, setting_at}
use Rattle.quaestor_serve.proofs.KeptLemmas.{kept_after, kept_by_hand}
use Rattle.turnstile.specs.Seats.{IsSeatOf}
use Rattle.quaestor_serve.proofs.threads.serve_at.Goals as goal

pub new-desk-requires : goal.new-desk-requires
new-desk-requires g c = λ fails. subst (λ (t : HubTurnstile). (setting_at t).keeps ≡ true) (sym c.new-seated.ensures.turnstile) (c.requires.keeps fails)

pub returns : goal.returns
returns g c =
    let first = c.new-desk.result.desk in
    let last = c.serve_visits-served.new.desk.desk in
    let left = c.into_parts-seated.result.0 in
    let tied = c.serve_visits-served.ensures.anchor in
    let at = ap turnstile_of c.new-desk.ensures.desk ∙ c.new-seated.ensures.turnstile in
    let here = ap seat_of c.new-desk.ensures.desk ∙ c.new-seated.ensures.seat in
    let own = subst (λ (t : HubTurnstile). IsSeatOf hub_setting t c.into_seat.result) (ap turnstile_of c.into_parts-seated.ensures.desk) c.into_seat.ensures.own in
    kept_after g.S.Source.at g.K.Sink.at g.K.Sink.ended g.C.Clock.tick (KeptBy g.H.Keeping.log g.H.Keeping.keeps) _ c.args.turnstile.now (turnstile_of first) (turnstile_of last) c.args.seat (seat_of first) (seat_of last) c.into_seat.result c.args.source c.serve_visits-served.new.source c.args.sink c.serve_visits-served.new.sink c.end.new.self c.args.clock c.serve_visits-served.new.clock c.args.hand c.serve_visits-served.result
    (λ n stood. subst (λ (h : g.row.H.Denot). KeptBy g.H.Keeping.log g.H.Keeping.keeps h n) c.new-desk.ensures.hand (kept_by_hand (λ d. d.hand) _ _ _ _ g.H.Keeping.log g.H.Keeping.keeps _ _ c.new-desk.result.hand (λ d. refl) (λ d all. all.0) n stood))
    at here (ap (λ a. a.0.0) tied) (ap (λ a. a.0.1.1.0) tied) (ap (λ a. a.0.1.1.1.1.1) tied) (c.into_seat.ensures.seat ∙ ap seat_of c.into_parts-seated.ensures.desk) own c.into_seat.ensures.idle c.requires.begin.0 c.end.ensures.keeps c.end.ensures.ends c.serve_visits-served.ensures.conversation
