-- the store was filled, and then connections were served
use Rattle.quaestor_serve.specs.Serves.{Ends}
use Rattle.quaestor_serve.specs.Served.{IsAtLog, KeptBy}
use Rattle.std.proofs.Common.{◌≡◌, ℕ, true, List, Option, length, sym, ap, ◌∙◌, subst, arith}
use Rattle.std.specs.List.{enumerate_from}
use Rattle.hub_model.specs.declared.entry.Entry.{Entry}
use Rattle.hub_model.specs.Setting.{Setting}
use Rattle.quaestor_serve.specs.Halls.{seen_in}
use Rattle.quaestor_serve.specs.Kept.{setting_at}
use Rattle.turnstile.proofs.PlaceLemmas.{places_rise, rises_once}
use Rattle.turnstile.specs.Seats.{HasOut}
use Rattle.quaestor_serve.proofs.GoingLemmas.{going_begins, room_for_none}
use Rattle.quaestor_serve.proofs.ServesLemmas.{ends_empty, work_none}
use Rattle.quaestor_serve.proofs.serving.serve_all.Goals as goal

-- the store could not be filled: no connection came
pub returns-in-Err-clause-ends : goal.returns-in-Err-clause-ends
returns-in-Err-clause-ends g c =
    let first : List Entry = seen_in c.fill.new.hall in
    let nobody = c.unfilled.ensures.0 in (
      first,
      record { filling = c.fill.ensures.filled.filling; restored = λ some. absurd (omega (arith, some, nobody)); none = c.fill.ensures.none },
      ends_empty g.P.From.Source.at g.P.To.Sink.at g.P.To.Sink.ended g.C.Clock.tick (KeptBy g.Q.Hand.Keeping.log g.Q.Hand.Keeping.keeps) (g.C.Clone.is_clone c.args.clock.now) (IsAtLog g.Q.Hand.Keeping.log (g.Q.Keeper.log c.fill.new.keeper)) (enumerate_from 0 first) (g.P.Doors.at c.args.doors.now) c.fill.new.hall c.args.connections c.unfilled.result c.requires.some c.unfilled.ensures
          (going_begins g.P.From.Source.at g.P.To.Sink.at g.P.To.Sink.ended g.C.Clock.tick (KeptBy g.Q.Hand.Keeping.log g.Q.Hand.Keeping.keeps) (g.C.Clone.is_clone c.args.clock.now) (IsAtLog g.Q.Hand.Keeping.log (g.Q.Keeper.log c.fill.new.keeper)) (enumerate_from 0 first) (g.P.Doors.at c.args.doors.now) c.fill.new.hall (c.fill.ensures.filled.running ∙ c.requires.empty.0) c.fill.ensures.filled.met (rises_once (enumerate_from 0 first) (places_rise 0 first))),
    )

pub returns-in-Err-clause-out : goal.returns-in-Err-clause-out
returns-in-Err-clause-out g c =
    let nobody : length c.fill.new.hall.running.items ≡ 0 = ap length (c.fill.ensures.filled.running ∙ c.requires.empty.0) in
    let none : length c.args.matchers.now.items ≡ 0 = ap length c.requires.none in
    subst (λ (n : ℕ). HasOut n c.fill.new.hall.seat) (omega (arith, nobody, none)) c.fill.ensures.filled.out

pub returns-in-Err-clause-setting : goal.returns-in-Err-clause-setting
returns-in-Err-clause-setting g c = ap setting_at c.fill.ensures.filled.turnstile

pub returns-in-Err-clause-room : goal.returns-in-Err-clause-room
returns-in-Err-clause-room g c = room_for_none (g.P.Doors.at c.args.doors.now).away c.fill.new.hall.running.items (c.fill.ensures.filled.running ∙ c.requires.empty.0)

pub serve_filled-requires-clause-keeps : goal.serve_filled-requires-clause-keeps
serve_filled-requires-clause-keeps g c = λ lifetimes outlives fails. subst (λ (s : Setting). s.keeps ≡ true) (sym (ap setting_at c.fill.ensures.filled.turnstile)) (c.requires.keeps (sym c.fill.ensures.keeper ∙ fails))

pub serve_filled-requires-clause-empty : goal.serve_filled-requires-clause-empty
serve_filled-requires-clause-empty g c = λ lifetimes outlives. c.fill.ensures.filled.running ∙ c.requires.empty.0

pub returns-in-Ok-clause-setting : goal.returns-in-Ok-clause-setting
returns-in-Ok-clause-setting g c = c.serve_filled.ensures.setting ∙ ap setting_at c.fill.ensures.filled.turnstile

pub returns-in-Ok-clause-out : goal.returns-in-Ok-clause-out
returns-in-Ok-clause-out g c = c.serve_filled.ensures.out c.fill.ensures.filled.out

pub returns-in-Ok-clause-ends : goal.returns-in-Ok-clause-ends
returns-in-Ok-clause-ends g c =
    let first : List Entry = seen_in c.fill.new.hall in (
      first,
      record { filling = c.fill.ensures.filled.filling; restored = λ some. c.in-Ok.ensures.written; none = c.fill.ensures.none },
      subst (λ (l : Option g.row.Q-Hand-Log.Denot). Ends g.P.From.Source.at g.P.To.Sink.at g.P.To.Sink.ended g.C.Clock.tick (KeptBy g.Q.Hand.Keeping.log g.Q.Hand.Keeping.keeps) (g.C.Clone.is_clone c.args.clock.now) (IsAtLog g.Q.Hand.Keeping.log l) (enumerate_from 0 first) (g.P.Doors.at c.args.doors.now) (g.P.Doors.at c.serve_filled.new.doors) c.serve_filled.new.hall c.args.connections c.serve_filled.result) (sym c.serve_filled.ensures.log)
          (c.serve_filled.ensures.ends (enumerate_from 0 first) c.fill.ensures.filled.met (rises_once (enumerate_from 0 first) (places_rise 0 first))),
    )

pub returns-in-Err-clause-work : goal.returns-in-Err-clause-work
returns-in-Err-clause-work g c = work_none g.C.Clock.tick c.args.crew.trim (g.C.Clone.is_clone c.args.clock.now) c.fill.new.hall c.args.matchers.now.items c.requires.none

pub returns-in-Err-clause-opened : goal.returns-in-Err-clause-opened
returns-in-Err-clause-opened g c = λ some. let nobody = c.unfilled.ensures.0 in absurd (omega (arith, some, nobody))

pub returns-in-Ok-clause-opened : goal.returns-in-Ok-clause-opened
returns-in-Ok-clause-opened g c = λ some place is. c.in-Ok.ensures.opened place (sym c.serve_filled.ensures.log ∙ is)
