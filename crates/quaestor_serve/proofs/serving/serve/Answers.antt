-- all connections were handed back and all matchers joined
use Rattle.quaestor_serve.specs.Served.{IsAtLog, IsOfKeeper, KeptBy}
use Rattle.std.proofs.Common.{[], length, rules, refl, ap, sym, ◌∙◌, subst, ◌≡◌, true}
use Rattle.std.specs.List.{enumerate_from}
use Rattle.hub_model.specs.Setting.{Setting}
use Rattle.quaestor_serve.specs.Kept.{setting_at}
use Rattle.quaestor_serve.specs.Serves.{closings_by}
use Rattle.quaestor_serve.specs.declared.serve_end.ServeWhy.TheVariants.{Limit}
use Rattle.quaestor_serve.proofs.HallLemmas.{none_out}
use Rattle.quaestor_serve.proofs.ServesLemmas.{ends_later, none_of, serves_none, serves_at_once, serves_all, work_stays}
use Rattle.quaestor_serve.proofs.serving.serve.Goals as goal

pub returns-then-connections-eq0 : goal.returns-then-connections-eq0
returns-then-connections-eq0 g c = serves_at_once g.P.From.Source.at g.P.To.Sink.at g.P.To.Sink.ended g.C.Clock.tick (KeptBy g.Q.Hand.Keeping.log g.Q.Hand.Keeping.keeps) (g.C.Clone.is_clone c.args.clock.now) (IsOfKeeper g.Q.Keeper.opens g.Q.Hand.Keeping.log c.args.keeper.now) (g.Q.Keeper.kept c.args.keeper.now) c.args.config c.args.crew.trim (g.P.Doors.at c.args.doors.now) c.args.connections (record { connections = c.args.connections; why = Limit }) (search rules) refl refl

pub returns-in_default : goal.returns-in_default
returns-in_default g c = serves_none g.P.From.Source.at g.P.To.Sink.at g.P.To.Sink.ended g.C.Clock.tick (KeptBy g.Q.Hand.Keeping.log g.Q.Hand.Keeping.keeps) (g.C.Clone.is_clone c.args.clock.now) (IsOfKeeper g.Q.Keeper.opens g.Q.Hand.Keeping.log c.args.keeper.now) (g.Q.Keeper.kept c.args.keeper.now) c.args.config c.args.crew.trim (g.P.Doors.at c.args.doors.now) c.args.connections _ (search rules) c.no_memory.ensures

pub returns-in_default-hall_of : goal.returns-in_default-hall_of
returns-in_default-hall_of g c = serves_none g.P.From.Source.at g.P.To.Sink.at g.P.To.Sink.ended g.C.Clock.tick (KeptBy g.Q.Hand.Keeping.log g.Q.Hand.Keeping.keeps) (g.C.Clone.is_clone c.args.clock.now) (IsOfKeeper g.Q.Keeper.opens g.Q.Hand.Keeping.log c.args.keeper.now) (g.Q.Keeper.kept c.args.keeper.now) c.args.config c.args.crew.trim (g.P.Doors.at c.args.doors.now) c.args.connections _ (search rules) c.no_memory-in_default-hall_of.ensures

pub returns-in_default-clone : goal.returns-in_default-clone
returns-in_default-clone g c = serves_none g.P.From.Source.at g.P.To.Sink.at g.P.To.Sink.ended g.C.Clock.tick (KeptBy g.Q.Hand.Keeping.log g.Q.Hand.Keeping.keeps) (g.C.Clone.is_clone c.args.clock.now) (IsOfKeeper g.Q.Keeper.opens g.Q.Hand.Keeping.log c.args.keeper.now) (g.Q.Keeper.kept c.args.keeper.now) c.args.config c.args.crew.trim (g.P.Doors.at c.args.doors.now) c.args.connections _ (search rules) c.no_memory-in_default-clone.ensures

pub serve_all-end-requires-clause-keeps : goal.serve_all-end-requires-clause-keeps
serve_all-end-requires-clause-keeps g c = λ lifetimes outlives fails. subst (λ (s : Setting). s.keeps ≡ true) (sym c.in-Ok-hall_of.ensures.setting) (c.requires.keeps fails)

pub stop_matchers-requires-clause-work : goal.stop_matchers-requires-clause-work
stop_matchers-requires-clause-work g c = work_stays g.C.Clock.tick c.args.crew.trim (g.C.Clone.is_clone c.args.clock.now) c.serve_all-end.new.hall c.drain.new.hall c.serve_all-end.new.matchers.items c.drain.ensures.hands.stays.0 c.serve_all-end.ensures.work

pub returns : goal.returns
returns g c =
    let end = c.serve_all-end.result in
    let filled = c.serve_all-end.ensures.ends in
    serves_all g.P.From.Source.at g.P.To.Sink.at g.P.To.Sink.ended g.C.Clock.tick (KeptBy g.Q.Hand.Keeping.log g.Q.Hand.Keeping.keeps) (g.C.Clone.is_clone c.args.clock.now) (IsAtLog g.Q.Hand.Keeping.log (g.Q.Keeper.log c.serve_all-end.new.keeper)) (g.Q.Keeper.kept c.args.keeper.now) (g.Q.Keeper.may_fail c.args.keeper.now) c.args.config c.args.crew.trim (g.P.Doors.at c.args.doors.now) (g.P.Doors.at c.drain.new.doors) c.drain.new.hall c.stop_matchers.new.hall c.args.connections end filled.0
    (IsOfKeeper g.Q.Keeper.opens g.Q.Hand.Keeping.log c.args.keeper.now) (λ some hand. c.serve_all-end.ensures.opened some (g.Q.Hand.Keeping.log hand))
    c.requires.keeps
    (ap setting_at c.drain.ensures.hands.stays.0 ∙ c.serve_all-end.ensures.setting ∙ c.in-Ok-hall_of.ensures.setting)
    (none_of _ c.drain.new.hall.running.items c.drain.new.hall.running.ok.0 c.drain.ensures.empty)
    c.stop_matchers.ensures.ready.1
    (c.stop_matchers.ensures.whole (none_out c.drain.new.hall.running.items c.drain.new.hall.seat (length c.serve_all-end.new.matchers.items) (ap length (none_of _ c.drain.new.hall.running.items c.drain.new.hall.running.ok.0 c.drain.ensures.empty)) (c.drain.ensures.hands.out (length c.serve_all-end.new.matchers.items) c.serve_all-end.ensures.out)))
    c.stop_matchers.ensures.gathers
    (ends_later end.why _ _ _ end.connections c.args.connections c.drain.ensures.hands.faults filled.2.1)
    filled.1
    (c.drain.ensures.hands.going c.args.clock.now (g.Q.Keeper.log c.serve_all-end.new.keeper) (enumerate_from 0 filled.0) _ [] end.connections (closings_by end.why) filled.2.0)
