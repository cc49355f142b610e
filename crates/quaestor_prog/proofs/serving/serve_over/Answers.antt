-- the configuration has the guard of what is kept
use Rattle.std.proofs.Common.{Bool, ap, ◌∙◌, subst}
use Rattle.hub_model.specs.Setting.{Setting}
use Rattle.quaestor_prog.specs.Serving.{guarded}
use Rattle.quaestor_prog.proofs.ServingLemmas.{guarded_keeps}
use Rattle.command_line.proofs.WordLemmas.{is_data}
use Rattle.quaestor_serve.specs.Served.{IsOfKeeper, KeptBy}
use Rattle.quaestor_serve.specs.Serves.{Serves}
use Rattle.quaestor_prog.proofs.serving.serve_over.Goals as goal

pub serve-requires-clause-keeps : goal.serve-requires-clause-keeps
serve-requires-clause-keeps g c = λ lifetimes outlives fails. ap (λ (s : Setting). s.keeps) c.guarded-config.ensures ∙ guarded_keeps _ c.args.options.config (g.Q.Keeper.moment c.args.keeper.now) ∙ c.requires.keeps (c.requires.keeper fails)

pub returns : goal.returns
returns g c =
    let same = c.guarded-config.ensures ∙ ap (λ (b : Bool). guarded b c.args.options.config (g.Q.Keeper.moment c.args.keeper.now)) (is_data c.args.options.store) in
    subst (λ (s : Setting). Serves g.D.From.Source.at g.D.To.Sink.at g.D.To.Sink.ended g.C.Clock.tick (KeptBy g.Q.Hand.Keeping.log g.Q.Hand.Keeping.keeps) (g.C.Clone.is_clone c.args.clock.now) (IsOfKeeper g.Q.Keeper.opens g.Q.Hand.Keeping.log c.args.keeper.now) (g.Q.Keeper.kept c.args.keeper.now) s c.args.options.trim (g.D.Doors.at c.args.doors.now) (g.D.Doors.at c.serve.new.doors) c.args.options.connections c.serve.result) same c.serve.ensures
