-- the file has a keeper, or it is refused
use Rattle.std.proofs.Common.{Bool, refl, ap, ◌∙◌, inl, inr}
use Rattle.hub_model.specs.Setting.{Setting}
use Rattle.quaestor_prog.specs.Serving.{guarded}
use Rattle.quaestor_prog.proofs.RunLemmas.{kept_as, none_timed}
use Rattle.quaestor_prog.proofs.ServingLemmas.{guarded_keeps}
use Rattle.quaestor_prog.proofs.program.pipe_kept.Goals as goal

pub pipe_at-requires-in-Ok-after_bounds : goal.pipe_at-requires-in-Ok-after_bounds
pipe_at-requires-in-Ok-after_bounds g c = λ lifetimes outlives fails. ap (λ (s : Setting). s.keeps) c.guarded-config.ensures ∙ guarded_keeps _ c.args.options.config (g.P.Keeper.Keeper.moment c.in-Ok.keeper) ∙ (c.args.options.told ∙ c.in-Ok.ensures.keeps fails)

pub returns-in-Err-clause-kept : goal.returns-in-Err-clause-kept
returns-in-Err-clause-kept g c = λ given. inl (record { status_is = refl; source = refl; sink = c.end.ensures.keeps; is_ended = c.end.ensures.ends; ticks = none_timed g.C.Clock.tick c.args.clock.now c.args.options.clock })

pub returns-in-Ok-clause-kept : goal.returns-in-Ok-clause-kept
returns-in-Ok-clause-kept g c = λ given.
    let same = c.guarded-config.ensures ∙ ap (λ (b : Bool). guarded b c.args.options.config (g.P.Keeper.Keeper.moment c.in-Ok.keeper)) given in
    inr (inr (record {
      keeper = c.in-Ok.keeper;
      opened = rw c.longest_of.ensures at c.in-Ok.ensures.opens;
      run = kept_as (g.P.Keeper.Keeper.opens c.in-Ok.keeper) g.P.Keeper.Hand.Keeping.log g.P.Keeper.Hand.Keeping.keeps (g.P.Keeper.Keeper.kept c.in-Ok.keeper) _ _ _ _ _ _ _ same c.pipe_at-in-Ok.ensures.kept;
    }))
