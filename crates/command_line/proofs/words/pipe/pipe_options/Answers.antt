-- what the options ask for, with a file or without one
use Rattle.std.proofs.Common.{ap, ◌∙◌}
use Rattle.hub_model.specs.Setting.{Setting}
use Rattle.command_line.proofs.WordLemmas.{kept_is, of_error}
use Rattle.command_line.proofs.words.pipe.pipe_options.Goals as goal

pub returns-in_err-clock-clause-err : goal.returns-in_err-clock-clause-err
returns-in_err-clock-clause-err c = of_error _ c.from_residual-in_err-clock.result (λ ask p. c.in_err-clock.ensures.err ask.at p.clock)

pub returns-in_err-store-clause-err : goal.returns-in_err-store-clause-err
returns-in_err-store-clause-err c = of_error _ c.from_residual-in_err-store.result (λ ask p. c.in_err-store.ensures.err ask.store p.store)

pub returns-clause-ok : goal.returns-clause-ok
returns-clause-ok c = record {
  setting = kept_is _ _ _ _ _ c.in_ok-setting.ensures.ok c.in_ok-setting.ensures.keeps c.in_ok-store.ensures.ok c.kept_config.ensures;
  origins = ap (λ (x : Setting). x.origins) c.kept_config.ensures ∙ c.in_ok-setting.ensures.origins;
  clock = c.in_ok-clock.ensures.ok;
  store = c.in_ok-store.ensures.ok;
}

pub returns-clause-none : goal.returns-clause-none
returns-clause-none c = ap (λ (x : Setting). x.hosts) c.kept_config.ensures ∙ c.in_ok-setting.ensures.hosts
