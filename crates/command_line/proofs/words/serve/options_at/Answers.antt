-- the option shows no number of its range or no origins, or there is no log of this form; and what all of them ask for
use Rattle.std.proofs.Common.{ap, ◌∙◌}
use Rattle.hub_model.specs.Setting.{Setting}
use Rattle.command_line.proofs.WordLemmas.{any_origins, kept_is, of_error}
use Rattle.command_line.proofs.words.serve.options_at.Goals as goal

pub returns-in_err-trim-clause-err : goal.returns-in_err-trim-clause-err
returns-in_err-trim-clause-err c = of_error _ c.from_residual-in_err-trim.result (λ ask s. c.in_err-trim.ensures.err ask.trim s.trim)

pub returns-in_err-connections-clause-err : goal.returns-in_err-connections-clause-err
returns-in_err-connections-clause-err c = of_error _ c.from_residual-in_err-connections.result (λ ask s. c.in_err-connections.ensures.err ask.connections s.connections)

pub returns-in_err-origins-clause-err : goal.returns-in_err-origins-clause-err
returns-in_err-origins-clause-err c = of_error _ c.from_residual-in_err-origins.result (λ ask s. c.in_err-origins.ensures.err ask.setting.origins s.origins)

pub returns-in_err-watching-clause-err : goal.returns-in_err-watching-clause-err
returns-in_err-watching-clause-err c = of_error _ c.from_residual-in_err-watching.result (λ ask s. c.in_err-watching.ensures.err ask.watching s.watching)

pub returns-in_err-store-clause-err : goal.returns-in_err-store-clause-err
returns-in_err-store-clause-err c = of_error _ c.from_residual-in_err-store.result (λ ask s. c.in_err-store.ensures.err ask.store s.store)

pub returns-clause-ok : goal.returns-clause-ok
returns-clause-ok c = record {
  address = c.requires;
  setting = any_origins _ _ _ (kept_is _ _ _ _ _ c.in_ok-setting.ensures.ok c.in_ok-setting.ensures.keeps c.in_ok-store.ensures.ok c.kept_config.ensures);
  origins = c.in_ok-origins.ensures.ok;
  places = c.in_ok-places.ensures.ok;
  workers = c.in_ok-workers.ensures.ok;
  matchers = c.in_ok-matchers.ensures.ok;
  trim = c.in_ok-trim.ensures.ok;
  connections = c.in_ok-connections.ensures.ok;
  limits = c.in_ok-limits.ensures.ok;
  watching = c.in_ok-watching.ensures.ok;
  store = c.in_ok-store.ensures.ok;
}

pub returns-clause-origins : goal.returns-clause-origins
returns-clause-origins c = ap (λ (x : Setting). x.origins) c.kept_config.ensures ∙ c.in_ok-setting.ensures.origins

pub returns-clause-hosts : goal.returns-clause-hosts
returns-clause-hosts c = ap (λ (x : Setting). x.hosts) c.kept_config.ensures ∙ c.in_ok-setting.ensures.hosts
