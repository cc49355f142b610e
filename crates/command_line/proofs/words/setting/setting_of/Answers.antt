-- a value is refused; and what all of them ask for
use Rattle.std.proofs.Common.{ap, ◌∙◌}
use Rattle.hub_model.specs.Setting.{Setting}
use Rattle.command_line.proofs.WordLemmas.{of_error, setting_is}
use Rattle.command_line.proofs.words.setting.setting_of.Goals as goal

pub returns-in_err-absent-clause-err : goal.returns-in_err-absent-clause-err
returns-in_err-absent-clause-err c = of_error _ c.from_residual-in_err-absent.result (λ g s. c.in_err-absent.ensures.err g.ttl_absent s.absent)

pub returns-in_err-shared-clause-err : goal.returns-in_err-shared-clause-err
returns-in_err-shared-clause-err c = of_error _ c.from_residual-in_err-shared.result (λ g s. c.in_err-shared.ensures.err g.ttl_shared s.shared)

pub returns-in_err-hosts-clause-err : goal.returns-in_err-hosts-clause-err
returns-in_err-hosts-clause-err c = of_error _ c.from_residual-in_err-hosts.result (λ g s. c.in_err-hosts.ensures.err g.hosts s.hosts)

pub returns-clause-ok : goal.returns-clause-ok
returns-clause-ok c =
    setting_is _ _ _ _ _ _ c.with_lifetimes-lasting.ensures c.in_ok-absent.ensures.most c.in_ok-shared.ensures.most c.in_ok-config.ensures.ok c.in_ok-config.ensures.guard
    c.in_ok-absent.ensures.ok c.in_ok-shared.ensures.ok c.in_ok-hosts.ensures.ok

pub returns-clause-keeps : goal.returns-clause-keeps
returns-clause-keeps c = ap (λ (x : Setting). x.keeps) c.with_lifetimes-lasting.ensures ∙ c.in_ok-config.ensures.keeps

pub returns-clause-origins : goal.returns-clause-origins
returns-clause-origins c = ap (λ (x : Setting). x.origins) c.with_lifetimes-lasting.ensures ∙ c.in_ok-config.ensures.origins

pub returns-clause-hosts : goal.returns-clause-hosts
returns-clause-hosts c = ap (λ (x : Setting). x.hosts) c.with_lifetimes-lasting.ensures ∙ c.in_ok-config.ensures.hosts
