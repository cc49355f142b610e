-- what became idle is taken
use Rattle.std.proofs.Common.{ap, sym, ◌∙◌}
use Rattle.hub_core.specs.CopiesView.{CopiesView, is_idle}
use Rattle.hub_core.specs.Lifetimes.{went_idle}
use Rattle.hub_core.proofs.LifeLemmas.{drops-as}
use Rattle.hub_core.proofs.ReadLemmas.{passes-idle, kept-passed}
use Rattle.hub_core.proofs.passing.pass.Goals as goal

pub returns-clause-passes : goal.returns-clause-passes
returns-clause-passes c = passes-idle c.args.moment c.args.copies.now c.advance.new.self c.drop_idle.new.copies c.advance.ensures.passes c.drop_idle.ensures.rest

pub returns-clause-kept : goal.returns-clause-kept
returns-clause-kept c = λ journal front keeps.
    c.drop_idle.ensures.kept journal front (kept-passed c.args.moment c.args.copies.now c.advance.new.self c.args.queries.now.entries c.advance.ensures.passes c.advance.ensures.idle journal front keeps)

pub returns-clause-dropped : goal.returns-clause-dropped
returns-clause-dropped c =
    drops-as (is_idle c.advance.new.self) (went_idle c.args.copies.now c.drop_idle.new.copies) c.args.life.now c.drop_idle.new.life
    (λ key. c.advance.ensures.idle key ∙ ap (λ (h : CopiesView). went_idle c.args.copies.now h key) (sym (c.drop_idle.ensures.rest)))
    c.drop_idle.ensures.dropped
