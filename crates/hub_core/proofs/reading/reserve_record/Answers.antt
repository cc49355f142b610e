-- nothing is reserved where there is no memory for the copy of an absent record
use Rattle.std.proofs.Common.{[], ap, sym, ◌∙◌}
use Rattle.hub_core.specs.CopiesView.{CopiesView}
use Rattle.hub_core.proofs.reading.reserve_record.Goals as goal

pub returns-in-Err-clause-err : goal.returns-in-Err-clause-err
returns-in-Err-clause-err c =
    c.forget_reserved.ensures ∙ ap (λ (h : CopiesView). record h { ready = [] }) c.in_ok-reserve.ensures.rest ∙ (let none = sym c.requires in (λ i. record c.args.copies.now { ready = none i }))
