use Rattle.std.proofs.Common.{sym, ◌∙◌, ap, List, ℕ, true, false}
use Rattle.std.specs.Option.{option_copied}
use Rattle.std.specs.Prelude.{Option}
use Rattle.http_front.specs.Origins.{if_origin}
use Rattle.http_front.proofs.OriginLemmas.{leave_with, more_leave, no_names, one_leave}
use Rattle.http_front.proofs.origins.leave_of.Goals as goal

pub returns-then-is_empty : goal.returns-then-is_empty
returns-then-is_empty c =
    c.none.ensures ∙ sym (no_names c.args.origins.now (option_copied c.args.page) (sym c.is_empty.ensures ∙ c.if-is_empty.true))

pub returns-in-None : goal.returns-in-None
returns-in-None c =
    let some = sym c.is_empty.ensures ∙ c.if-is_empty.false in
    let last = sym c.cut_at.ensures.behind ∙ ap option_copied c.in-None.is in
    ap (λ (o : Option (List ℕ)). leave_with o false) (c.if_origin.ensures.is ∙ ap if_origin c.cut_at.ensures.ahead)
    ∙ sym (one_leave c.args.origins.now (option_copied c.args.page) some last)

pub returns-in-Some : goal.returns-in-Some
returns-in-Some c =
    let some = sym c.is_empty.ensures ∙ c.if-is_empty.false in
    let next = sym c.cut_at.ensures.behind ∙ ap option_copied c.in-Some.is in
    ap (λ (o : Option (List ℕ)). leave_with o true) c.told_of.ensures.is
    ∙ sym (more_leave c.args.origins.now _ (option_copied c.args.page) some next)
