use Rattle.std.proofs.Common.{sym, ◌∙◌, ap}
use Rattle.std.specs.Option.{option_copied}
use Rattle.std.specs.Prelude.{bytes_eq}
use Rattle.http_front.proofs.CutLemmas.{parted}
use Rattle.http_front.proofs.OriginLemmas.{told_first, told_last, told_next, same_origin}
use Rattle.http_front.proofs.origins.told_to.Goals as goal

pub returns-then-eq-clause-is : goal.returns-then-eq-clause-is
returns-then-eq-clause-is c =
    let page = c.args.page.now in
    let origin = c.cut_at.result.0.now in
    let same = sym c.eq.ensures ∙ c.if-eq.true in
    let first = ap (bytes_eq page) (sym c.cut_at.ensures.ahead) ∙ same in
    c.if_origin.ensures.is ∙ sym (same_origin page origin same) ∙ sym (told_first page c.loop-page.rest.now first) ∙ c.loop-page.invariant

pub returns-in_default-clause-is : goal.returns-in_default-clause-is
returns-in_default-clause-is c =
    let page = c.args.page.now in
    let other = ap (bytes_eq page) (sym c.cut_at.ensures.ahead) ∙ sym c.eq.ensures ∙ c.if-eq.false in
    let last = sym c.cut_at.ensures.behind ∙ ap option_copied c.in_default.is in
    sym (told_last page c.loop-page.rest.now last other) ∙ c.loop-page.invariant

pub loop-page-preserved : goal.loop-page-preserved
loop-page-preserved c =
    let page = c.args.page.now in
    let other = ap (bytes_eq page) (sym c.cut_at.ensures.ahead) ∙ sym c.eq.ensures ∙ c.if-eq.false in
    let next = sym c.cut_at.ensures.behind ∙ ap option_copied c.in-Some.is in
    sym (told_next page c.loop-page.rest.now c.in-Some.others.now next other) ∙ c.loop-page.invariant

pub loop-page-smaller : goal.loop-page-smaller
loop-page-smaller c =
    let next = sym c.cut_at.ensures.behind ∙ ap option_copied c.in-Some.is in
    (parted 32 c.loop-page.rest.now c.in-Some.others.now next).less
