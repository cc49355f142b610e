use Rattle.std.proofs.Common.{sym, ◌∙◌, ap}
use Rattle.std.specs.Option.{option_copied}
use Rattle.std.specs.Prelude.{bytes_eq}
use Rattle.http_front.specs.Query.{name_of}
use Rattle.http_front.proofs.CutLemmas.{parted}
use Rattle.http_front.proofs.QueryLemmas.{among_first, among_last, among_next}
use Rattle.http_front.proofs.query.is_among.Goals as goal

pub returns-then-eq : goal.returns-then-eq
returns-then-eq c =
    let name = c.args.name.now in
    let is = c.name_of.ensures ∙ ap name_of c.cut_at.ensures.ahead in
    sym (among_first name c.loop-name.rest.now (ap (λ n. bytes_eq n name) (sym is) ∙ sym c.eq.ensures ∙ c.if-eq.true))
    ∙ c.loop-name.invariant

pub returns-in_default : goal.returns-in_default
returns-in_default c =
    let name = c.args.name.now in
    let is = c.name_of.ensures ∙ ap name_of c.cut_at.ensures.ahead in
    let last = sym c.cut_at.ensures.behind ∙ ap option_copied c.in_default.is in
    sym (among_last name c.loop-name.rest.now last (ap (λ n. bytes_eq n name) (sym is) ∙ sym c.eq.ensures ∙ c.if-eq.false))
    ∙ c.loop-name.invariant

pub loop-name-preserved : goal.loop-name-preserved
loop-name-preserved c =
    let name = c.args.name.now in
    let is = c.name_of.ensures ∙ ap name_of c.cut_at.ensures.ahead in
    let next = sym c.cut_at.ensures.behind ∙ ap option_copied c.in-Some.is in
    sym (among_next name c.loop-name.rest.now c.in-Some.others.now next
    (ap (λ n. bytes_eq n name) (sym is) ∙ sym c.eq.ensures ∙ c.if-eq.false))
    ∙ c.loop-name.invariant

pub loop-name-smaller : goal.loop-name-smaller
loop-name-smaller c =
    let next = sym c.cut_at.ensures.behind ∙ ap option_copied c.in-Some.is in
    (parted 38 c.loop-name.rest.now c.in-Some.others.now next).less
