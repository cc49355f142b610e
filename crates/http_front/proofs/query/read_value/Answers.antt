-- what is decoded so far, and the rest decoded, are the value
use Rattle.std.proofs.Common.{◌∙◌, ◌++◌, [], ◌∷◌, ap, sym}
use Rattle.std.specs.Option.{option_copied}
use Rattle.percent_encoding.specs.Percent.{percent_decode}
use Rattle.http_front.specs.Query.{decoded}
use Rattle.http_front.proofs.ValueLemmas.{value_last, value_next}
use Rattle.http_front.proofs.query.read_value.Goals as goal

pub returns-in_default : goal.returns-in_default
returns-in_default c =
    let prefix = c.loop-value.value.items in
    let rest = c.loop-value.rest.now in
    let last = sym c.cut_at.ensures.behind ∙ ap option_copied c.in_default.is in
    c.in_ok-append_to.ensures.ok
    ∙ ap (λ l. prefix ++ l) (c.percent_decode.ensures.bytes ∙ ap percent_decode c.cut_at.ensures.ahead)
    ∙ value_last prefix rest last ∙ c.loop-value.invariant

pub loop-value-preserved : goal.loop-value-preserved
loop-value-preserved c =
    let prefix = c.loop-value.value.items in
    let rest = c.loop-value.rest.now in
    let others = c.in-Some.others.now in
    let next = sym c.cut_at.ensures.behind ∙ ap option_copied c.in-Some.is in
    let grown =
    c.in_ok-append_to.ensures.ok
    ∙ ap (λ l. prefix ++ l) (c.percent_decode.ensures.bytes ∙ ap percent_decode c.cut_at.ensures.ahead) in
    ap (λ l. l ++ decoded others) (c.in_ok-push.ensures.items ∙ ap (λ l. l ++ 32 ∷ []) grown)
    ∙ sym (value_next prefix rest others next) ∙ c.loop-value.invariant
