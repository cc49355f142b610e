-- what is no UTF-8 is the value of no field
use Rattle.std.proofs.Common.{◌∙◌, ap, sym}
use Rattle.std.proofs.lemmas.Bool.{true≢false}
use Rattle.http_front.specs.Query.{decoded, valued}
use Rattle.http_front.proofs.QueryLemmas.{no_text, utf8_no}
use Rattle.http_front.proofs.query.read_field.Goals as goal

pub returns-in_default-from_utf8 : goal.returns-in_default-from_utf8
returns-in_default-from_utf8 c =
    let value = decoded c.args.value.now in
    let never = rw c.in_ok-read_value.ensures at c.in_default-from_utf8.ensures.succeeds in
    sym (ap (λ f. valued f value) (sym c.field_named.ensures ∙ c.in-Some.is) ∙ no_text c.in-Some.field value (utf8_no value (λ text. true≢false (sym (never text)))))
