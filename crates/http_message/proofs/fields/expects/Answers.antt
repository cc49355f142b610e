use Rattle.std.proofs.Common.{get_or, sym, ◌∙◌, codes, ◌||◌, ap₂}
use Rattle.std.proofs.lemmas.List.{get_or_default}
use Rattle.httparse.specs.declared.spans.HeaderSpan.{HeaderSpan}
use Rattle.std.specs.Str.{str_eq_ignore_ascii_case}
use Rattle.http_message.proofs.FieldLemmas.{any_more, any_last, any_nil}
use Rattle.http_message.proofs.fields.expects.Goals as goal

pub loop-field-init : goal.loop-field-init
loop-field-init c = any_nil (λ value. str_eq_ignore_ascii_case value (codes "100-continue")) (codes "expect")

pub returns-then-is_expectation : goal.returns-then-is_expectation
returns-then-is_expectation c =
    let fields = c.args.fields.now in
    let i = c.loop-field.field-index in
    let none : HeaderSpan = record { name = record { start = 0; end = 0 }; value = record { start = 0; end = 0 } } in
    let field = get_or fields i none in
    let below = c.loop-field-test.true in
    let more = any_more (λ value. str_eq_ignore_ascii_case value (codes "100-continue")) c.args.text.now (codes "expect") fields i field below
    (get_or_default fields i none field below) in
    sym (any_last (λ value. str_eq_ignore_ascii_case value (codes "100-continue")) c.args.text.now (codes "expect") fields _
    (more ∙ ap₂ (λ a b. a || b) c.loop-field.invariant (sym c.is_expectation.ensures ∙ c.if-is_expectation.true)))

pub loop-field-preserved : goal.loop-field-preserved
loop-field-preserved c =
    let fields = c.args.fields.now in
    let i = c.loop-field.field-index in
    let none : HeaderSpan = record { name = record { start = 0; end = 0 }; value = record { start = 0; end = 0 } } in
    let field = get_or fields i none in
    let below = c.loop-field-test.true in
    let more = any_more (λ value. str_eq_ignore_ascii_case value (codes "100-continue")) c.args.text.now (codes "expect") fields i field below
    (get_or_default fields i none field below) in
    more ∙ ap₂ (λ a b. a || b) c.loop-field.invariant (sym c.is_expectation.ensures ∙ c.if-is_expectation.false)
