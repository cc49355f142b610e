use Rattle.std.proofs.Common.{get_or, sym, ◌∙◌, ◌||◌, ap₂}
use Rattle.std.proofs.lemmas.List.{get_or_default}
use Rattle.httparse.specs.declared.spans.HeaderSpan.{HeaderSpan}
use Rattle.http_message.specs.Fields.{has_option}
use Rattle.http_message.proofs.FieldLemmas.{any_more, any_last, any_nil}
use Rattle.http_message.proofs.fields.lists.Goals as goal

pub loop-field-init : goal.loop-field-init
loop-field-init c = any_nil (has_option c.args.option.now) c.args.name.now

pub returns-then-is_listed : goal.returns-then-is_listed
returns-then-is_listed c =
    let fields = c.args.fields.now in
    let i = c.loop-field.field-index in
    let none : HeaderSpan = record { name = record { start = 0; end = 0 }; value = record { start = 0; end = 0 } } in
    let field = get_or fields i none in
    let below = c.loop-field-test.true in
    let more = any_more (has_option c.args.option.now) c.args.text.now c.args.name.now fields i field below
    (get_or_default fields i none field below) in
    sym (any_last (has_option c.args.option.now) c.args.text.now c.args.name.now fields _
    (more ∙ ap₂ (λ a b. a || b) c.loop-field.invariant (sym c.is_listed.ensures ∙ c.if-is_listed.true)))

pub loop-field-preserved : goal.loop-field-preserved
loop-field-preserved c =
    let fields = c.args.fields.now in
    let i = c.loop-field.field-index in
    let none : HeaderSpan = record { name = record { start = 0; end = 0 }; value = record { start = 0; end = 0 } } in
    let field = get_or fields i none in
    let below = c.loop-field-test.true in
    let more = any_more (has_option c.args.option.now) c.args.text.now c.args.name.now fields i field below
    (get_or_default fields i none field below) in
    more ∙ ap₂ (λ a b. a || b) c.loop-field.invariant (sym c.is_listed.ensures ∙ c.if-is_listed.false)
