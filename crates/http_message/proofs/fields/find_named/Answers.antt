use Rattle.std.proofs.Common.{get_or}
use Rattle.std.proofs.lemmas.List.{get_or_default, append-nil}
use Rattle.httparse.specs.declared.spans.HeaderSpan.{HeaderSpan}
use Rattle.http_message.proofs.FieldLemmas.{values_more, values-nil}
use Rattle.http_message.proofs.fields.find_named.Goals as goal

pub loop-field-init : goal.loop-field-init
loop-field-init c = values-nil c.args.name.now

pub loop-field-preserved-then-not-is_named : goal.loop-field-preserved-then-not-is_named
loop-field-preserved-then-not-is_named c =
    let fields = c.args.fields.now in
    let i = c.loop-field.field-index in
    let none : HeaderSpan = record { name = record { start = 0; end = 0 }; value = record { start = 0; end = 0 } } in
    let field = get_or fields i none in
    let below = c.loop-field-test.true in
    let more = values_more c.args.text.now c.args.name.now fields i field below (get_or_default fields i none field below) in
    rw (more, ← c.is_named.ensures, c.if-not-is_named.true, append-nil) c.loop-field.invariant

pub loop-field-preserved : goal.loop-field-preserved
loop-field-preserved c =
    let fields = c.args.fields.now in
    let i = c.loop-field.field-index in
    let none : HeaderSpan = record { name = record { start = 0; end = 0 }; value = record { start = 0; end = 0 } } in
    let field = get_or fields i none in
    let below = c.loop-field-test.true in
    let more = values_more c.args.text.now c.args.name.now fields i field below (get_or_default fields i none field below) in
    rw (more, ← c.is_named.ensures, c.if-not-is_named.false)
    (rw c.of.ensures at (c.with-found.ensures _ c.loop-field.invariant))
